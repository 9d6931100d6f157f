pub mod Calls
pub mod Compare
pub mod Degrees
pub mod Rank
