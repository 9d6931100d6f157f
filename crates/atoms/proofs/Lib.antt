pub mod Truth
pub mod Bits
pub mod Count
