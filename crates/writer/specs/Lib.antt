pub mod Content
pub mod Given
pub mod Meaning
pub mod Writes
