pub mod Readings
pub mod Shows
