pub mod Bytes
pub mod Runs
pub mod Header
pub mod Encoding
pub mod Meaning
pub mod Ways
pub mod Promises
pub mod Determined
