pub mod Fields
pub mod Program
pub mod Scan
pub mod Refusals
pub mod Answers
pub mod Letter
pub mod Rows
pub mod Reader
