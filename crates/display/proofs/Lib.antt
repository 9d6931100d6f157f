pub mod Finite
pub mod OneOutcome
pub mod Turns
pub mod Conditions
pub mod Promises
pub mod Determined
