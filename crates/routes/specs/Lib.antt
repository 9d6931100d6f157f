pub mod Tests
pub mod Split
pub mod Choice
pub mod Rounds
