pub mod Mapped
pub mod Few
pub mod Determined
pub mod Apart
