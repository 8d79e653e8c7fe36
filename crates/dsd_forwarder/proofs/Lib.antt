pub mod Added
pub mod Crossing
pub mod Given
pub mod Registered
pub mod Runs
