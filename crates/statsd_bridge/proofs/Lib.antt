pub mod Crossing
pub mod Heard
