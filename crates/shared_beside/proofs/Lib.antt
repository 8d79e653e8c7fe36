pub mod Both
pub mod Crossing
