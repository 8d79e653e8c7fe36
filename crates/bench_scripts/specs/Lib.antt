pub mod Generator
pub mod Bench
pub mod Drawing
pub mod Vectors
