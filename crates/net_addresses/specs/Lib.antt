pub mod Addresses
pub mod Readings
pub mod Vectors
