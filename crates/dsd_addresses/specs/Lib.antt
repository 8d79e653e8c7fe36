pub mod Faults
pub mod Limits
pub mod Remotes
pub mod Vectors
