pub mod Native
pub mod Settings
pub mod Placed
pub mod Filled
pub mod Vectors
