pub mod Calls
pub mod Things
pub mod Lines
pub mod Lanes
pub mod Owned
