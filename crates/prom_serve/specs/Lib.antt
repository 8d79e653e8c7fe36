pub mod Connections
pub mod Devices
pub mod Refusals
pub mod Serving
