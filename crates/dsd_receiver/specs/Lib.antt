pub mod Received
pub mod Receiving
pub mod Passes
pub mod Streams
