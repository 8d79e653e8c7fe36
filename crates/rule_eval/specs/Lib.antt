pub mod Rules
pub mod Reading
pub mod Firing
pub mod FiringText
pub mod Evaluating
pub mod Streams
