pub mod Sitting
pub mod Alike
pub mod Turns
pub mod Histories
pub mod Flushes
