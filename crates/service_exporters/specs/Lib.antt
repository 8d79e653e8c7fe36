pub mod Flushes
pub mod Histories
