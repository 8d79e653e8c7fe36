pub mod Plain
pub mod Shown
