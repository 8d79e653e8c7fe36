pub mod Counted
pub mod Bridge
pub mod Hearing
