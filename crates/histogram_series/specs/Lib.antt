pub mod Entries
pub mod Series
pub mod Drains
pub mod Rows
pub mod Growth
