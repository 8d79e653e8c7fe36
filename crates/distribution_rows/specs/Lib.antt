pub mod Series
pub mod Lines
