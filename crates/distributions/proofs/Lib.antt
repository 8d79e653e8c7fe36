mod Fitting
mod Sides
pub mod Recorded
mod Building
