pub mod Crossing
mod Parts
mod Recorded
