pub mod CellSteps
pub mod GaugeSteps
pub mod Passes
pub mod Played
