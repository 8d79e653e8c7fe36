pub mod Window
pub mod Summaries
pub mod Standing
pub mod Vectors
pub mod StandingLaws
