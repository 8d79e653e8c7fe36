pub mod Printable
pub mod Groups
pub mod Progress
pub mod States
pub mod Seen
pub mod Home
pub mod Drained
pub mod Counted
pub mod Upkeep
pub mod Stepping
pub mod PagesAgain
pub mod LaneThings
pub mod Crossing
mod Given
pub mod Redirected
mod NamedSeries
mod RedirectedRows
pub mod Registering
mod KeptCells
mod LaneIndices
mod LaneRounds
pub mod CallKinds
pub mod KeptRows
pub mod PieceTexts
mod Printing
pub mod Looked
mod CopiedRules
mod Written
mod Titles
pub mod ValuePages
pub mod SampledRows
pub mod SampledPages
mod KeptBuckets
pub mod KeptWindows
mod Ranges
mod InRange
pub mod TimelyPages
