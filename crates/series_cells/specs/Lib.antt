pub mod Values
pub mod Cell
pub mod Pass
pub mod Series
