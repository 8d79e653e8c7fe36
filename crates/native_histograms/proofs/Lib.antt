pub mod Indices
pub mod Bucketed
pub mod Filled
pub mod Observed
