pub mod Fold
pub mod PlainFold
pub mod Views
pub mod Fitting
pub mod Vectors
