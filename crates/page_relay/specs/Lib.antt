pub mod Streams
pub mod Values
pub mod Merge
pub mod Gathering
pub mod Reading
pub mod Fitting
pub mod Vectors
