pub mod Counts
pub mod Names
pub mod NameLaws
pub mod Kept
pub mod Read
pub mod Vectors
