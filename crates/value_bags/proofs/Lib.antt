pub mod Changes
pub mod Counted
pub mod Removed
pub mod Listed
pub mod Times
pub mod Walked
