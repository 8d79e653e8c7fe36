pub mod Twice
pub mod Runs
pub mod Applying
pub mod Sent
