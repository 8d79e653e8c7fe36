pub mod Kept
pub mod Held
pub mod Landed
pub mod Cuts
pub mod Ordered
