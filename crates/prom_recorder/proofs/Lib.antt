mod Handed
mod Agreeing
pub mod Crossing
