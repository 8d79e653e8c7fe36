pub mod Bare
pub mod Crossing
pub mod Found
pub mod Named
pub mod Owning
pub mod Reaching
pub mod Standing
