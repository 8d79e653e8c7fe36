pub mod Crossing
pub mod Behind
pub mod Unmapped
pub mod Things
pub mod CallsMade
pub mod Rests
pub mod Rounds
