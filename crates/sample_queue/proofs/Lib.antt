pub mod InOrder
pub mod Pushed
pub mod Rooted
pub mod TakenAll
