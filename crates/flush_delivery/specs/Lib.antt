pub mod Delivered
pub mod Delivering
