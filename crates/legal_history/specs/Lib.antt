pub mod History
pub mod Places
pub mod Order
pub mod News
pub mod Object
pub mod Mapped
