pub mod Altered
pub mod Fitted
pub mod Plain
