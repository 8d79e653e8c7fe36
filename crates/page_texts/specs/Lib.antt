pub mod Rendered
pub mod Written
