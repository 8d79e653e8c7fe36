pub mod Descriptions
pub mod Written
pub mod Book
pub mod Said
pub mod Vectors
