pub mod Alphabets
pub mod Splits
pub mod Numerals
pub mod Texts
