pub mod Entries
pub mod Bags
pub mod Stored
pub mod Vectors
pub mod Listing
pub mod Left
