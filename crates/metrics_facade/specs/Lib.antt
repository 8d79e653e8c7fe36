pub mod Handles
pub mod Scopes
