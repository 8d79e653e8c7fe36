pub mod Passes
pub mod Registrations
pub mod Stands
