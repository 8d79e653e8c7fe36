pub mod Handing
pub mod Agreeing
pub mod Installing
pub mod Showing
