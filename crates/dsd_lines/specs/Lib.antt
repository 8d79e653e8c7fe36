pub mod Grammar
pub mod Reading
pub mod Texts
pub mod Written
pub mod Payloads
pub mod Frames
