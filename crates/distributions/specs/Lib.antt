pub mod Rules
pub mod Kinds
pub mod Recording
pub mod Builders
