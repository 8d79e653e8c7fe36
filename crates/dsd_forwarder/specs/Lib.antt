pub mod Building
pub mod Forwarding
pub mod Held
pub mod OwnCounters
pub mod Registering
pub mod Telemetry
