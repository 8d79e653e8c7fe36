pub mod ExporterLanes
pub mod BothRounds
