pub mod Queues
pub mod Passes
pub mod OneFact
pub mod Histograms
pub mod Series
pub mod Rounds
