pub mod Draws
pub mod CallSteps
pub mod RoundLaws
pub mod Validity
