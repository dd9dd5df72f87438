-- Internal: what it does not.
pub mod ActOf
pub mod NodeSteps
