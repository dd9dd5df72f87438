-- Internal: what it does not.
pub mod Weights
pub mod Parts
pub mod Reduced
pub mod Arguments
pub mod Changes
