-- Internal: what it does not.
pub mod StationOf
pub mod Outcomes
pub mod Parts
