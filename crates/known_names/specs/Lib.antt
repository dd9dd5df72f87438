-- Internal: what it does not.
pub mod OtherNames
pub mod Awaited
