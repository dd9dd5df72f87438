-- Internal: what it does not.
pub mod Numbered
pub mod Messages
