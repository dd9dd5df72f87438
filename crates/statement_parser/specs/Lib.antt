-- Internal: what it does not.
pub mod Alternatives
pub mod Tails
