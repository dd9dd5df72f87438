-- Internal: what it does not.
pub mod Acts
pub mod Bits
