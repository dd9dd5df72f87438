-- Internal: what it does not.
pub mod Bytes
