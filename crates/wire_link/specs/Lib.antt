-- Internal: what it does not.
pub mod Bytes
pub mod Rings
pub mod Wires
