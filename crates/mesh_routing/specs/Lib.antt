-- Internal: what it does not.
pub mod Ways
pub mod Links
pub mod Nodes
