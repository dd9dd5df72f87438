-- Internal: what it does not.
pub mod Heaps
pub mod Layout
pub mod Parts
pub mod Rows
