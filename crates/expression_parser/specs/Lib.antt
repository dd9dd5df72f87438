-- Internal: what it does not.
pub mod Groups
pub mod Literals
pub mod Reads
pub mod Parses
pub mod Nested
