-- Internal: what it does not.
pub mod Meaning
pub mod Patterns
pub mod Readers
pub mod Rows
pub mod Tables
