-- Internal: what it does not.
pub mod Alike
pub mod Equal
pub mod States
