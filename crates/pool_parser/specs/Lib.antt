-- Internal: what it does not.
pub mod Tails
pub mod Declarations
pub mod Depths
