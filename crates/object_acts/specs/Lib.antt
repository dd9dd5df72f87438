-- Internal: what it does not.
pub mod ClassesAndMethods
pub mod Acts
