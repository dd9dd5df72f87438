-- Internal: what it does not.
pub mod Tables
pub mod RoutesOf
pub mod TableInvariant
