-- Internal: what it does not.
pub mod Views
pub mod Spelled
pub mod LastLines
pub mod MethodLines
