-- Internal: what it does not.
pub mod Bursts
pub mod Choices
pub mod Moves
pub mod Offers
pub mod SettledObject
pub mod Tops
