-- Internal: what it does not.
pub mod ObjectStates
pub mod Offers
