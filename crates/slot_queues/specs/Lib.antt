-- Internal: what it does not.
pub mod Lanes
pub mod Mail
pub mod Posted
pub mod Waiting
