-- Internal: what it does not.
pub mod CellLends
pub mod Ownership
pub mod Queues
pub mod RegionLends
pub mod Slots
