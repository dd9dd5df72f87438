pub mod Blocks
pub mod BlockAllocation
pub mod Laws
pub mod Links
pub mod Queues
pub mod RegionWalks
pub mod SharedRegion
