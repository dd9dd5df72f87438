pub mod NumberedLinks
pub mod NumberedWires
pub mod WireMap
pub mod AddedWires
pub mod AllAcknowledged
pub mod ReadyNodes
pub mod QuietNetworks
pub mod Laws
