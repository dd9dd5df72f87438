pub mod Laws
pub mod LinearScan
pub mod Moves
pub mod Pools
