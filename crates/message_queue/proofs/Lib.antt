pub mod Entries
pub mod Kept
pub mod LeastStamps
pub mod Parts
