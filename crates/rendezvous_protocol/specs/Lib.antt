-- Internal: what it does not.
pub mod Numbers
pub mod Outstanding
pub mod Packets
