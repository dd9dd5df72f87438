-- Internal: what it does not.
pub mod Station
pub mod Whole
pub mod Fits
pub mod MergedRecord
pub mod AllQuiet
pub mod AnyOrder
