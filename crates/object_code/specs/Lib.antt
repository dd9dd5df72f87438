-- Believed: what a top call's contract reaches.
pub mod Listing
pub mod Read
pub mod FileBytes
pub mod Decode
-- Internal: what it does not.
pub mod Known
pub mod SinkState
pub mod ReadResults
