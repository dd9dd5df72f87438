-- Believed: what a top call's contract reaches.
pub mod Reading
pub mod Writing
pub mod Outside
-- Internal: what it does not.
pub mod Memory
pub mod Edge
pub mod Gathered
