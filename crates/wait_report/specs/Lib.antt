-- Believed: what a top call's contract reaches.
pub mod Report
-- Internal: what it does not.
pub mod KnownRows
pub mod Calls
pub mod Cycles
