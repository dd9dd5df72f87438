-- Believed: what a top call's contract reaches.
pub mod WatchedRun
pub mod Waits
-- Internal: what it does not.
pub mod Acting
pub mod ObjectRows
pub mod Steps
