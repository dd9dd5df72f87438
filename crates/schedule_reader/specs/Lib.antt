-- Believed: what a top call's contract reaches.
pub mod Entries
pub mod Events
pub mod Schedules
-- Internal: what it does not.
pub mod Repeats
pub mod Plans
pub mod ReaderFacts
pub mod EventRuns
