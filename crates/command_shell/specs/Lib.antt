-- Believed: what a top call's contract reaches.
pub mod Programs
pub mod Ends
pub mod Verdicts
-- Internal: what it does not.
pub mod Statuses
pub mod Writing
pub mod Results
