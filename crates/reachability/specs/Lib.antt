-- Believed: what a top call's contract reaches.
pub mod Search
pub mod Renaming
pub mod Outcomes
-- Internal: what it does not.
pub mod Labels
