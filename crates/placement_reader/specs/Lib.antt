-- Believed: what a top call's contract reaches.
pub mod Forms
pub mod Placements
-- Internal: what it does not.
pub mod ReaderFacts
