-- Believed: what a top call's contract reaches.
pub mod Spelling
pub mod Canonical
-- Internal: what it does not.
pub mod Renumbered
pub mod Known
pub mod SinkState
pub mod Parts
pub mod ReadBack
pub mod Renamed
pub mod SameProgram
