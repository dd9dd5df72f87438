-- Believed: what a top call's contract reaches.
pub mod Stream
pub mod Followed
pub mod Filled
pub mod FilledStream
-- Internal: what it does not.
pub mod Progress
pub mod FillProgress
pub mod FillingLines
pub mod FullLines
