-- Believed: what a top call's contract reaches.
pub mod PairOf
-- Internal: what it does not.
pub mod NotedFaults
pub mod Index
pub mod CheckerScopes
pub mod Before
