-- Believed: what a top call's contract reaches.
pub mod Sorts
pub mod Verified
pub mod Faults
-- Internal: what it does not.
pub mod Verdict
pub mod Chained
pub mod StackEffects
