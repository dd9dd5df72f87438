-- Believed: what a top call's contract reaches.
pub mod FaultText
pub mod Programs
pub mod Inputs
-- Internal: what it does not.
pub mod Readers
