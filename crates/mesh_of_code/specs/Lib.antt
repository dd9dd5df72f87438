-- Believed: what a top call's contract reaches.
pub mod Coded
pub mod CodeInvariant
-- Internal: what it does not.
pub mod Known
pub mod MadeValues
