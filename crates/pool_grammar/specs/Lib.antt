-- Believed: what a top call's contract reaches.
pub mod Rules
pub mod Grammar
pub mod Derives
pub mod Nesting
pub mod Programs
-- Internal: what it does not.
pub mod Grammatical
