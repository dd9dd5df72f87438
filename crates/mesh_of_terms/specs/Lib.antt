-- Believed: what a top call's contract reaches.
pub mod Terms
pub mod TypedTerms
pub mod LineOf
pub mod RunOf
-- Internal: what it does not.
pub mod OneEvent
