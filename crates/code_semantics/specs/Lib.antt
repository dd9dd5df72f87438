-- Believed: what a top call's contract reaches.
pub mod Frames
pub mod Kinds
pub mod Step
pub mod ReachedPlaces
pub mod NodeWords
pub mod Pairs
pub mod OfUnit
-- Internal: what it does not.
pub mod Proper
pub mod Suits
pub mod Shaped
pub mod Forget
pub mod MadeNumbers
pub mod StepInstructions
