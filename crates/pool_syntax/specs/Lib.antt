-- Believed: what a top call's contract reaches.
pub mod SourceParts
pub mod Terms
pub mod Classes
pub mod FaultNumbers
pub mod Limits
pub mod Typing
pub mod Tokens
pub mod Spelling
-- Internal: what it does not.
pub mod Written
pub mod TreeOf
pub mod Spelled
