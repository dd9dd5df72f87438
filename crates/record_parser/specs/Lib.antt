-- Believed: what a top call's contract reaches.
pub mod Fields
pub mod Lines
pub mod Shown
-- Internal: what it does not.
pub mod TextParts
pub mod ReadView
pub mod ReadLineView
