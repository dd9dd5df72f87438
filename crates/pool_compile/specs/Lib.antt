-- Believed: what a top call's contract reaches.
pub mod Code
-- Internal: what it does not.
pub mod Jumps
pub mod Numberings
pub mod Small
pub mod StandsFor
pub mod Follows
pub mod TextPrograms
