-- Believed: what a top call's contract reaches.
pub mod Lines
pub mod Text
pub mod Keywords
pub mod ContentLines
-- Internal: what it does not.
pub mod ByteSets
pub mod UpToFour
