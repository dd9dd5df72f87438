-- Believed: what a top call's contract reaches.
pub mod TypedCode
pub mod CodeRun
pub mod DeclaredKinds
-- Internal: what it does not.
pub mod CheckedProgram
pub mod Matches
pub mod StandsAlike
pub mod HasCode
pub mod SpelledUnit
pub mod ReadsBack
pub mod ReachedCode
