pub mod Kept
pub mod Split
pub mod Updates
pub mod WrittenParts
pub mod LastOfRun
pub mod CanonicalWords
pub mod LineOfEach
