-- Believed: what a top call's contract reaches.
pub mod Numbered
pub mod Readable
pub mod Records
-- Internal: what it does not.
pub mod Converted
pub mod ReaderFacts
pub mod ParsedLines
pub mod Steps
pub mod Posts
pub mod Table
