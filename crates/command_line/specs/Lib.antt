-- Believed: what a top call's contract reaches.
pub mod Commands
-- Internal: what it does not.
pub mod CommandLine
pub mod Requests
