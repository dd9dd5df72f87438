-- Believed: what a top call's contract reaches.
pub mod Inputs
pub mod Runs
pub mod Outputs
pub mod Ends
pub mod Headline
pub mod LineKinds
pub mod UnitFiles
-- Internal: what it does not.
pub mod Commands
pub mod Readers
pub mod UnitOfFile
pub mod FirstFault
