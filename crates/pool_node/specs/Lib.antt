-- Internal: what it does not.
pub mod SettledNumber
pub mod Standings
pub mod Acceptable
pub mod MadeCounts
