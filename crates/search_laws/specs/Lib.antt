-- Believed: what a top call's contract reaches.
pub mod Dead
pub mod StubbornSets
pub mod FreeSettling
pub mod PutOff
pub mod RenamedConfigurations
-- Internal: what it does not.
pub mod Renamed
pub mod ClosedLists
pub mod ClosedBeside
pub mod Caught
pub mod Stubborn
pub mod TriedAt
pub mod Outcomes
pub mod Tried
pub mod Moves
pub mod Monitors
pub mod Bounded
pub mod PatternMonitors
pub mod TriedWatched
pub mod Unused
pub mod CanEnd
pub mod TriedBounded
pub mod Births
