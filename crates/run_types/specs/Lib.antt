-- Believed: what a top call's contract reaches.
pub mod Filled
pub mod Table
pub mod Values
pub mod Tables
pub mod Message
pub mod Partial
pub mod Same
pub mod Paths
pub mod Routes
pub mod Asks
pub mod Sorts
pub mod ObjectNames
pub mod Operands
-- Internal: what it does not.
pub mod formers
pub mod LinkTables
pub mod PathFacts
pub mod RoutedPlacements
pub mod GivenProperties
