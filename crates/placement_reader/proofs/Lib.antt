pub mod FaultlessForms
mod RoutedPlacement
pub mod Maximum
pub mod PlacementSuits
mod Rows
pub mod Laws
