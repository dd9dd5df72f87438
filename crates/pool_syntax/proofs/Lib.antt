pub mod Trees
pub mod Pieces
pub mod Laws
