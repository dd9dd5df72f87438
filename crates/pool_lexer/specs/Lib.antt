-- Internal: what it does not.
pub mod TokenLists
pub mod Pieces
pub mod Reading
