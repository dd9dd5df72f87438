-- Internal: what it does not.
pub mod Digits
pub mod Commands
pub mod AnswerText
pub mod Pieces
pub mod Fronts
