pub mod DigitPairs
pub mod LastWords
pub mod ManyWords
pub mod PiecesRead
pub mod Rows
