pub mod PartsFrom
mod Rows
pub mod SequentialOutput
pub mod SeparatedParts
pub mod ExpressionInPlace
pub mod Sizes
pub mod StatementParts
pub mod DeclarationParts
pub mod SpelledKnown
pub mod SpelledTokens
pub mod LongestPieces
pub mod SignPieces
pub mod TokenPieces
pub mod TokenRoundTrip
pub mod DerivedForm
pub mod DerivedParts
pub mod DerivedExpressions
pub mod DerivedStatements
pub mod DerivedDeclarations
pub mod DerivedProgram
mod DerivedRows
pub mod SameProgram
pub mod Laws
