-- Internal: what it does not.
pub mod Codes
pub mod NodeOf
pub mod OfUnit
pub mod Views
pub mod Choices
pub mod Changes
pub mod Served
pub mod Bits
pub mod Words
pub mod LongAnswers
