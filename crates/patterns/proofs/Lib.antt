pub mod Derivatives
pub mod Laws
pub mod ReadingFacts
pub mod RowFacts
pub mod StepFacts
mod Examples
