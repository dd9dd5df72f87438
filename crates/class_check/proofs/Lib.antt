pub mod LeastLaws
pub mod GrammaticalIsWritten
pub mod Laws
