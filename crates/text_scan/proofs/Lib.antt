pub mod CutLaws
pub mod DecimalLaws
pub mod LineLaws
pub mod TableTexts
pub mod ByteRuns
pub mod WordLaws
pub mod Laws
