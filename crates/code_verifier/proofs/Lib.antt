pub mod VerdictSteps
pub mod CombinedVerdicts
pub mod NamesAndLastInstruction
pub mod AnswerLaws
pub mod AnswerToVerdict
pub mod SilentLaws
pub mod SpreadSteps
pub mod SpreadTurns
