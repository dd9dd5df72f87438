pub mod HandKinds
pub mod NodeLimits
pub mod StepFromChanges
pub mod PostStep
pub mod ReturnStep
pub mod AnswerStep
pub mod Laws
