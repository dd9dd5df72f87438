-- Believed: what a top call's contract reaches.
pub mod Answers
pub mod Grading
pub mod Steps
pub mod AnswerText
pub mod ChosenRows
-- Internal: what it does not.
pub mod GradedRuns
pub mod Inquiries
pub mod ListedOutcomes
pub mod OpenSteps
