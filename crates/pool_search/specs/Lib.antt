-- Believed: what a top call's contract reaches.
pub mod SearchTargets
pub mod OutcomeTargets
pub mod CutOff
-- Internal: what it does not.
pub mod SearchAnswers
pub mod Progress
pub mod Entries
pub mod Trials
pub mod FoundOutcomes
pub mod KnownWaiters
pub mod Leads
pub mod Steps
