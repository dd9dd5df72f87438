-- Believed: what a top call's contract reaches.
pub mod RecordJudgement
pub mod VerdictText
-- Internal: what it does not.
pub mod Leads
pub mod Verdicts
