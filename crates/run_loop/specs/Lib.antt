-- Believed: what a top call's contract reaches.
pub mod Shown
pub mod Reports
-- Internal: what it does not.
pub mod ReportRows
pub mod RunOutput
pub mod Loading
pub mod FinishedRun
