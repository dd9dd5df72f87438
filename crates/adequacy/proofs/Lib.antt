pub mod ContextParts
pub mod RedexInHole
pub mod HoleReplacement
pub mod ContextDecomposition
pub mod ContextTemps
pub mod UniqueDecomposition
pub mod ContextAssignment
pub mod ContextSteps
mod ContextRows
pub mod StepCounts
pub mod QuietEnd
pub mod SilentEvents
pub mod RunPrefixes
pub mod BackwardNesting
pub mod OneFault
pub mod OneJudgement
mod Counters
mod NestingRows
mod WayRows
mod JudgementRows
pub mod RecordToRun
pub mod DeadCycles
