pub mod Instance
pub mod LawfulTerms
pub mod RootClass
pub mod StartAndEvents
pub mod RecordLines
pub mod RecordIsRun
pub mod WaitingTerms
pub mod WriteKeepsFrames
pub mod Laws
pub mod Shorthand
pub mod TwoNodes
mod AroundACut
mod UnsoundStates
mod LastCell
mod FullHeap
mod OutOfTheMiddle
mod RingOfCalls
pub mod FourNodes
pub mod MachineRuns
mod RequestRows
mod DrawnRuns
mod OverWires
mod PostRuns
