mod Rows
mod TypedRows
pub mod Runs
pub mod UnreadyHasNoStep
pub mod Lookup
pub mod Invariant
pub mod FaultlessObject
pub mod Start
pub mod Progress
pub mod FewParameters
pub mod Laws
mod WorkedProgram
pub mod TypedFromTruncation
pub mod redex
pub mod typing
pub mod action
pub mod preservation
