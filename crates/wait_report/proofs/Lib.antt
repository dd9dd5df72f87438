pub mod LeastLeft
mod Chains
mod EachCycle
mod WalkMarks
mod CyclesByName
mod CycleText
