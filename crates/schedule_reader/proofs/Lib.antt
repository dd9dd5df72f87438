pub mod Laws
pub mod ScheduleFitsMesh
mod Rows
pub mod Rounds
pub mod EventRuns
