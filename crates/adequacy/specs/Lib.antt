-- Internal: what it does not.
pub mod Contexts
pub mod TurnSteps
pub mod RightWay
pub mod Forward
pub mod Judgement
pub mod Ends
