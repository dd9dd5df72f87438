-- Believed: what a top call's contract reaches.
pub mod Reducible
pub mod Action
pub mod Configuration
pub mod Transition
pub mod UnderWay
pub mod Typed
pub mod Progress
-- Internal: what it does not.
pub mod Communication
pub mod Ready
pub mod Alone
