pub mod ObjectUpdates
pub mod OneObject
pub mod Messages
pub mod LookupOfTwo
pub mod NewObject
pub mod CallAnswer
pub mod CallReturn
pub mod EachTransition
