pub mod TypedAction
pub mod AtRedex
pub mod ExpressionActions
pub mod StatementActions
pub mod NextAction
pub mod NextWaits
