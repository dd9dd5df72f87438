pub mod CreateStep
pub mod LocalTurn
pub mod TurnSelection
pub mod NodeAct
pub mod Laws
