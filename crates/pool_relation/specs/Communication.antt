-- Communications: a call, a wait, an answer and a select, which need another object or a message.
use Rattle.pool_relation.specs.Action as A
use Rattle.pool_relation.specs.Action.{Action}

-- the action is a call, a wait, an answer or a select
abbrev pub IsCommunication : Action → Type 0
IsCommunication (A.Send b m args) = Unit {0}
IsCommunication (A.Waits b m) = Unit {0}
IsCommunication (A.Answer names) = Unit {0}
IsCommunication (A.Select choices) = Unit {0}
IsCommunication _ = ⊥
