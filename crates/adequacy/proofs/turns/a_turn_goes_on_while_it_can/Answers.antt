use Rattle.std.proofs.Common.{refl}
use Rattle.adequacy.proofs.StepCounts.{agrees}
use Rattle.adequacy.proofs.turns.a_turn_goes_on_while_it_can.Goals as goal

pub returns-clause-count : goal.returns-clause-count
returns-clause-count s c = λ g l q n o d. (agrees g l n o q d).0

pub returns-clause-configuration : goal.returns-clause-configuration
returns-clause-configuration s c = λ g l q n o d. (agrees g l n o q d).1

pub returns-clause-turn : goal.returns-clause-turn
returns-clause-turn s c =
    λ g l q n o d e.
    let a = agrees g l n o q d in
    rw a.1 (rw a.0 refl)
