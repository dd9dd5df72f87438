-- A list tells which objects are dead: none, if each object that waits can go on; and an object that waits and that no
-- label changes in a closed list.
use Rattle.std.proofs.Common.{ap, ℕ, List, not}
use Rattle.pool_syntax.specs.Terms.{ProgramTree}
use Rattle.pool_relation.specs.Configuration.{Configuration}
use Rattle.reachability.specs.Search.{IsReached, WaitsAt, IsIn}
use Rattle.search_laws.specs.ClosedLists.{IsClosedAfterSettling}
use Rattle.search_laws.specs.Renamed.{IsNameless}
use Rattle.search_laws.specs.Dead.{IsDead, HasDead, CanGoOn}
use Rattle.search_laws.specs.ClosedBeside.{beside, IsClosedBeside}
use Rattle.search_laws.specs.PutOff as F
use Rattle.search_laws.specs.PutOff.{IsClosedByChoices}
use Rattle.search_laws.proofs.Dead.{not_dead}
use Rattle.search_laws.proofs.Known.{Known}
use Rattle.search_laws.proofs.KeptOnTheWay.{never_dead_after_settling}
use Rattle.search_laws.proofs.ByChoices.{dead_by_choices}

-- an object is dead that waits and that no label changes in such a list
pub dead_by_list : (p : ProgramTree) → IsNameless p → (o n : ℕ) (es : List (ℕ × Configuration)) (c : Configuration) → IsClosedBeside p o es → IsIn n c es → Known n c → WaitsAt p c o
    → IsDead p c o
dead_by_list p less o n es c closed i known waits = dead_by_choices p o less n es c all i known waits
  where
    all : IsClosedByChoices p (beside o) es
    all = record { in_order = closed.in_order; in_the_end = λ m d j. F.Every (λ l e named step. (ap not (closed.beside m d e l j named step), closed.closed m d e l j named step)) }

-- if each object that waits can go on, no object is ever dead
pub nobody_dead : (p : ProgramTree) (es : List (ℕ × Configuration)) → IsNameless p → IsClosedAfterSettling p es → ((n : ℕ) (c : Configuration) (o : ℕ) → IsIn n c es → WaitsAt p c o → CanGoOn p c o)
    → (d : Configuration) → IsReached p d → ¬ (HasDead p d)
nobody_dead p es less whole on d reached =
    never_dead_after_settling p es less whole (λ n c i dead. not_dead p c dead.name (on n c dead.name i dead.dead.waits) dead.dead) d reached
