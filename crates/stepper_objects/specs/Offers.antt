-- The offers and alternatives of the transition relation that those of the stepper represent.
use Rattle.std.specs.Prelude.{ℕ, List, Option, Some, None}
use denote.Bor.{Bor}
use Rattle.pool_syntax.specs.declared.tree.Stmt.{Stmt}
use Rattle.pool_syntax.specs.declared.tree.Named.{Named}
use Rattle.pool_syntax.specs.TreeOf.{statements_of}
use Rattle.pool_syntax.specs.Terms.{Statements}
use Rattle.pool_relation.specs.Reducible.{Choice}
use Rattle.pool_relation.specs.Action as A
use Rattle.pool_relation.specs.Transition as X
use Rattle.object_acts.specs.declared.act.Act.{Act}
use Rattle.object_acts.specs.declared.act.Act.TheVariants as C
use Rattle.stepper_objects.specs.declared.offers.Offer.{Offer}

-- the offer, if there is one
abbrev pub offered : Option Offer → Option X.Offer
offered None = None
offered (Some v) = Some (record { names = v.names.now; work = statements_of v.after.now })

-- the work of an alternative, if it was found
abbrev pub work_seen : Option (Bor (List Stmt)) → Option Statements
work_seen None = None
work_seen (Some ss) = Some (statements_of ss.now)

-- the offer of an object with this next action for the method
abbrev pub offer_act : Act → List Named → List Choice → ℕ → Option X.Offer
offer_act C.Answer ns cs m = X.offer (A.Answer ns) m
offer_act C.Select ns cs m = X.offer (A.Select cs) m
offer_act _ ns cs m = None
