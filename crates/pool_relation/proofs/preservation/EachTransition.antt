-- Each transition keeps a configuration typed.
use Rattle.std.proofs.Common.{◌≡◌, subst, Some, List, [], ◌∷◌, IsTrue}
use Rattle.run_types.specs.declared.types.Label.{Label}
use Rattle.run_types.specs.declared.types.Label.TheVariants as L
use Rattle.pool_syntax.specs.Terms.{ProgramTree}
use Rattle.pool_syntax.specs.Typing.{faults}
use Rattle.pool_relation.specs.Configuration.{Configuration}
use Rattle.pool_relation.specs.Transition.{transition, run}
use Rattle.pool_syntax.specs.Written.{is_written}
use Rattle.pool_relation.specs.Typed.{Typed}
use Rattle.pool_relation.proofs.Invariant.{Invariant, invariant_of, typed_of}
use Rattle.run_types.proofs.Laws.{same_some, given_by}
use Rattle.pool_relation.proofs.preservation.OneObject.{local_kept, write_kept, fault_kept, pick_kept}
use Rattle.pool_relation.proofs.preservation.Messages.{send_kept, take_kept}
use Rattle.pool_relation.proofs.preservation.NewObject.{new_kept}
use Rattle.pool_relation.proofs.preservation.CallAnswer.{answer_kept}
use Rattle.pool_relation.proofs.preservation.CallReturn.{return_kept}

invariant_kept : (p : ProgramTree) (c d : Configuration) (l : Label) → faults p ≡ [] → IsTrue (is_written p) → Invariant p c
    → transition p c l ≡ Some d → Invariant p d
invariant_kept p c d (L.Local o) none written g e = local_kept p none written c d o g e
invariant_kept p c d (L.New o n k) none written g e = new_kept p none written c d o n k g e
invariant_kept p c d (L.Answer b o m args) none written g e = answer_kept p none written c d b o m args g e
invariant_kept p c d (L.Return b o v) none written g e = return_kept p none written c d b o v g e
invariant_kept p c d (L.Send o b m args) none written g e = send_kept p none written c d o b m args g e
invariant_kept p c d (L.Take b s m args) none written g e = take_kept p none written c d b s m args g e
invariant_kept p c d (L.Write o item) none written g e = write_kept p none written c d o item g e
invariant_kept p c d (L.Pick o i) none written g e = pick_kept p none written c d o i g e
invariant_kept p c d (L.Fault o error) none written g e = fault_kept p none written c d o error g e

pub typed_kept : (p : ProgramTree) (c d : Configuration) (l : Label) → faults p ≡ [] → IsTrue (is_written p)
    → Typed p c → transition p c l ≡ Some d → Typed p d
typed_kept p c d l none written w e = typed_of p d (invariant_kept p c d l none written (invariant_of p c w) e)

-- and so does a run
pub run_kept : (p : ProgramTree) (c d : Configuration) (ls : List Label) → faults p ≡ [] → IsTrue (is_written p) → Typed p c
    → run p c ls ≡ Some d → Typed p d
run_kept p c d [] none written w e = subst (Typed p) (same_some e) w
run_kept p c d (l ∷ ls) none written w e =
    let a = given_by (transition p c l) _ d e in run_kept p a.0 d ls none written (typed_kept p c a.0 l none written w a.1) a.2
