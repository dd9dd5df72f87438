-- The kind of a configuration follows from what the stepper reports of it.
use Rattle.std.proofs.Common.{◌≡◌, ◌≢◌, ◌≤◌, sym, ◌∙◌, ℕ, Option, Some, None, is_some, Bool, true, false, arith}
use Rattle.std.specs.Prelude.{IfSome, IfNone}
use Rattle.run_types.specs.declared.types.Label.{Label}
use Rattle.pool_syntax.specs.Terms.{ProgramTree}
use Rattle.pool_relation.specs.Action.{Object}
use Rattle.pool_relation.specs.Configuration.{Configuration, object_of}
use Rattle.pool_relation.specs.Progress.{HasOwnTransition}
use Rattle.pool_relation.specs.Transition.{transition}
use Rattle.pool_semantics.specs.declared.plain.waits.Waiting.{Waiting}
use Rattle.reachability.specs.Search.{IsAtEnd, IsStuck, IsFaulty, WaitsAt}
use Rattle.pool_search.specs.declared.queries.Query.{Query}
use Rattle.pool_search.specs.SearchAnswers.{IsPassedBy}
use Rattle.pool_search.specs.SearchTargets.{IsStuckEnd}
use Rattle.pool_search.specs.Trials.{CanMove}

-- what counts as stuck has no transition
pub at_end : (all : Bool) (p : ProgramTree) (c : Configuration) → IsStuckEnd all p c → IsAtEnd p c
at_end false p c s = s.at_end
at_end true p c s = s.at_end

-- where a label is possible, and no object has met an error, is nothing that a query looks for
pub passed_by_move : (p : ProgramTree) (q : Query) (c : Configuration) → CanMove p c → ¬ (IsFaulty c) → IsPassedBy p q c
passed_by_move p q c moves sound =
    record {
      not_end = λ w. absurd (let z : None ≡ Some moves.next = sym (at_end q.all p c w.holds moves.label) ∙ moves.step in cc);
      not_faulty = λ w. sound w.holds;
    }

-- where an object moves, nothing is stuck
pub not_stuck : (all : Bool) (p : ProgramTree) (c : Configuration) (o : Option ℕ) → is_some o ≡ true → IfSome o (HasOwnTransition p c) → ¬ (IsStuckEnd all p c)
not_stuck all p c None i h s = absurd (cc)
not_stuck all p c (Some o) i h s = absurd (let z : None ≡ Some h.2 = sym (at_end all p c s h.0) ∙ h.3 in cc)

pub stuck_by_waiting : (p : ProgramTree) (c : Configuration) (o : Option Waiting) → IsAtEnd p c → IfSome o (λ w. WaitsAt p c w.object) → is_some o ≡ true → IsStuck p c
stuck_by_waiting p c None ended h i = absurd (cc)
stuck_by_waiting p c (Some w) ended h i = record { at_end = ended; name = w.object; waits = h }

pub not_stuck_by_waiting : (p : ProgramTree) (c : Configuration) (o : Option Waiting) → IfNone o ((n : ℕ) → 0 ≤ n → ¬ (WaitsAt p c n)) → is_some o ≡ false → ¬ (IsStuck p c)
not_stuck_by_waiting p c None h i s = h s.name (omega arith) s.waits
not_stuck_by_waiting p c (Some w) h i s = absurd (cc)

pub faulty_by : (c : Configuration) (o : Option ℕ) → IfSome o (λ n. (x : Object) × (object_of c n ≡ Some x) × (x.fault ≢ None)) → is_some o ≡ true → IsFaulty c
faulty_by c None h i = absurd (cc)
faulty_by c (Some n) h i = record { name = n; object = h.0; there = h.1; met = h.2 }

pub not_faulty_by : (c : Configuration) (o : Option ℕ) → IfNone o (¬ (IsFaulty c)) → is_some o ≡ false → ¬ (IsFaulty c)
not_faulty_by c None h i = h
not_faulty_by c (Some n) h i = absurd (cc)

pub ended_by : (p : ProgramTree) (c : Configuration) (o : Option ℕ) → IfNone o ((l : Label) → transition p c l ≡ None) → is_some o ≡ false → IsAtEnd p c
ended_by p c None h i = h
ended_by p c (Some n) h i = absurd (cc)
