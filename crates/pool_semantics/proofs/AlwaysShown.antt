-- In a typed configuration each object shows a redex.
use Rattle.std.proofs.Common.{◌≡◌, refl, ◌≤◌, ◌-◌, ℕ, List, length, Option, Some, None, is_some, true, false, arith, eq-eqb}
use Rattle.run_types.specs.declared.types.Value.{Value}
use Rattle.run_types.specs.declared.types.Error.{Error}
use Rattle.pool_syntax.specs.Terms.{ProgramTree}
use Rattle.pool_relation.specs.Action as A
use Rattle.pool_relation.specs.Action.{Object, Action, action, method_of}
use Rattle.pool_relation.specs.Configuration.{Configuration, object_of}
use Rattle.pool_relation.specs.Typed.{CanTake, GoesWrong}
use Rattle.run_types.specs.declared.verdicts.Redex.{Redex}
use Rattle.pool_semantics.specs.Sound.{Sound}
use Rattle.pool_semantics.specs.Shown.{are_at_most_eight, shown, shown_of, shown_if, shown_at}
use Rattle.pool_relation.proofs.Laws.{few_parameters}
use Rattle.pool_semantics.proofs.TypedFacts.{nobody_goes_wrong}

are_bounded : (vs : List Value) → length vs ≤ 8 → are_at_most_eight vs ≡ true
are_bounded vs h = let e : length vs - 8 ≡ 0 = omega arith in eq-eqb (length vs - 8) 0 e

can_take : (p : ProgramTree) (c : Configuration) (b m : ℕ) (vs : List Value) → Sound p c → are_at_most_eight vs ≡ false → CanTake p c b m (length vs) → ⊥
can_take p c b m vs s f t = let e = are_bounded vs (few_parameters p t.0.class m (length vs) t.1 s.faultless t.3) in grind (arith, e)

-- what is not shown goes wrong
hidden : (p : ProgramTree) (c : Configuration) (o : ℕ) (a : Action) → Sound p c → shown a ≡ None → GoesWrong p c o a
hidden p c o A.Finished s h = absurd (grind arith)
hidden p c o (A.Local t v) s h = absurd (grind arith)
hidden p c o (A.Fault e) s h = absurd (grind arith)
hidden p c o (A.New k) s h = absurd (grind arith)
hidden p c o (A.Send b m vs) s h = let f : are_at_most_eight vs ≡ false = grind arith in can_take p c b m vs s f
hidden p c o (A.Async b m vs) s h = let f : are_at_most_eight vs ≡ false = grind arith in can_take p c b m vs s f
hidden p c o (A.Write i) s h = absurd (grind arith)
hidden p c o (A.Answer names) s h = absurd (grind arith)
hidden p c o (A.Select cs) s h = absurd (grind arith)
hidden p c o (A.Return k v) s h = absurd (grind arith)
hidden p c o (A.Waits b m) s h = absurd (grind arith)
hidden p c o A.Stuck s h = tt

pub always_shown : (p : ProgramTree) (c : Configuration) (o : ℕ) → Sound p c → shown_at p c o ≡ None → ⊥
always_shown p c o s h = by (object_of c o) refl h
  where
    of_fault : (x : Object) (f : Option Error) → object_of c o ≡ Some x → shown_of p o x f ≡ None → ⊥
    of_fault x (Some e) k j = grind arith
    of_fault x None k j = nobody_goes_wrong p c o x s k (hidden p c o (action p o x) s j)

    by : (r : Option Object) → object_of c o ≡ r → shown_if p o r ≡ None → ⊥
    by None k j = grind arith
    by (Some x) k j = of_fault x x.fault k j

-- whatever an object of it does next is shown
pub can_be_shown : (p : ProgramTree) (c : Configuration) (o : ℕ) (x : Object) → Sound p c → object_of c o ≡ Some x → is_some (shown (action p o x)) ≡ true
can_be_shown p c o x s k = by (shown (action p o x)) refl
  where
    by : (r : Option Redex) → shown (action p o x) ≡ r → is_some (shown (action p o x)) ≡ true
    by (Some r) e = rw e refl
    by None e = absurd (nobody_goes_wrong p c o x s k (hidden p c o (action p o x) s e))
