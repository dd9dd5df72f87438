-- The temps of the nearest method after a redex.
use Rattle.std.proofs.Common.{◌≡◌, refl, sym, ap, ◌∙◌, ℕ, ◌==◌, [], ◌∷◌, Some, is_some, Bool, true, false, arith}
use Rattle.run_types.specs.declared.types.Value.{Value}
use Rattle.run_types.proofs.Laws.{same_some}
use Rattle.pool_syntax.specs.Terms.{Store}
use Rattle.pool_relation.specs.Reducible.{Reducible, set_value}
use Rattle.pool_relation.specs.Action.{value_of}
use Rattle.adequacy.specs.Contexts.{StatementsContext, Whole, Before, OwnBody, ServedBody, OwnPost, ServedPost, temps_at_statements, temps_after, after}

-- a redex that leaves all temps as they are leaves the context
pub same_after : (r : Reducible) (k : StatementsContext) → temps_after r (temps_at_statements k) ≡ temps_at_statements k → after r k ≡ k
same_after r Whole e = refl
same_after r (Before rest k) e = ap (Before rest) (same_after r k e)
same_after r (OwnBody m t d qs k) e = ap (λ u. OwnBody m u d qs k) e
same_after r (ServedBody m c t d qs k) e = ap (λ u. ServedBody m c u d qs k) e
same_after r (OwnPost m t v k) e = ap (λ u. OwnPost m u v k) e
same_after r (ServedPost m t v k) e = ap (λ u. ServedPost m u v k) e

-- and so do two where the second undoes the first
pub undone : (q r : Reducible) (k : StatementsContext) → temps_after r (temps_after q (temps_at_statements k)) ≡ temps_at_statements k → after r (after q k) ≡ k
undone q r Whole e = refl
undone q r (Before rest k) e = ap (Before rest) (undone q r k e)
undone q r (OwnBody m t d qs k) e = ap (λ u. OwnBody m u d qs k) e
undone q r (ServedBody m c t d qs k) e = ap (λ u. ServedBody m c u d qs k) e
undone q r (OwnPost m t v k) e = ap (λ u. OwnPost m u v k) e
undone q r (ServedPost m t v k) e = ap (λ u. ServedPost m u v k) e

-- a name that is not there is not set
pub not_set : (t : Store) (n : ℕ) (v : Value) → is_some (value_of t n) ≡ false → set_value t n v ≡ t
not_set [] n v h = refl
not_set (b ∷ bs) n v h = by (b.0 == n) refl (not_set bs n v)
  where
    by : (i : Bool) → (b.0 == n) ≡ i → (is_some (value_of bs n) ≡ false → set_value bs n v ≡ bs) → set_value (b ∷ bs) n v ≡ b ∷ bs
    by true e rest = absurd (grind (arith, rw e at h))
    by false e rest = rw e (ap (λ l. b ∷ l) (rest (rw e at h)))

-- one that is there is set back
pub set_back : (t : Store) (n : ℕ) (v w : Value) → value_of t n ≡ Some w → set_value (set_value t n v) n w ≡ t
set_back [] n v w h = refl
set_back (b ∷ bs) n v w h = by (b.0 == n) refl (set_back bs n v w)
  where
    itself : (n == n) ≡ true
    itself = grind arith

    by : (i : Bool) → (b.0 == n) ≡ i → (value_of bs n ≡ Some w → set_value (set_value bs n v) n w ≡ bs) → set_value (set_value (b ∷ bs) n v) n w ≡ b ∷ bs
    by true e rest =
        let i : b.0 ≡ n = grind (arith, e) in
        let j : b.1 ≡ w = same_some (rw e at h) in
        rw e (rw itself (ap (λ m. (m, w) ∷ bs) (sym i) ∙ ap (λ z. (b.0, z) ∷ bs) (sym j)))
    by false e rest = rw e (rw e (ap (λ l. b ∷ l) (rest (rw e at h))))
