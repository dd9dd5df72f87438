-- The slot that changes when a number is settled.
use Rattle.std.proofs.Common.{◌≡◌, refl, ap, ℕ, zero, suc, List, [], ◌∷◌, Option, Some, None, Bool, true, false, arith}
use Rattle.std.specs.Prelude.{slice_get}
use Rattle.run_types.specs.declared.types.Value.{Value}
use Rattle.run_types.proofs.Laws.{equal, equals, same_some}
use Rattle.mesh_semantics.specs.Language.{Language}
use Rattle.node_semantics.specs.Node.{Slot, set_at, has_number, settled}

module _ {S : Type 0} (g : Language S) (number : ℕ) (v : Value) where
  abbrev pub given_to : Slot S → Slot S
  given_to t = record t { state = g.given t.state v; request = None }

  has : (r : Option ℕ) → has_number r number ≡ true → r ≡ Some number
  has None h = absurd (cc)
  has (Some k) h = ap Some (equal k number h)

  -- the one slot that has the number
  pub settled_is : (ss : List (Slot S)) (j : ℕ) (t : Slot S) → slice_get ss j ≡ Some t → t.request ≡ Some number
      → ((i : ℕ) (u : Slot S) → slice_get ss i ≡ Some u → u.request ≡ Some number → i ≡ j)
      → settled g number v ss ≡ set_at ss j (given_to t)
  settled_is [] j t h r one = absurd (cc)
  settled_is (u ∷ ss) zero t h r one =
      let same : u ≡ t = same_some h in
      let is : has_number u.request number ≡ true = rw (same, r) (equals number) in
      rw (is, same) refl
  settled_is (u ∷ ss) (suc j) t h r one =
      by (has_number u.request number) refl (settled_is ss j t h r (λ k w f q. let e : suc k ≡ suc j = one (suc k) w f q in grind (arith, e)))
    where
      by : (b : Bool) → has_number u.request number ≡ b → settled g number v ss ≡ set_at ss j (given_to t) → settled g number v (u ∷ ss) ≡ u ∷ set_at ss j (given_to t)
      by true i k = absurd (let e : zero ≡ suc j = one zero u refl (has u.request i) in grind (arith, e))
      by false i k = rw i (ap (λ (rest : List (Slot S)). u ∷ rest) k)
