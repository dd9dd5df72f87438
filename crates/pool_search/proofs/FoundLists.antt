-- Lists of outcomes that a search has found.
use Rattle.std.proofs.Common.{◌≡◌, inl, inr, refl, ap, ◌∙◌, ℕ, zero, suc, List, [], ◌∷◌, ◌++◌, Some, None}
use Rattle.std.specs.List.{slice_get}
use Rattle.std.specs.Global.{Global}
use Rattle.std.specs.declared.vec.Vec.{Vec}
use Rattle.run_types.specs.declared.types.Item.{Item}
use Rattle.pool_search.specs.declared.outcomes.EndKind.{EndKind}
use Rattle.pool_search.specs.declared.outcomes.Outcome.{Outcome}
use Rattle.pool_search.specs.FoundOutcomes.{HasOne, outcome}

-- an outcome at a place
pub has_at : (os : List Outcome) (i : ℕ) (o : Outcome) (k : EndKind) (w : List Item) → slice_get os i ≡ Some o → o.kind ≡ k → o.items.items ≡ w → HasOne k w os
has_at [] i o k w g h l = absurd (let z : None ≡ Some o = g in cc)
has_at (x ∷ os) zero o k w g h l =
    let is : x ≡ o = cc in
    inl (ap (λ (y : Outcome). y.kind) is ∙ h, ap (λ (y : Outcome). y.items.items) is ∙ l)
has_at (x ∷ os) (suc i) o k w g h l = inr (has_at os i o k w g h l)

-- the last one
pub has_last : (os : List Outcome) (k : EndKind) (w : Vec Item Global) → HasOne k w.items (os ++ outcome k w ∷ [])
has_last [] k w = inl (refl, refl)
has_last (o ∷ os) k w = inr (has_last os k w)
