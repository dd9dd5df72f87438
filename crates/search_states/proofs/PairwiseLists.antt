-- Lists with related items have the same length, and at each index related items.
use Rattle.std.proofs.Common.{◌≡◌, ℕ, zero, suc, ◌<◌, List, [], ◌∷◌, length, get_or, refl, sym, ap, subst₂, arith}
use Rattle.search_states.specs.Equal.{Paired}

pub as_many : {X : Type 0} (Is : X → X → Type 0) (xs ys : List X) → Paired Is xs ys → length xs ≡ length ys
as_many Is [] [] p = refl
as_many Is (x ∷ xs) (y ∷ ys) p = ap suc (as_many Is xs ys p.1)
as_many Is [] (y ∷ ys) p = absurd p
as_many Is (x ∷ xs) [] p = absurd p

pair_at : {X : Type 0} (Is : X → X → Type 0) (xs ys : List X) (i : ℕ) (x y : X) → i < length xs → Paired Is xs ys → Is (get_or xs i x) (get_or ys i y)
pair_at Is (x ∷ xs) (y ∷ ys) zero v w l p = p.0
pair_at Is (x ∷ xs) (y ∷ ys) (suc i) v w l p = pair_at Is xs ys i v w (omega arith) p.1
pair_at Is [] [] i v w l p = absurd (omega arith)
pair_at Is [] (y ∷ ys) i v w l p = absurd p
pair_at Is (x ∷ xs) [] i v w l p = absurd p

-- the items that a loop has read
pub pair_read : {X : Type 0} (Is : X → X → Type 0) (xs ys : List X) (i : ℕ) (x y : X) → i < length xs → x ≡ get_or xs i x → y ≡ get_or ys i y → Paired Is xs ys → Is x y
pair_read Is xs ys i x y l a b p = subst₂ Is (sym a) (sym b) (pair_at Is xs ys i x y l p)
