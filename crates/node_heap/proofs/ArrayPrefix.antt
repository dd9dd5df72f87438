-- The first values of an array.
use Rattle.std.proofs.Common.{◌≡◌, refl, sym, ◌∙◌, ap, ℕ, zero, suc, ◌+◌, ◌<◌, ◌≤◌, List, [], ◌∷◌, length, get_or, set, take, drop, replicate, arith, length-drop, length-take-le}
use Rattle.std.proofs.lemmas.List.{length-replicate, get_or_default, get_or-take, get_or-drop}
use Rattle.run_types.specs.declared.types.Value.{Value}
use Rattle.run_types.specs.declared.types.Value.TheVariants.{Nil}
use Rattle.run_types.specs.Operands.{top, below, nth}
use Rattle.node_heap.specs.Heaps.{nils}

pub nils-replicate : (n : ℕ) → nils n ≡ replicate n Nil
nils-replicate zero = refl
nils-replicate (suc n) = ap (λ l. Nil ∷ l) (nils-replicate n)

pub nth-get_or : (vs : List Value) (k : ℕ) → nth vs k ≡ get_or vs k Nil
nth-get_or [] k = refl
nth-get_or (v ∷ vs) zero = refl
nth-get_or (v ∷ vs) (suc k) = nth-get_or vs k

pub take-replicate : (n m : ℕ) (v : Value) → n ≤ m → take n (replicate m v) ≡ replicate n v
take-replicate zero m v h = refl
take-replicate (suc n) zero v h = absurd (omega arith)
take-replicate (suc n) (suc m) v h = ap (λ l. v ∷ l) (take-replicate n m v (omega arith))

-- one more place that holds nil
pub nils_on : (vs : List Value) (k : ℕ) → k < length vs → take k vs ≡ nils k → take (suc k) (set vs k Nil) ≡ nils (suc k)
nils_on [] k h e = absurd (omega arith)
nils_on (v ∷ vs) zero h e = refl
nils_on (v ∷ vs) (suc k) h e =
    ap (λ w. w ∷ take (suc k) (set vs k Nil)) (ap top e) ∙ ap (λ l. Nil ∷ l) (nils_on vs k (omega arith) (ap below e))

-- the first values of an array of 32
pub length-first : (vs : List Value) (n : ℕ) → n ≤ 32 → length vs ≡ 32 → length (take n vs) ≡ n
length-first vs n h long = length-take-le n vs (omega arith)

pub loaded : (vs : List Value) (n k : ℕ) (x : Value) → k < n → k < length vs → get_or vs k x ≡ nth (take n vs) k
loaded vs n k x h lt =
    get_or_default vs k x Nil lt ∙ sym (get_or-take n vs k Nil h) ∙ sym (nth-get_or (take n vs) k)

-- the same, where the values begin at another place
pub loaded_from : (vs : List Value) (n o k : ℕ) (x : Value) → k < n → o + k < length vs → get_or vs (o + k) x ≡ nth (take n (drop o vs)) k
loaded_from vs n o k x h lt =
    sym (get_or-drop o vs k x) ∙ loaded (drop o vs) n k x h (omega (arith, length-drop o vs))
