-- Pushing onto and popping from a stack in an array of 64 values.
use Rattle.std.proofs.Common.{◌≡◌, ◌≢◌, refl, sym, ◌∙◌, ap, ℕ, zero, suc, ◌+◌, ◌-◌, ◌<◌, ◌≤◌, List, ◌∷◌, length, get_or, set, arith, add-one, get_or-set_other, get_or-set_same}
use Rattle.std.proofs.lemmas.List.{get_or_default}
use Rattle.run_types.specs.declared.types.Value.{Value}
use Rattle.run_types.specs.declared.types.Value.TheVariants.{Nil}
use Rattle.run_types.specs.Operands.{top, below, dropped, nth}
use Rattle.node_heap.specs.Rows.{stack}

pub length-stack : (vs : List Value) (n : ℕ) → length (stack vs n) ≡ n
length-stack vs zero = refl
length-stack vs (suc n) = ap suc (length-stack vs n)

-- a write above the values leaves them
stack-set : (vs : List Value) (k : ℕ) (v : Value) (n : ℕ) → n ≤ k → stack (set vs k v) n ≡ stack vs n
stack-set vs k v zero h = refl
stack-set vs k v (suc n) h =
    let ne : n ≢ k = omega arith in
    rw (get_or-set_other vs k n v Nil ne) (ap (λ l. get_or vs n Nil ∷ l) (stack-set vs k v n (omega arith)))

pub pushed : (vs : List Value) (n : ℕ) (v : Value) → n < 64 → length vs ≡ 64 → stack (set vs n v) (n + 1) ≡ v ∷ stack vs n
pushed vs n v small long =
    rw (add-one n, get_or-set_same vs n v Nil (omega arith)) (ap (λ l. v ∷ l) (stack-set vs n v n (omega arith)))

-- after the last value was taken
pub popped : (vs : List Value) (n : ℕ) → 0 < n → stack vs (n - 1) ≡ below (stack vs n)
popped vs n pos =
    let e : n ≡ suc (n - 1) = omega arith in
    ap (λ k. below (stack vs k)) (sym e)

-- after the last k values were taken
pub dropped-stack : (vs : List Value) (n k : ℕ) → k ≤ n → stack vs (n - k) ≡ dropped k (stack vs n)
dropped-stack vs n zero h = let e : n - 0 ≡ n = omega arith in ap (stack vs) e
dropped-stack vs zero (suc k) h = absurd (omega arith)
dropped-stack vs (suc n) (suc k) h = let e : suc n - suc k ≡ n - k = omega arith in ap (stack vs) e ∙ dropped-stack vs n k (omega arith)

pub last : (vs : List Value) (n : ℕ) (x : Value) → 0 < n → n ≤ length vs → get_or vs (n - 1) x ≡ top (stack vs n)
last vs n x pos few =
    let e : n ≡ suc (n - 1) = omega arith in
    get_or_default vs (n - 1) x Nil (omega arith) ∙ ap (λ k. top (stack vs k)) (sym e)

nth-stack : (vs : List Value) (n k : ℕ) → k < n → get_or vs (n - 1 - k) Nil ≡ nth (stack vs n) k
nth-stack vs zero k h = absurd (omega arith)
nth-stack vs (suc n) zero h = let e : suc n - 1 - 0 ≡ n = omega arith in ap (λ i. get_or vs i Nil) e
nth-stack vs (suc n) (suc k) h =
    let e : suc n - 1 - suc k ≡ n - 1 - k = omega arith in ap (λ i. get_or vs i Nil) e ∙ nth-stack vs n k (omega arith)

pub from_top : (vs : List Value) (n k : ℕ) (x : Value) → k < n → n ≤ length vs → get_or vs (n - 1 - k) x ≡ nth (stack vs n) k
from_top vs n k x h few = get_or_default vs (n - 1 - k) x Nil (omega arith) ∙ nth-stack vs n k h
