-- Operands by their places.
use Rattle.std.proofs.Common.{◌≡◌, refl, sym, ap, ◌∙◌, ℕ, zero, suc, ◌-◌, ◌<◌, List, [], ◌∷◌, length, arith}
use Rattle.std.specs.Prelude.{slice_get, slice_set, take, min, Some, None}
use Rattle.std.proofs.lemmas.List.{take_min}
use Rattle.run_types.specs.declared.types.Value.{Value}
use Rattle.run_types.specs.Operands.{top, below, dropped, taken, nth, padded}

pub nth_zero : (vs : List Value) → nth vs 0 ≡ top vs
nth_zero [] = refl
nth_zero (v ∷ vs) = refl

pub nth_below : (vs : List Value) (n : ℕ) → nth vs (suc n) ≡ nth (below vs) n
nth_below [] zero = refl
nth_below [] (suc n) = refl
nth_below (v ∷ vs) n = refl

pub nth_top : (n : ℕ) (vs : List Value) → nth vs n ≡ top (dropped n vs)
nth_top zero vs = nth_zero vs
nth_top (suc n) vs = nth_below vs n ∙ nth_top n (below vs)

pub taken_first : (n : ℕ) (vs args : List Value) → taken (suc n) vs args ≡ nth vs n ∷ taken n vs args
taken_first zero vs args = ap (λ v. v ∷ args) (sym (nth_zero vs))
taken_first (suc n) vs args = taken_first n (below vs) (top vs ∷ args) ∙ ap (λ v. v ∷ taken (suc n) vs args) (sym (nth_below vs n))

pub length_below : (vs : List Value) → length (below vs) ≡ length vs - 1
length_below [] = refl
length_below (v ∷ vs) = omega arith

pub length_dropped : (n : ℕ) (vs : List Value) → length (dropped n vs) ≡ length vs - n
length_dropped zero vs = omega arith
length_dropped (suc n) vs = omega (arith, length_dropped n (below vs), length_below vs)

-- the value of a place among the last n operands
pub nth_taken : (n j : ℕ) (vs : List Value) → j < n → nth (taken n vs []) j ≡ nth vs (n - 1 - j)
nth_taken zero j vs h = absurd (omega (arith, h))
nth_taken (suc n) zero vs h = ap (λ l. nth l 0) (taken_first n vs []) ∙ ap (nth vs) (let e : n ≡ suc n - 1 - 0 = omega arith in e)
nth_taken (suc n) (suc j) vs h =
    ap (λ l. nth l (suc j)) (taken_first n vs []) ∙ nth_taken n j vs (omega (arith, h)) ∙ ap (nth vs) (let e : n - 1 - j ≡ suc n - 1 - suc j = omega arith in e)

-- one value more of those that a method begins with
pub padded_set : (n j : ℕ) (vs : List Value) (v : Value) → j < n → slice_get vs j ≡ Some v → slice_set (padded n (take j vs)) j v ≡ padded n (take (suc j) vs)
padded_set zero j vs v h e = absurd (omega (arith, h))
padded_set (suc n) j [] v h e = absurd (grind (arith, e))
padded_set (suc n) zero (w ∷ vs) v h e = ap (λ o. elim o as (λ _. List Value) [ None ↦ [] | Some y ↦ y ∷ padded n [] ]) (sym e)
padded_set (suc n) (suc j) (w ∷ vs) v h e = ap (λ l. w ∷ l) (padded_set n j vs v (omega (arith, h)) e)

pub take_most : (n m : ℕ) (vs : List Value) → m ≡ min n (length vs) → take m vs ≡ take n vs
take_most n m vs e = ap (λ k. take k vs) e ∙ take_min n vs
