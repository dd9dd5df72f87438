-- A list is found at its number, is added at the end, and goes where the lists are cut.
use Rattle.std.proofs.Common.{◌≡◌, refl, sym, ap, ap₂, ◌∙◌, ℕ, zero, suc, ◌+◌, ◌<◌, ◌≤◌, List, [], ◌∷◌, ◌++◌, length, get_or, take, drop, Some, arith, length-append}
use Rattle.std.specs.List.{between, slice_get}
use Rattle.std.proofs.lemmas.List.{take-append-le, drop_at, take_all, take-take}
use Rattle.std.proofs.lemmas.Slice.{between_is}
use Rattle.flat_lists.specs.Ends.{AreEnds, lists_from}

pub length_lists : {X : Type 0} (from : ℕ) (es : List ℕ) (xs : List X) → length (lists_from from es xs) ≡ length es
length_lists from [] xs = refl
length_lists from (e ∷ es) xs = ap suc (length_lists e es xs)

-- each place is at most the last
pub within : (from : ℕ) (es : List ℕ) (n : ℕ) → AreEnds from es n → from ≤ n
within from [] n h = omega arith
within from (e ∷ es) n h = omega (arith, within e es n h.1)

-- the list at a place
pub list_at : {X : Type 0} (from : ℕ) (es : List ℕ) (xs : List X) (at : ℕ) → at < length es
    → slice_get (lists_from from es xs) at ≡ Some (between (get_or (from ∷ es) at 0) (get_or es at 0) xs)
list_at from [] xs at l = absurd (omega arith)
list_at from (e ∷ es) xs zero l = refl
list_at from (e ∷ es) xs (suc at) l = list_at e es xs at (omega arith)

pub start_le_end : (from : ℕ) (es : List ℕ) (n at : ℕ) → AreEnds from es n → at < length es → get_or (from ∷ es) at 0 ≤ get_or es at 0
start_le_end from [] n at h l = absurd (omega arith)
start_le_end from (e ∷ es) n zero h l = h.0
start_le_end from (e ∷ es) n (suc at) h l = start_le_end e es n at h.1 (omega arith)

pub end_within : (from : ℕ) (es : List ℕ) (n at : ℕ) → AreEnds from es n → at < length es → get_or es at 0 ≤ n
end_within from [] n at h l = absurd (omega arith)
end_within from (e ∷ es) n zero h l = within e es n h.1
end_within from (e ∷ es) n (suc at) h l = end_within e es n at h.1 (omega arith)

pub start_within : (from : ℕ) (es : List ℕ) (n at : ℕ) → AreEnds from es n → at ≤ length es → get_or (from ∷ es) at 0 ≤ n
start_within from es n zero h l = within from es n h
start_within from [] n (suc at) h l = absurd (omega arith)
start_within from (e ∷ es) n (suc at) h l = start_within e es n at h.1 (omega arith)

-- one more list
between_left : {X : Type 0} (a b : ℕ) (xs ys : List X) → a ≤ b → b ≤ length xs → between a b (xs ++ ys) ≡ between a b xs
between_left a b xs ys k l = between_is (xs ++ ys) a b ∙ ap (drop a) (take-append-le b xs ys l) ∙ sym (between_is xs a b)

between_last : {X : Type 0} (xs ys : List X) → between (length xs) (length xs + length ys) (xs ++ ys) ≡ ys
between_last xs ys =
    between_is (xs ++ ys) (length xs) (length xs + length ys) ∙ ap (drop (length xs)) (take_all (length xs + length ys) (xs ++ ys) (omega (arith, length-append xs ys))) ∙ drop_at xs ys (length xs) refl

pub lists_push : {X : Type 0} (from : ℕ) (es : List ℕ) (xs ys : List X) (e : ℕ) → AreEnds from es (length xs) → e ≡ length xs + length ys
    → lists_from from (es ++ e ∷ []) (xs ++ ys) ≡ lists_from from es xs ++ ys ∷ []
lists_push from [] xs ys e h is = rw (h, is) (ap (λ l. l ∷ []) (between_last xs ys))
lists_push from (d ∷ es) xs ys e h is = ap₂ (λ l ls. l ∷ ls) (between_left from d xs ys h.0 (within d es (length xs) h.1)) (lists_push d es xs ys e h.1 is)

pub ends_push : (from : ℕ) (es : List ℕ) (n m e : ℕ) → AreEnds from es n → e ≡ m → n ≤ m → AreEnds from (es ++ e ∷ []) m
ends_push from [] n m e h is l = (omega arith, is)
ends_push from (d ∷ es) n m e h is l = (h.0, ends_push d es n m e h.1 is l)

-- each end is at least the place where the first list begins
rises : (from : ℕ) (es : List ℕ) (n at : ℕ) → AreEnds from es n → at ≤ length es → from ≤ get_or (from ∷ es) at 0
rises from es n zero h l = omega arith
rises from [] n (suc at) h l = absurd (omega arith)
rises from (e ∷ es) n (suc at) h l = omega (arith, h.0, rises e es n at h.1 (omega arith))

-- the first lists
between_cut : {X : Type 0} (a b n : ℕ) (xs : List X) → a ≤ b → b ≤ n → between a b (take n xs) ≡ between a b xs
between_cut a b n xs k l = between_is (take n xs) a b ∙ ap (drop a) (take-take b n xs l) ∙ sym (between_is xs a b)

lists_cut_at : {X : Type 0} (from : ℕ) (es : List ℕ) (xs : List X) (n last : ℕ) → AreEnds from es last → (count : ℕ) → count ≤ length es → get_or (from ∷ es) count 0 ≤ n
    → lists_from from (take count es) (take n xs) ≡ take count (lists_from from es xs)
lists_cut_at from es xs n last h zero l m = refl
lists_cut_at from [] xs n last h (suc count) l m = absurd (omega arith)
lists_cut_at from (e ∷ es) xs n last h (suc count) l m =
    ap₂ (λ l ls. l ∷ ls) (between_cut from e n xs h.0 (omega (arith, rises e es last count h.1 (omega arith)))) (lists_cut_at e es xs n last h.1 count (omega arith) m)

pub lists_cut : {X : Type 0} (es : List ℕ) (xs : List X) (count n : ℕ) → AreEnds 0 es (length xs) → count ≤ length es → n ≡ get_or (0 ∷ es) count 0
    → lists_from 0 (take count es) (take n xs) ≡ take count (lists_from 0 es xs)
lists_cut es xs count n h l is = lists_cut_at 0 es xs n (length xs) h count l (omega arith)

pub ends_cut : (from : ℕ) (es : List ℕ) (n count : ℕ) → AreEnds from es n → count ≤ length es → AreEnds from (take count es) (get_or (from ∷ es) count 0)
ends_cut from es n zero h l = refl
ends_cut from [] n (suc count) h l = absurd (omega arith)
ends_cut from (e ∷ es) n (suc count) h l = (h.0, ends_cut e es n count h.1 (omega arith))
