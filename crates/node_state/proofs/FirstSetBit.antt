-- If a range of bits is clear, the first set bit is after the range.
use Rattle.std.proofs.Common.{◌≡◌, refl, sym, ap, subst, ◌∙◌, ℕ, zero, suc, ◌+◌, ◌-◌, ◌<◌, ◌≤◌, List, [], ◌∷◌, length, drop, take, get_or, Some, None, Bool, true, false, if◌then◌else◌, arith}
use Rattle.std.proofs.lemmas.List.{get_or-drop, get_or_past, length-take}
use Rattle.node_state.specs.Bits.{first_bit, first_bit_from}

-- one step of the look-up: the bit at place i, or those behind it
bit_step : (n : ℕ) (bs : List Bool) (i : ℕ) → i < length bs → first_bit n (drop i bs) ≡ (if get_or bs i false then Some n else first_bit (n + 1) (drop (suc i) bs))
bit_step n [] i h = absurd (omega arith)
bit_step n (b ∷ bs) zero h = refl
bit_step n (b ∷ bs) (suc i) h = bit_step n bs i (omega (arith, h))

-- a bit that is clear is passed over
bit_later : (bs : List Bool) (from i : ℕ) → i < length bs → first_bit_from i bs ≡ first_bit_from from bs → get_or bs i false ≡ false
    → first_bit_from (i + 1) bs ≡ first_bit_from from bs
bit_later bs from i h invariant t =
    let e : suc i ≡ i + 1 = omega arith in
    let step : first_bit i (drop i bs) ≡ first_bit (i + 1) (drop (suc i) bs) = bit_step i bs i h ∙ ap (λ (b : Bool). if b then Some i else first_bit (i + 1) (drop (suc i) bs)) t in
    subst (λ (k : ℕ). first_bit (i + 1) (drop k bs) ≡ first_bit_from from bs) e (sym step ∙ invariant)

-- the bits from one on, below another, are clear
abbrev AreClear : List Bool → ℕ → ℕ → Type 0
AreClear bs from end = (k : ℕ) → from ≤ k → k < end → get_or bs k false ≡ false

-- what is clear is passed over
passed : (bs : List Bool) (from : ℕ) (d : ℕ) → from + d ≤ length bs → AreClear bs from (from + d) → first_bit_from (from + d) bs ≡ first_bit_from from bs
passed bs from zero h clear = let e : from + 0 ≡ from = omega arith in ap (λ (k : ℕ). first_bit_from k bs) e
passed bs from (suc d) h clear =
    let e : from + d + 1 ≡ from + suc d = omega arith in
    let before = passed bs from d (omega (arith, h)) (λ k a b. clear k a (omega (arith, b))) in
    subst (λ (k : ℕ). first_bit_from k bs ≡ first_bit_from from bs) e
    (bit_later bs from (from + d) (omega (arith, h)) before (clear (from + d) (omega arith) (omega arith)))

pub passed_to : (bs : List Bool) (from to : ℕ) → from ≤ to → to ≤ length bs → AreClear bs from to → first_bit_from to bs ≡ first_bit_from from bs
passed_to bs from to h l clear =
    let e : from + (to - from) ≡ to = omega arith in
    subst (λ (k : ℕ). first_bit_from k bs ≡ first_bit_from from bs) e
    (passed bs from (to - from) (omega arith) (λ k a b. clear k a (omega (arith, b))))

-- where all are clear, none is found
none_of_clear : (n : ℕ) (bs : List Bool) → ((j : ℕ) → get_or bs j false ≡ false) → first_bit n bs ≡ None
none_of_clear n [] clear = refl
none_of_clear n (true ∷ bs) clear = let h : true ≡ false = clear 0 in absurd (cc)
none_of_clear n (false ∷ bs) clear = none_of_clear (n + 1) bs (λ j. clear (suc j))

pub clear_none : (bs : List Bool) (from : ℕ) → ((k : ℕ) → from ≤ k → get_or bs k false ≡ false) → None ≡ first_bit_from from bs
clear_none bs from clear = sym (none_of_clear from (drop from bs) (λ j. get_or-drop from bs j false ∙ clear (from + j) (omega arith)))

-- a bit that is set is found where the look-up begins at it
pub bit_found : (bs : List Bool) (i : ℕ) → i < length bs → get_or bs i false ≡ true → Some i ≡ first_bit_from i bs
bit_found bs i h e = sym (bit_step i bs i h ∙ ap (λ (b : Bool). if b then Some i else first_bit (i + 1) (drop (suc i) bs)) e)

-- nothing is found where the look-up begins behind the row
pub past_end : (bs : List Bool) (from end : ℕ) → end ≤ from → None ≡ first_bit_from from (take end bs)
past_end bs from end h = clear_none (take end bs) from (λ k a. get_or_past (take end bs) k false (omega (arith, length-take end bs, h, a)))
