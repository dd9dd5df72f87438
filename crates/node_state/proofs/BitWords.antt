-- Words of 64 bits after a bit was changed, and the least set bit.
use Rattle.std.proofs.Common.{◌≡◌, ◌≢◌, sym, ap, ◌∙◌, ℕ, ◌+◌, ◌-◌, ◌*◌, ◌/◌, ◌%◌, ◌^◌, min, replicate, ◌<◌, ◌≤◌, ◌⊎◌, inl, inr, List, length, take, set, get_or, cond, eqb, Bool, true, false, Some, None, bit_and, w64, arith}
use Rattle.std.specs.Int.{bit_at, trailing_zeros}
use Rattle.std.proofs.lemmas.Bool.{cases_eq, cases_lt, eq-eqb}
use Rattle.std.proofs.lemmas.List.{same_lists, get_or-set_same, get_or-set_other, length-set, length-replicate, get_or-replicate, get_or_past}
use Rattle.std.proofs.lemmas.List.FromFn.{length-map-range_with_len, get_or-map-range_with_len, take-map-range_with_len}
use Rattle.std.proofs.lemmas.Nat.Bits.{bit_at_and, bit_at-lt, bit_at-zero, ones_shl, bit_at_mask_inside, bit_at_mask_below, bit_at-trailing_zeros}
use Rattle.node_state.specs.Bits.{first_bit_from}
use Rattle.node_state.specs.Words.{is_set, bits_of, AreClear, IsFirstSet}
use Rattle.node_state.proofs.FirstSetBit.{passed_to, clear_none, bit_found}

-- ---- one word

-- its bits from one on
abbrev rest : ℕ → ℕ → ℕ
rest w m = bit_and w ((2 ^ 64 - 1) * 2 ^ m % 2 ^ 64)

rest_bit : (w m i : ℕ) → m < 64 → bit_at (rest w m) i ≡ min (bit_at w i) (bit_at (2 ^ 64 - 2 ^ m) i)
rest_bit w m i h = bit_at_and w ((2 ^ 64 - 1) * 2 ^ m % 2 ^ 64) i ∙ ap (λ (k : ℕ). min (bit_at w i) (bit_at k i)) (ones_shl 64 m (omega (arith, h)))

below_two : (n : ℕ) → n < 2 → min n 1 ≡ n
below_two n h = omega (arith, h)

rest_after : (w m i : ℕ) → m < 64 → m ≤ i → i < 64 → bit_at (rest w m) i ≡ bit_at w i
rest_after w m i h a b = rest_bit w m i h ∙ ap (λ (k : ℕ). min (bit_at w i) k) (bit_at_mask_inside m 64 i a b) ∙ below_two (bit_at w i) (bit_at-lt w i)

rest_before : (w m i : ℕ) → m < 64 → i < m → bit_at (rest w m) i ≡ 0
rest_before w m i h a = rest_bit w m i h ∙ ap (λ (k : ℕ). min (bit_at w i) k) (bit_at_mask_below m 64 i a) ∙ omega arith

clear_is : (n : ℕ) → n ≡ 0 → eqb n 1 ≡ false
clear_is n e = ap (λ (k : ℕ). eqb k 1) e

-- the word of a bit
abbrev word_of : List ℕ → ℕ → ℕ
word_of words place = get_or words (place / 64) 0

module _ (words : List ℕ) (from : ℕ) where
  -- a place of the same word
  at : (place : ℕ) → from ≤ place → place < from / 64 * 64 + 64 → word_of words place ≡ word_of words from
  at place a b = let e : place / 64 ≡ from / 64 = omega (arith, a, b) in ap (λ (k : ℕ). get_or words k 0) e

  pub none_in_word : rest (word_of words from) (from % 64) ≡ 0 → AreClear words from (from / 64 * 64 + 64)
  none_in_word e place a b =
      let z : bit_at (rest (word_of words from) (from % 64)) (place % 64) ≡ 0 = ap (λ (k : ℕ). bit_at k (place % 64)) e ∙ bit_at-zero (place % 64) in
      let r = rest_after (word_of words from) (from % 64) (place % 64) (omega arith) (omega (arith, a, b)) (omega arith) in
      clear_is (bit_at (get_or words (place / 64) 0) (place % 64)) (ap (λ (k : ℕ). bit_at k (place % 64)) (at place a b) ∙ sym r ∙ z)

  pub first_in_word : 0 < rest (word_of words from) (from % 64) → rest (word_of words from) (from % 64) < 2 ^ 64 → IsFirstSet words from (from / 64 * 64 + trailing_zeros w64 (rest (word_of words from) (from % 64)))
  first_in_word positive fits = record { after = omega (arith, late); set = set; passed = passed }
    where
      t : ℕ
      t = trailing_zeros w64 (rest (word_of words from) (from % 64))

      lowest : (t < 64) × (bit_at (rest (word_of words from) (from % 64)) t ≡ 1) × ((i : ℕ) → i < t → bit_at (rest (word_of words from) (from % 64)) i ≡ 0)
      lowest = bit_at-trailing_zeros w64 (rest (word_of words from) (from % 64)) positive fits

      late : from % 64 ≤ t
      late = by (cases_lt t (from % 64))
        where
          by : (t < from % 64) ⊎ (from % 64 ≤ t) → from % 64 ≤ t
          by (inr h) = h
          by (inl h) = absurd (omega (arith, lowest.1, rest_before (word_of words from) (from % 64) t (omega arith) h))

      set : is_set words (from / 64 * 64 + t) ≡ true
      set =
          let e : (from / 64 * 64 + t) % 64 ≡ t = omega (arith, lowest.0) in
          let same = rest_after (word_of words from) (from % 64) t (omega arith) late lowest.0 in
          let here : bit_at (get_or words ((from / 64 * 64 + t) / 64) 0) ((from / 64 * 64 + t) % 64) ≡ bit_at (word_of words from) ((from / 64 * 64 + t) % 64) =
          ap (λ (k : ℕ). bit_at k ((from / 64 * 64 + t) % 64)) (at (from / 64 * 64 + t) (omega (arith, late)) (omega (arith, lowest.0))) in
          eq-eqb (bit_at (get_or words ((from / 64 * 64 + t) / 64) 0) ((from / 64 * 64 + t) % 64)) 1
          (here ∙ ap (λ (k : ℕ). bit_at (word_of words from) k) e ∙ sym same ∙ lowest.1)

      passed : AreClear words from (from / 64 * 64 + t)
      passed place a b =
          let l : place < from / 64 * 64 + 64 = omega (arith, b, lowest.0) in
          let same = rest_after (word_of words from) (from % 64) (place % 64) (omega arith) (omega (arith, a, l)) (omega arith) in
          let here = ap (λ (k : ℕ). bit_at k (place % 64)) (at place a l) in
          clear_is (bit_at (get_or words (place / 64) 0) (place % 64)) (here ∙ sym same ∙ lowest.2 (place % 64) (omega (arith, a, b, lowest.0)))

-- ---- several words

-- the bits of two stretches, one behind the other
pub clear_both : (words : List ℕ) (from mid end : ℕ) → AreClear words from mid → AreClear words mid end → AreClear words from end
clear_both words from mid end before behind place a b = by (cases_lt place mid)
  where
    by : (place < mid) ⊎ (mid ≤ place) → is_set words place ≡ false
    by (inl h) = before place a h
    by (inr h) = behind place h b

pub first_behind : (words : List ℕ) (from mid place : ℕ) → from ≤ mid → AreClear words from mid → IsFirstSet words mid place → IsFirstSet words from place
first_behind words from mid place h clear f =
    record { after = omega (arith, h, f.after); set = f.set; passed = clear_both words from mid place clear f.passed }

-- ---- the row of all bits

bit_of : (words : List ℕ) (count place : ℕ) → place < count → get_or (bits_of words count) place false ≡ is_set words place
bit_of words count place h = get_or-map-range_with_len (λ (k : ℕ). is_set words k) 0 count place place false h (omega arith)

front_of : (words : List ℕ) (count end : ℕ) → end ≤ count → take end (bits_of words count) ≡ bits_of words end
front_of words count end h = take-map-range_with_len (λ (k : ℕ). is_set words k) 0 count end h

pub length_of : (words : List ℕ) (count : ℕ) → length (bits_of words count) ≡ count
length_of words count = length-map-range_with_len (λ (k : ℕ). is_set words k) 0 count

module _ (words : List ℕ) (from end count : ℕ) (h : end ≤ count) where
  clear_from : (place : ℕ) → AreClear words from place → (k : ℕ) → from ≤ k → k < place → get_or (bits_of words end) k false ≡ false
  clear_from place clear k a b = by (cases_lt k end)
    where
      by : (k < end) ⊎ (end ≤ k) → get_or (bits_of words end) k false ≡ false
      by (inl l) = bit_of words end k l ∙ clear k a b
      by (inr l) = get_or_past (bits_of words end) k false (omega (arith, length_of words end, l))

  over : first_bit_from from (take end (bits_of words count)) ≡ first_bit_from from (bits_of words end)
  over = ap (λ (bs : List Bool). first_bit_from from bs) (front_of words count end h)

  -- nothing is found where all bits below the end are clear
  pub none_within : AreClear words from end → None ≡ first_bit_from from (take end (bits_of words count))
  none_within clear = clear_none (bits_of words end) from (λ k a. by k a (cases_lt k end)) ∙ sym over
    where
      by : (k : ℕ) → from ≤ k → (k < end) ⊎ (end ≤ k) → get_or (bits_of words end) k false ≡ false
      by k a (inl l) = bit_of words end k l ∙ clear k a l
      by k a (inr l) = get_or_past (bits_of words end) k false (omega (arith, length_of words end, l))

  -- the first that is set is found where it stands below the end
  pub first_within : (place : ℕ) → IsFirstSet words from place → place < end → Some place ≡ first_bit_from from (take end (bits_of words count))
  first_within place f l =
      let e : get_or (bits_of words end) place false ≡ true = bit_of words end place l ∙ f.set in
      let n : place < length (bits_of words end) = omega (arith, length_of words end, l) in
      bit_found (bits_of words end) place n e
      ∙ passed_to (bits_of words end) from place f.after (omega (arith, n)) (λ k a b. bit_of words end k (omega (arith, b, l)) ∙ f.passed k a b)
      ∙ sym over

-- ---- a change

new_bit : (y : Bool) (n : ℕ) → n ≡ cond y 1 0 → eqb n 1 ≡ y
new_bit true n e = ap (λ (k : ℕ). eqb k 1) e
new_bit false n e = ap (λ (k : ℕ). eqb k 1) e

module _ (words : List ℕ) (count slot v : ℕ) (y : Bool) (room : count ≤ length words * 64) (there : slot < count)
    (same : bit_at v (slot % 64) ≡ cond y 1 0) (others : (i : ℕ) → i < 64 → i ≢ slot % 64 → bit_at v i ≡ bit_at (get_or words (slot / 64) 0) i) where
  changed_same : is_set (set words (slot / 64) v) slot ≡ y
  changed_same = new_bit y (bit_at (get_or (set words (slot / 64) v) (slot / 64) 0) (slot % 64))
      (ap (λ (k : ℕ). bit_at k (slot % 64)) (get_or-set_same words (slot / 64) v 0 (omega (arith, room, there))) ∙ same)

  changed_other : (k : ℕ) → k ≢ slot → is_set (set words (slot / 64) v) k ≡ is_set words k
  changed_other k n = by (cases_eq (k / 64) (slot / 64))
    where
      by : (k / 64 ≡ slot / 64) ⊎ (k / 64 ≢ slot / 64) → is_set (set words (slot / 64) v) k ≡ is_set words k
      by (inr d) = ap (λ (z : ℕ). eqb (bit_at z (k % 64)) 1) (get_or-set_other words (slot / 64) (k / 64) v 0 d)
      by (inl e) =
          let here : get_or (set words (slot / 64) v) (k / 64) 0 ≡ v = ap (λ (z : ℕ). get_or (set words (slot / 64) v) z 0) e ∙ get_or-set_same words (slot / 64) v 0 (omega (arith, room, there)) in
          let bit = others (k % 64) (omega arith) (omega (arith, e, n)) in
          ap (λ (z : ℕ). eqb (bit_at z (k % 64)) 1) here ∙ ap (λ (z : ℕ). eqb z 1) bit ∙ ap (λ (z : ℕ). eqb (bit_at (get_or words z 0) (k % 64)) 1) (sym e)

  pub bits_changed : bits_of (set words (slot / 64) v) count ≡ set (bits_of words count) slot y
  bits_changed = same_lists (bits_of (set words (slot / 64) v) count) (set (bits_of words count) slot y)
      (length_of (set words (slot / 64) v) count ∙ sym (length-set (bits_of words count) slot y ∙ length_of words count))
      (λ k d h. by k d (omega (arith, h, length_of (set words (slot / 64) v) count)) (cases_eq k slot))
    where
      at_new : (k : ℕ) (d : Bool) → k < count → get_or (bits_of (set words (slot / 64) v) count) k d ≡ is_set (set words (slot / 64) v) k
      at_new k d h = get_or-map-range_with_len (λ (z : ℕ). is_set (set words (slot / 64) v) z) 0 count k k d h (omega arith)

      by : (k : ℕ) (d : Bool) → k < count → (k ≡ slot) ⊎ (k ≢ slot) → get_or (bits_of (set words (slot / 64) v) count) k d ≡ get_or (set (bits_of words count) slot y) k d
      by k d h (inr n) = at_new k d h ∙ changed_other k n
          ∙ sym (get_or-set_other (bits_of words count) slot k y d n ∙ get_or-map-range_with_len (λ (z : ℕ). is_set words z) 0 count k k d h (omega arith))
      by k d h (inl e) = at_new k d h
          ∙ ap (λ (z : ℕ). is_set (set words (slot / 64) v) z) e ∙ changed_same
          ∙ sym (ap (λ (z : ℕ). get_or (set (bits_of words count) slot y) z d) e ∙ get_or-set_same (bits_of words count) slot y d (omega (arith, there, length_of words count)))

-- the word of a bit is there
pub has_word : (words : List ℕ) (slots slot : ℕ) (bs : List Bool) → slots ≤ length words * 64 → bits_of words slots ≡ bs → slot < length bs → slot / 64 < length words
has_word words slots slot bs room e h = omega (arith, room, h, sym (length_of words slots) ∙ ap (λ (b : List Bool). length b) e)

-- an end within the row is within the bits
pub has_room : (words : List ℕ) (slots end : ℕ) (bs : List Bool) → bits_of words slots ≡ bs → end ≤ length bs → end ≤ slots
has_room words slots end bs e h = omega (arith, h, sym (length_of words slots) ∙ ap (λ (b : List Bool). length b) e)

-- no bit of words of 0 is set
pub bits_made : (words count : ℕ) → bits_of (replicate {A = ℕ} words 0) count ≡ replicate count false
bits_made words count = same_lists (bits_of (replicate words 0) count) (replicate count false)
    (length_of (replicate words 0) count ∙ sym (length-replicate count false))
    (λ k d h. by k d (omega (arith, h, length_of (replicate words 0) count)))
  where
    zero_there : (j : ℕ) → get_or {A = ℕ} (replicate words 0) j 0 ≡ 0
    zero_there j = go (cases_lt j words)
      where
        go : (j < words) ⊎ (words ≤ j) → get_or {A = ℕ} (replicate words 0) j 0 ≡ 0
        go (inl h) = get_or-replicate words j 0 0 h
        go (inr h) = get_or_past (replicate words 0) j 0 (omega (arith, h, length-replicate {A = ℕ} words 0))

    by : (k : ℕ) (d : Bool) → k < count → get_or (bits_of (replicate words 0) count) k d ≡ get_or (replicate count false) k d
    by k d h = get_or-map-range_with_len (λ (z : ℕ). is_set (replicate words 0) z) 0 count k k d h (omega arith)
        ∙ clear_is (bit_at (get_or (replicate words 0) (k / 64) 0) (k % 64)) (ap (λ (z : ℕ). bit_at z (k % 64)) (zero_there (k / 64)) ∙ bit_at-zero (k % 64))
        ∙ sym (get_or-replicate count k false d h)
