-- Laws of the end of the first line of a text.
use Rattle.std.proofs.Common.{◌≡◌, ◌≢◌, ℕ, zero, suc, ◌+◌, ◌<◌, [], ◌∷◌, length, take, drop, get_or, arith, slice_range, ◌-◌}
use Rattle.std.specs.List.{prefix_len}
use Rattle.std.proofs.lemmas.Bool.Decides.{nat_tests}
use Rattle.std.proofs.lemmas.List.{length-drop, take_all, drop_all, get_or-drop}
use Rattle.text_scan.specs.Text.{Text}
use Rattle.text_scan.specs.ByteSets.{is_in}
use Rattle.text_scan.specs.declared.scan.ByteSet.TheVariants.{NotLineFeed}
use Rattle.text_scan.specs.Lines.{lines}
use Rattle.text_scan.proofs.CutLaws.{cut_at}

-- a text without a line feed is one line
pub line_whole : (s : Text) → 0 < length s → prefix_len (is_in NotLineFeed) s ≡ length s → lines s ≡ s ∷ []
line_whole [] some e = absurd (omega arith)
line_whole (b ∷ []) some e = grind (arith, nat_tests)
line_whole (b ∷ c ∷ cs) some e = grind (arith, nat_tests, line_whole (c ∷ cs))

-- a line feed at the front ends the empty line
pub line_empty : (s : Text) → 0 < length s → prefix_len (is_in NotLineFeed) s ≡ 0 → lines s ≡ [] ∷ lines (drop 1 s)
line_empty [] some e = absurd (omega arith)
line_empty (b ∷ bs) some e = grind (arith, nat_tests)

-- a line ends before its line feed
pub line_fed : (n : ℕ) (s : Text) → suc n < length s → prefix_len (is_in NotLineFeed) s ≡ suc n → get_or s n 0 ≢ 13 → lines s ≡ take (suc n) s ∷ lines (drop (suc (suc n)) s)
line_fed n [] some e plain = absurd (omega arith)
line_fed n (b ∷ []) some e plain = absurd (omega arith)
line_fed zero (b ∷ c ∷ cs) some e plain = grind (arith, nat_tests)
line_fed (suc n) (b ∷ c ∷ cs) some e plain = grind (arith, nat_tests, line_fed n (c ∷ cs))

-- and before the carriage return in front of it
pub line_returned : (n : ℕ) (s : Text) → suc n < length s → prefix_len (is_in NotLineFeed) s ≡ suc n → get_or s n 0 ≡ 13 → lines s ≡ take n s ∷ lines (drop (suc (suc n)) s)
line_returned n [] some e r = absurd (omega arith)
line_returned n (b ∷ []) some e r = absurd (omega arith)
line_returned zero (b ∷ c ∷ cs) some e r = grind (arith, nat_tests)
line_returned (suc n) (b ∷ c ∷ cs) some e r = grind (arith, nat_tests, line_returned n (c ∷ cs))

-- The first line of the rest of a text from a place on, whose line feed or end stands at the place `feed`.
module _ (bytes : Text) (from feed : ℕ) (first : feed ≡ from + prefix_len (is_in NotLineFeed) (drop from bytes)) where
  pub last_line_at : from < feed → feed ≡ length bytes → lines (drop from bytes) ≡ slice_range bytes from feed ∷ lines (drop feed bytes)
  last_line_at some last =
      let long = length-drop from bytes in
      let n = feed - from in
      let none = drop_all n (drop from bytes) (omega arith) in
      let all = take_all n (drop from bytes) (omega arith) in
      cut_at lines bytes from feed feed n n (omega arith) (omega arith) (simp (none, all) (line_whole (drop from bytes) (omega arith) (omega arith)))

  pub line_empty_at : from ≡ feed → feed < length bytes → lines (drop from bytes) ≡ slice_range bytes from feed ∷ lines (drop (feed + 1) bytes)
  line_empty_at none fed =
      let long = length-drop from bytes in
      cut_at lines bytes from feed (feed + 1) 0 1 (omega arith) (omega arith) (line_empty (drop from bytes) (omega arith) (omega arith))

  pub line_fed_at : from < feed → feed < length bytes → get_or bytes (feed - 1) 0 ≢ 13 → lines (drop from bytes) ≡ slice_range bytes from feed ∷ lines (drop (feed + 1) bytes)
  line_fed_at some fed plain =
      let k = feed - from - 1 in
      let long = length-drop from bytes in
      let last : get_or (drop from bytes) k 0 ≡ get_or bytes (feed - 1) 0 = grind (arith, get_or-drop) in
      cut_at lines bytes from feed (feed + 1) (suc k) (suc (suc k)) (omega arith) (omega arith) (line_fed k (drop from bytes) (omega arith) (omega arith) (rw last plain))

  pub line_returned_at : from < feed → feed < length bytes → get_or bytes (feed - 1) 0 ≡ 13 → lines (drop from bytes) ≡ slice_range bytes from (feed - 1) ∷ lines (drop (feed + 1) bytes)
  line_returned_at some fed returned =
      let k = feed - from - 1 in
      let long = length-drop from bytes in
      let last : get_or (drop from bytes) k 0 ≡ get_or bytes (feed - 1) 0 = grind (arith, get_or-drop) in
      cut_at lines bytes from (feed - 1) (feed + 1) k (suc (suc k)) (omega arith) (omega arith) (line_returned k (drop from bytes) (omega arith) (omega arith) (rw last returned))
