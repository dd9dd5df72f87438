-- Laws of the position of the first word of a line.
use Rattle.std.proofs.Common.{◌≡◌, ℕ, zero, suc, ◌≤◌, ◌+◌, ◌-◌, ◌<◌, [], ◌∷◌, length, take, drop, slice_range, ◌∙◌, ap, refl, arith}
use Rattle.std.specs.List.{prefix_len}
use Rattle.std.proofs.lemmas.List.{drop-drop, drop_all, length-drop}
use Rattle.text_scan.specs.Text.{Text}
use Rattle.text_scan.specs.ByteSets.{is_in}
use Rattle.text_scan.specs.declared.scan.ByteSet.TheVariants.{Blank, NotBlank}
use Rattle.text_scan.specs.Lines.{words}
use Rattle.text_scan.proofs.CutLaws.{cut_at}

-- blanks at the front are in no word
pub words_blank : (n : ℕ) (s : Text) → prefix_len (is_in Blank) s ≡ n → words s ≡ words (drop n s)
words_blank zero s e = refl
words_blank (suc n) [] e = absurd (omega arith)
words_blank (suc n) (b ∷ bs) e = grind (arith, words_blank n bs)

-- behind them stands a word, or nothing
pub word_begins : (n : ℕ) (s : Text) → prefix_len (is_in Blank) s ≡ n → n < length s → 0 < prefix_len (is_in NotBlank) (drop n s)
word_begins n [] e some = absurd (omega arith)
word_begins zero (b ∷ bs) e some = grind arith
word_begins (suc n) (b ∷ bs) e some = grind (arith, word_begins n bs)

-- a word ends before the next blank
pub words_first : (n : ℕ) (s : Text) → prefix_len (is_in NotBlank) s ≡ suc n → words s ≡ take (suc n) s ∷ words (drop (suc n) s)
words_first n [] e = absurd (omega arith)
words_first zero (b ∷ []) e = grind arith
words_first zero (b ∷ c ∷ cs) e = grind arith
words_first (suc n) (b ∷ []) e = grind arith
words_first (suc n) (b ∷ c ∷ cs) e = grind (arith, words_first n (c ∷ cs))

-- The words of the rest of a line from a place on, where the next byte that is no blank stands at `start`.
module _ (line : Text) (from start : ℕ) (skipped : start ≡ from + prefix_len (is_in Blank) (drop from line)) where
  pub words_skip_at : words (drop from line) ≡ words (drop start line)
  words_skip_at =
      let n = start - from in
      let there : from + n ≡ start = omega arith in
      words_blank n (drop from line) (omega arith) ∙ ap words (drop-drop n from line ∙ ap (λ k. drop k line) there)

  pub no_word_at : length line ≤ start → words (drop from line) ≡ []
  no_word_at last = words_skip_at ∙ ap words (drop_all start line last)

  pub word_begins_at : start < length line → 0 < prefix_len (is_in NotBlank) (drop start line)
  word_begins_at some =
      let n = start - from in
      let there : from + n ≡ start = omega arith in
      let same : drop n (drop from line) ≡ drop start line = drop-drop n from line ∙ ap (λ k. drop k line) there in
      let long = length-drop from line in
      let begins = word_begins n (drop from line) (omega arith) (omega arith) in
      rw same at begins

  pub word_at : (end : ℕ) → start < length line → end ≡ start + prefix_len (is_in NotBlank) (drop start line) → words (drop from line) ≡ slice_range line start end ∷ words (drop end line)
  word_at end some ended =
      let begins = word_begins_at some in
      let k = end - start - 1 in
      words_skip_at ∙ cut_at words line start end end (suc k) (suc k) (omega arith) (omega arith) (words_first k (drop start line) (omega arith))
