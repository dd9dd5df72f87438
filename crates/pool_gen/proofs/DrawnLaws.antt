-- The lines for the words of a generator.
use Rattle.std.proofs.Common.{◌≡◌, ℕ, ◌+◌, zero, suc, ◌++◌, sym, ap, ◌∙◌, arith, append_assoc, append-nil}
use Rattle.rand_core.specs.Steps.{first_words}
use Rattle.rand_pcg.specs.Lcg.{Lcg}
use Rattle.rand_pcg.specs.Pcg.{pcg32}
use Rattle.text_scan.specs.Text.{Text}
use Rattle.pool_gen.specs.Ring.{drawn_line, drawn_lines}

-- a word's line goes to the text from the lines that are to come
pub one_line_more : (n m : ℕ) (g : Lcg) (text : Text) → n ≡ m + 1
    → text ++ drawn_lines (first_words pcg32 n g)
    ≡ (text ++ drawn_line (pcg32 g).0) ++ drawn_lines (first_words pcg32 m (pcg32 g).1)
unfolding first_words
one_line_more zero m g text e = absurd (omega arith)
one_line_more (suc n) m g text e =
    let same : n ≡ m = omega arith in
    ap (λ k. text ++ (drawn_line (pcg32 g).0 ++ drawn_lines (first_words pcg32 k (pcg32 g).1))) same
    ∙ sym (append_assoc text (drawn_line (pcg32 g).0) _)

-- no word has no line
pub no_line_more : (n : ℕ) (g : Lcg) (text : Text) → n ≡ 0 → text ++ drawn_lines (first_words pcg32 n g) ≡ text
unfolding first_words
no_line_more zero g text e = append-nil text
no_line_more (suc n) g text e = absurd (omega arith)

-- five pieces, put one behind the other
pub five_pieces : (a b c d e : Text) → (((a ++ b) ++ c) ++ d) ++ e ≡ a ++ (b ++ (c ++ (d ++ e)))
five_pieces a b c d e =
    append_assoc ((a ++ b) ++ c) d e ∙ (append_assoc (a ++ b) c (d ++ e) ∙ append_assoc a b (c ++ (d ++ e)))
