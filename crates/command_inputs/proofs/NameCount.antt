-- The table of a parsed program has at most as many texts as the program has bytes.
use Rattle.std.proofs.Common.{◌≡◌, ◌≤◌, ◌+◌, List, [], ◌∷◌, length, Option, Some, None, inl, inr, refl, sym, subst, arith}
use Rattle.std.proofs.lemmas.Bool.{cases_Bool}
use Rattle.std.proofs.lemmas.List.{length-append}
use Rattle.pool_syntax.proofs.Laws.{pieces_count}
use Rattle.pool_syntax.specs.Terms.{ProgramTree}
use Rattle.pool_syntax.specs.Tokens.{kept_text, texts_after}
use Rattle.pool_grammar.specs.Programs.{IsParsed}
use Rattle.run_types.specs.Table.{is_among, with_text}
use Rattle.text_scan.specs.Text.{Text}

-- a piece adds one text at most

with_one : (names : List Text) (x : Text) → length (with_text names x) ≤ length names + 1
with_one names x = elim (cases_Bool (is_among names x)) [
  | inl old ↦ rw (with_text, old) (omega arith)
  | inr new ↦ let l = length-append names (x ∷ []) in rw (with_text, new) (omega (arith, l))
]

texts_count : (seen : List Text) (ws : List Text) → length (texts_after seen ws) ≤ length seen + length ws
texts_count seen [] = omega arith
texts_count seen (w ∷ ws) = by (kept_text w) refl (λ names. texts_count names ws)
  where
    by : (o : Option Text) → kept_text w ≡ o → ((names : List Text) → length (texts_after names ws) ≤ length names + length ws) → length (texts_after seen (w ∷ ws)) ≤ length seen + length (w ∷ ws)
    by None e go = let others = go seen in rw (texts_after, e) (omega (arith, others))
    by (Some x) e go = let others = go (with_text seen x) in let one = with_one seen x in rw (texts_after, e) (omega (arith, others, one))

pub parsed_few : (s : Text) (names : List Text) (p : ProgramTree) → IsParsed s names p → length names ≤ length s
parsed_few s names p h =
    let texts = texts_count [] h.1.0 in
    let pieces = pieces_count s h.1.0 h.1.1 in
    subst (λ (ns : List Text). length ns ≤ length s) (sym h.1.3) (omega (arith, texts, pieces))
