-- What lines write.
use Rattle.std.proofs.Common.{◌≡◌, refl, sym, ap, ◌∙◌, List, [], ◌∷◌, ◌++◌, true, false, append_assoc, append-nil}
use Rattle.text_scan.specs.Text.{Text}
use Rattle.run_types.specs.declared.types.Label.TheVariants as L
use Rattle.run_types.specs.declared.types.What.TheVariants as W
use Rattle.run_types.specs.declared.types.Line.{Line}
use Rattle.run_types.specs.declared.types.Line.TheVariants as R
use Rattle.record_writer.specs.WrittenText.{writes_of, writes_text}
use Rattle.stream_check.specs.Filled.{without_local}
use Rattle.stream_check.specs.Stream.{has_end}

-- what lines write, and one more
writes_append : (names : List Text) (xs ys : List Line) → writes_text names (xs ++ ys) ≡ writes_text names xs ++ writes_text names ys
writes_append names [] ys = refl
writes_append names (x ∷ xs) ys = ap (λ t. writes_of names x ++ t) (writes_append names xs ys) ∙ sym (append_assoc (writes_of names x) (writes_text names xs) (writes_text names ys))

pub writes_behind : (names : List Text) (xs : List Line) (l : Line) → writes_text names (xs ++ l ∷ []) ≡ writes_text names xs ++ writes_of names l
writes_behind names xs l = writes_append names xs (l ∷ []) ∙ ap (λ t. writes_text names xs ++ t) (append-nil (writes_of names l))

-- before the end line, lines write the same without local transitions
pub writes_without : (names : List Text) (ls : List Line) → has_end ls ≡ false → writes_text names ls ≡ writes_text names (without_local ls)
writes_without names [] h = refl
writes_without names (R.Event n e (W.Step (L.Local o) times) ∷ ls) h = writes_without names ls h
writes_without names (R.Event n e (W.Step (L.Write o item) times) ∷ ls) h = ap (λ t. writes_of names (R.Event 0 e (W.Step (L.Write o item) times)) ++ t) (writes_without names ls h)
writes_without names (R.Event n e what ∷ ls) h = writes_without names ls h
writes_without names (R.End e ∷ ls) h = absurd (let z : true ≡ false = h in cc)

pub end_without : (ls : List Line) → has_end (without_local ls) ≡ has_end ls
end_without [] = refl
end_without (R.Event n e (W.Step (L.Local o) times) ∷ ls) = end_without ls
end_without (R.Event n e what ∷ ls) = end_without ls
end_without (R.End e ∷ ls) = refl

-- lines that are the same without local transitions
pub writes_same : (names : List Text) (xs ys : List Line) → has_end ys ≡ false → without_local xs ≡ without_local ys → writes_text names xs ≡ writes_text names ys
writes_same names xs ys h same =
    writes_without names xs (sym (end_without xs) ∙ (ap has_end same ∙ (end_without ys ∙ h)))
    ∙ (ap (writes_text names) same ∙ sym (writes_without names ys h))
