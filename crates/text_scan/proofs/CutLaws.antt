-- A slice of the rest of a text is a slice of the whole text.
use Rattle.std.proofs.Common.{◌≡◌, ℕ, ◌+◌, ◌-◌, List, ◌∷◌, take, drop, slice_range, ◌∙◌, ap, sym, arith}
use Rattle.std.proofs.lemmas.List.{drop-drop}
use Rattle.text_scan.specs.Text.{Text}

-- The rest of a text from a place on, cut n bytes further and m bytes further.
pub cut_at : (F : Text → List Text) (bytes : Text) (from end next n m : ℕ) → end ≡ from + n → next ≡ from + m → F (drop from bytes) ≡ take n (drop from bytes) ∷ F (drop m (drop from bytes)) → F (drop from bytes) ≡ slice_range bytes from end ∷ F (drop next bytes)
cut_at F bytes from end next n m there behind e =
    let long : end - from ≡ n = omega arith in
    let rest : drop m (drop from bytes) ≡ drop next bytes = drop-drop m from bytes ∙ ap (λ k. drop k bytes) (sym behind) in
    rw (long, ← rest) e
