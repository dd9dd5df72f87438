-- A number is the number of a text if that text passes a test.
use Rattle.std.proofs.Common.{◌≡◌, refl, subst, IsTrue, ℕ, ◌<◌, List, length, Option, Some, None, Bool, true, false}
use Rattle.std.specs.Prelude.{slice_get}
use Rattle.std.proofs.lemmas.Option.{slice_get_within}
use Rattle.text_scan.specs.Text.{Text}
use Rattle.text_scan.specs.Keywords.{text_passes}

pub passes_below : (test : Text → Bool) (names : List Text) (n : ℕ) → IsTrue (text_passes test (slice_get names n)) → n < length names
passes_below test names n h = by (slice_get names n) refl
  where
    by : (w : Option Text) → slice_get names n ≡ w → n < length names
    by None e = let z : false ≡ true = subst (λ q. IsTrue (text_passes test q)) e h in absurd (cc)
    by (Some w) e = slice_get_within names n w e
