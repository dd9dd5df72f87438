-- The front of a text, as the code reads it.
use Rattle.std.specs.Prelude.{◌≡◌, ℕ, [], ◌∷◌}
use Rattle.text_scan.specs.Text.{Text}
use Rattle.station_text.specs.declared.digits.Front.{Front}
use Rattle.station_text.specs.declared.digits.Front.TheVariants as F

abbrev pub IsFront : Text → Front → Type 0
IsFront t F.Nothing = t ≡ []
IsFront t F.One = (a : ℕ) × (t ≡ a ∷ [])
IsFront t (F.Two a b more) = t ≡ a ∷ b ∷ more.now
