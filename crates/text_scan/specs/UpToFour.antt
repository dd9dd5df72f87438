-- How the type `UpToFour` represents the words of a line: one by one up to four, or as more than four.
use Rattle.std.specs.Prelude.{◌≡◌, ◌<◌, List, [], ◌∷◌, length}
use Rattle.text_scan.specs.Text.{Text}
use Rattle.text_scan.specs.declared.content_lines.UpToFour.{UpToFour}
use Rattle.text_scan.specs.declared.content_lines.UpToFour.TheVariants as F

abbrev pub AreWords : List Text → UpToFour → Type 0
AreWords ws F.Zero = ws ≡ []
AreWords ws (F.One a) = ws ≡ a.now ∷ []
AreWords ws (F.Two a b) = ws ≡ a.now ∷ b.now ∷ []
AreWords ws (F.Three a b c) = ws ≡ a.now ∷ b.now ∷ c.now ∷ []
AreWords ws (F.Four a b c d) = ws ≡ a.now ∷ b.now ∷ c.now ∷ d.now ∷ []
AreWords ws F.Many = 4 < length ws
