-- The first parts of a text and the rest, as the reader cuts it.
use Rattle.std.specs.Prelude.{◌≡◌, ℕ, List, [], ◌∷◌, option_map, Option, Some, None}
use Rattle.text_scan.specs.Text.{Text}
use Rattle.record_parser.specs.declared.fields.Front.{Front}
use Rattle.record_parser.specs.declared.fields.FirstFields.{FirstFields}
use Rattle.record_parser.specs.declared.fields.FirstFields.TheVariants as F
use Rattle.record_parser.specs.Fields.{fields, parts}

-- the parts of the rest after a separator, if there was one
abbrev pub parts_left : ℕ → Option Text → List Text
parts_left s None = []
parts_left s (Some t) = parts s t

-- the first part, and the parts of the rest
abbrev pub IsCut : ℕ → List Text → Front → Type 0
IsCut s ps c = ps ≡ c.first.now ∷ parts_left s (option_map (λ t. t.now) c.rest)

abbrev pub AreFields : List Text → FirstFields → Type 0
AreFields ws (F.One a) = ws ≡ a.now ∷ []
AreFields ws (F.Two a b) = ws ≡ a.now ∷ b.now ∷ []
AreFields ws (F.Three a b c) = ws ≡ a.now ∷ b.now ∷ c.now ∷ []
AreFields ws (F.More a b c rest) = ws ≡ a.now ∷ b.now ∷ c.now ∷ fields rest.now
