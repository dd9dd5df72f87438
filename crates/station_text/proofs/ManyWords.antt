-- Lines of four words or more.
use Rattle.std.proofs.Common.{◌≡◌, refl, sym, ap, ◌∙◌, ℕ, List, [], ◌∷◌, Option, Some, Bool, true, false}
use Rattle.std.specs.Prelude.{Err, nat_eq}
use Rattle.text_scan.specs.Lines.{at_front}
use Rattle.text_scan.specs.Text.{Text}
use Rattle.record_parser.specs.Fields.{fields, parts}
use Rattle.record_parser.specs.TextParts.{parts_left}
use Rattle.station_text.specs.declared.commands.CommandFault.TheVariants as X
use Rattle.station_text.specs.Commands.{command_in}

-- a text has a part
some_part : (s : ℕ) (t : Text) → (w : Text) × (ws : List Text) × (parts s t ≡ w ∷ ws)
some_part s [] = ([], [], refl)
some_part s (b ∷ bs) = by (nat_eq b s) (some_part s bs)
  where
    by : (t : Bool) → (w : Text) × (ws : List Text) × (parts s bs ≡ w ∷ ws)
        → (w : Text) × (ws : List Text) × ((elim t as (λ _. List Text) [ true ↦ [] ∷ parts s bs | false ↦ at_front b (parts s bs) ]) ≡ w ∷ ws)
    by true h = ([], parts s bs, refl)
    by false h = (b ∷ h.0, h.1, ap (at_front b) h.2)

pub many_words : (line w x y a b d : Text) (o p q : Option Text) → fields line ≡ w ∷ parts_left 32 o → o ≡ Some a → fields a ≡ x ∷ parts_left 32 p → p ≡ Some b → fields b ≡ y ∷ parts_left 32 q → q ≡ Some d
    → Err X.Form ≡ command_in (fields line)
many_words line w x y a b d o p q e f g h i j =
    let z = some_part 32 d in
    let three : fields b ≡ y ∷ z.0 ∷ z.1 = i ∙ ap (λ (t : Option Text). y ∷ parts_left 32 t) j ∙ ap (λ (ws : List Text). y ∷ ws) z.2 in
    let two : fields a ≡ x ∷ y ∷ z.0 ∷ z.1 = g ∙ ap (λ (t : Option Text). x ∷ parts_left 32 t) h ∙ ap (λ (ws : List Text). x ∷ ws) three in
    let one : fields line ≡ w ∷ x ∷ y ∷ z.0 ∷ z.1 = e ∙ ap (λ (t : Option Text). w ∷ parts_left 32 t) f ∙ ap (λ (ws : List Text). w ∷ ws) two in
    sym (ap command_in one)
