-- Words appended to those of a line.
use Rattle.std.proofs.Common.{◌≡◌, refl, sym, ap, ◌∙◌, ◌<◌, List, [], ◌∷◌, ◌++◌, length, append_assoc, arith}
use Rattle.text_scan.specs.Text.{Text}
use Rattle.run_types.specs.declared.types.End.TheVariants as F
use Rattle.run_types.specs.declared.types.Line.{Line}
use Rattle.run_types.specs.declared.types.Line.TheVariants as R
use Rattle.record_writer.specs.RecordText.{joined, led, line_words}

pub led_more : (vs ws : List Text) → led (vs ++ ws) ≡ led vs ++ led ws
led_more [] ws = refl
led_more (v ∷ vs) ws = ap (λ t. 32 ∷ t) (ap (λ t. v ++ t) (led_more vs ws) ∙ sym (append_assoc v (led vs) (led ws)))

-- at least one word, and more
more : (vs ws : List Text) → 0 < length vs → joined (vs ++ ws) ≡ joined vs ++ led ws
more [] ws h = absurd (omega arith)
more (v ∷ vs) ws h = ap (λ t. v ++ t) (led_more vs ws) ∙ sym (append_assoc v (led vs) (led ws))

-- a line has words
some_words : (names : List Text) (l : Line) → 0 < length (line_words names l)
some_words names (R.Event number event what) = omega arith
some_words names (R.End (F.Quiet done)) = omega arith
some_words names (R.End (F.Schedule done)) = omega arith
some_words names (R.End (F.Full kind node done)) = omega arith

pub joined_more : (names : List Text) (l : Line) (ws : List Text) → joined (line_words names l ++ ws) ≡ joined (line_words names l) ++ led ws
joined_more names l ws = more (line_words names l) ws (some_words names l)
