-- The text of the last words, part by part.
use Rattle.std.proofs.Common.{◌≡◌, refl, sym, ap, ◌∙◌, List, [], ◌∷◌, ◌++◌, append_assoc, append-nil, Bool, ℕ}
use Rattle.std.specs.Prelude.{codes}
use Rattle.text_scan.specs.Text.{Text}
use Rattle.record_writer.specs.RecordText.{joined, led}
use Rattle.station_text.specs.AnswerText.{count_words, end_text, last_line, last_word}

led_append : (ws vs : List Text) → led (ws ++ vs) ≡ led ws ++ led vs
led_append [] vs = refl
led_append (w ∷ ws) vs = ap (λ (t : Text). 32 ∷ (w ++ t)) (led_append ws vs) ∙ ap (λ (t : Text). 32 ∷ t) (sym (append_assoc w (led ws) (led vs)))

-- the first two words before others
front : (w : Text) (ws : List Text) → joined (codes "end" ∷ w ∷ []) ++ led ws ≡ joined (codes "end" ∷ w ∷ ws)
front w ws = ap (λ (t : Text). codes "end" ++ 32 ∷ t) (ap (λ (t : Text). t ++ led ws) (append-nil w))

pub last_more : (text : Text) (idle : Bool) (puts handed : List (ℕ × ℕ))
    → (((text ++ end_text idle) ++ led (count_words (codes "put") puts)) ++ led (count_words (codes "handed") handed)) ++ 10 ∷ [] ≡ text ++ last_line idle puts handed
last_more text idle puts handed =
    let a : List Text = count_words (codes "put") puts in
    let b : List Text = count_words (codes "handed") handed in
    ap (λ (t : Text). t ++ 10 ∷ [])
    (append_assoc (text ++ end_text idle) (led a) (led b) ∙ ap (λ (t : Text). (text ++ end_text idle) ++ t) (sym (led_append a b)) ∙ append_assoc text (end_text idle) (led (a ++ b))
    ∙ ap (λ (t : Text). text ++ t) (front (last_word idle) (a ++ b)))
    ∙ append_assoc text (joined (codes "end" ∷ last_word idle ∷ (a ++ b))) (10 ∷ [])
