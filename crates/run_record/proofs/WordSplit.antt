-- The parts of a text that was made of words: each word's own parts, one after another.
use Rattle.std.proofs.Common.{◌≡◌, refl, sym, ap, ◌∙◌, ℕ, Bool, true, false, not, nat_eq, nat_lt, List, [], ◌∷◌, ◌++◌, append_assoc, append-nil, arith, ltb-true, ne_eqb}
use Rattle.std.proofs.lemmas.Bool.{and_from, and_parts}
use Rattle.text_scan.specs.Text.{Text, every}
use Rattle.text_scan.specs.Lines.{at_front}
use Rattle.record_writer.specs.RecordText.{joined, led}
use Rattle.record_parser.specs.Fields.{fields, parts}
use Rattle.record_parser.proofs.Laws.{parts_joint}

-- a byte above the space
abbrev pub is_dark : ℕ → Bool
is_dark b = nat_lt 32 b

-- a byte from the space on
abbrev pub is_shown : ℕ → Bool
is_shown b = nat_lt 31 b

-- a byte other than this one
abbrev pub is_other : ℕ → ℕ → Bool
is_other s b = not (nat_eq b s)

-- what passes a test passes a weaker one
pub every_weaker : (p q : ℕ → Bool) → ((b : ℕ) → p b ≡ true → q b ≡ true) → (w : Text) → every p w ≡ true → every q w ≡ true
every_weaker p q gives [] h = refl
every_weaker p q gives (b ∷ bs) h = let both = and_parts (p b) (every p bs) h in and_from (q b) (every q bs) (gives b both.0) (every_weaker p q gives bs both.1)

-- a test of two texts, one behind the other
pub every_append : (p : ℕ → Bool) (v w : Text) → every p v ≡ true → every p w ≡ true → every p (v ++ w) ≡ true
every_append p [] w h k = k
every_append p (b ∷ bs) w h k = let both = and_parts (p b) (every p bs) h in and_from (p b) (every p (bs ++ w)) both.0 (every_append p bs w both.1 k)

-- a text without such a byte is its only part
pub parts_alone : (s : ℕ) (w : Text) → every (is_other s) w ≡ true → parts s w ≡ w ∷ []
parts_alone s [] h = refl
parts_alone s (b ∷ bs) h =
    let both = and_parts (is_other s b) (every (is_other s) bs) h in
    by (nat_eq b s) both.0 ∙ ap (λ ps. at_front b ps) (parts_alone s bs both.1)
  where
    by : (q : Bool) → not q ≡ true → elim q as (λ x. List Text) [ true ↦ [] ∷ parts s bs | false ↦ at_front b (parts s bs) ] ≡ at_front b (parts s bs)
    by true e = absurd (cc)
    by false e = refl

-- the parts of each of these words, one after another
abbrev pub fields_of : List Text → List Text
fields_of [] = []
fields_of (w ∷ ws) = fields w ++ fields_of ws

-- the fields of words with a space between them are those of each word
pub fields_joined : (w : Text) (ws : List Text) → fields (joined (w ∷ ws)) ≡ fields_of (w ∷ ws)
fields_joined w [] = ap fields (append-nil w) ∙ sym (append-nil (fields w))
fields_joined w (v ∷ vs) = parts_joint 32 w (joined (v ∷ vs)) ∙ ap (λ ps. fields w ++ ps) (fields_joined v vs)

-- the fields of words, and of more words
pub fields_append : (vs ws : List Text) → fields_of (vs ++ ws) ≡ fields_of vs ++ fields_of ws
fields_append [] ws = refl
fields_append (v ∷ vs) ws = ap (λ ps. fields v ++ ps) (fields_append vs ws) ∙ sym (append_assoc (fields v) (fields_of vs) (fields_of ws))

-- words whose bytes are above the space
abbrev pub AreDark : List Text → Type 0
AreDark [] = Unit {0}
AreDark (w ∷ ws) = (every is_dark w ≡ true) × AreDark ws

-- a dark byte is no space
no_space : (b : ℕ) → is_dark b ≡ true → is_other 32 b ≡ true
no_space b h = ap not (ne_eqb b 32 (λ e. let above = ltb-true 32 b h in omega arith))

-- a word without spaces is its only field
pub dark_field : (w : Text) → every is_dark w ≡ true → fields w ≡ w ∷ []
dark_field w h = parts_alone 32 w (every_weaker is_dark (is_other 32) no_space w h)

-- and such words are their own fields
pub dark_fields : (ws : List Text) → AreDark ws → fields_of ws ≡ ws
dark_fields [] h = refl
dark_fields (w ∷ ws) h = ap (λ ps. ps ++ fields_of ws) (dark_field w h.0) ∙ ap (λ ps. w ∷ ps) (dark_fields ws h.1)

-- words without bytes below the space
abbrev pub AreShown : List Text → Type 0
AreShown [] = Unit {0}
AreShown (w ∷ ws) = (every is_shown w ≡ true) × AreShown ws

-- a dark byte is not below the space
dark_shown : (b : ℕ) → is_dark b ≡ true → is_shown b ≡ true
dark_shown b h = let above = ltb-true 32 b h in grind arith

-- a word of dark bytes has none below the space
pub shown_word : (w : Text) → every is_dark w ≡ true → every is_shown w ≡ true
shown_word w h = every_weaker is_dark is_shown dark_shown w h

-- nor have such words
pub shown_words : (ws : List Text) → AreDark ws → AreShown ws
shown_words [] h = tt
shown_words (w ∷ ws) h = (shown_word w h.0, shown_words ws h.1)

-- words without bytes below the space, and more of them
pub shown_append : (vs ws : List Text) → AreShown vs → AreShown ws → AreShown (vs ++ ws)
shown_append [] ws h k = k
shown_append (v ∷ vs) ws h k = (h.0, shown_append vs ws h.1 k)

-- their text with a space before each
shown_led : (ws : List Text) → AreShown ws → every is_shown (led ws) ≡ true
shown_led [] h = refl
shown_led (w ∷ ws) h = every_append is_shown w (led ws) h.0 (shown_led ws h.1)

-- and with a space between them
shown_joined : (ws : List Text) → AreShown ws → every is_shown (joined ws) ≡ true
shown_joined [] h = refl
shown_joined (w ∷ ws) h = every_append is_shown w (led ws) h.0 (shown_led ws h.1)

-- a byte from the space on is no line feed
no_line_feed : (b : ℕ) → is_shown b ≡ true → is_other 10 b ≡ true
no_line_feed b h = ap not (ne_eqb b 10 (λ e. let above = ltb-true 31 b h in omega arith))

-- the text of a line stands before its line feed
pub line_part : (ws : List Text) (rest : Text) → AreShown ws → parts 10 ((joined ws ++ 10 ∷ []) ++ rest) ≡ joined ws ∷ parts 10 rest
line_part ws rest h =
    ap (parts 10) (append_assoc (joined ws) (10 ∷ []) rest)
    ∙ (parts_joint 10 (joined ws) rest
    ∙ ap (λ ps. ps ++ parts 10 rest) (parts_alone 10 (joined ws) (every_weaker is_shown (is_other 10) no_line_feed (joined ws) (shown_joined ws h))))
