-- The parts of a text after bytes were put before it.
use Rattle.std.proofs.Common.{◌≡◌, refl, sym, ap, ◌∙◌, ℕ, zero, suc, ◌<◌, List, [], ◌∷◌, ◌++◌, length, Option, Some, None, Bool, true, false, nat_eq, eq-eqb, arith, append_assoc}
use denote.Bor.{Bor}
use Rattle.text_scan.specs.Text.{Text}
use Rattle.run_types.specs.declared.types.Value.{Value}
use Rattle.text_scan.specs.Lines.{at_front}
use Rattle.record_parser.specs.declared.fields.FirstFields.{FirstFields}
use Rattle.record_parser.specs.declared.fields.FirstFields.TheVariants as F
use Rattle.record_parser.specs.Fields.{object_of, parts, value_of, values_within}
use Rattle.run_types.specs.Partial.{◌>>=◌}
use Rattle.record_parser.specs.TextParts.{AreFields}
use borrow.Author.Tests.{eqb-true}
use Rattle.record_writer.specs.RecordText.{joined, led}
use Rattle.record_parser.specs.Lines.{end_of}
use Rattle.record_parser.specs.Shown.{for_three, item_for, item_of, post_by, post_of, shown_by, what_of, write_of}

-- these bytes at the front of the first text
abbrev pub behind : Text → List Text → List Text
behind xs [] = xs ∷ []
behind xs (p ∷ ps) = (xs ++ p) ∷ ps

some_front : (b : ℕ) (ps : List Text) → behind [] (at_front b ps) ≡ at_front b ps
some_front b [] = refl
some_front b (p ∷ ps) = refl

-- a text has at least one part
pub behind_nothing : (s : ℕ) (t : Text) → behind [] (parts s t) ≡ parts s t
behind_nothing s [] = refl
behind_nothing s (b ∷ bs) = by (nat_eq b s) where
  by : (q : Bool) → behind [] (elim q [ true ↦ [] ∷ parts s bs | false ↦ at_front b (parts s bs) ]) ≡ elim q [ true ↦ [] ∷ parts s bs | false ↦ at_front b (parts s bs) ]
  by true = refl
  by false = some_front b (parts s bs)

front_length : (b : ℕ) (ps : List Text) → 0 < length (at_front b ps)
front_length b [] = omega arith
front_length b (p ∷ ps) = omega arith

pub parts_length : (s : ℕ) (t : Text) → 0 < length (parts s t)
parts_length s [] = omega arith
parts_length s (b ∷ bs) = by (nat_eq b s) where
  by : (q : Bool) → 0 < length {A = Text} (elim q [ true ↦ [] ∷ parts s bs | false ↦ at_front b (parts s bs) ])
  by true = omega arith
  by false = front_length b (parts s bs)

four_words : {A : Type 0} (a b c : Text) (ps : List Text) (f : Text → Text → Text → Option A) → 0 < length ps → None ≡ for_three (a ∷ b ∷ c ∷ ps) f
four_words a b c [] f h = absurd (omega arith)
four_words a b c (d ∷ ps) f h = refl

-- words that are no three say nothing of three words
pub not_three : {A : Type 0} (ws : List Text) (few : FirstFields) (f : Text → Text → Text → Option A)
    → AreFields ws few → ((a b c : Bor Text) → few ≡ F.Three a b c → ⊥) → None ≡ for_three ws f
not_three ws (F.One a) f e other = sym (ap (λ vs. for_three vs f) e)
not_three ws (F.Two a b) f e other = sym (ap (λ vs. for_three vs f) e)
not_three ws (F.Three a b c) f e other = absurd (other a b c refl)
not_three ws (F.More a b c rest) f e other =
    four_words a.now b.now c.now (parts 32 rest.now) f (parts_length 32 rest.now) ∙ sym (ap (λ vs. for_three vs f) e)

pub none_left : (n : ℕ) (ps : List Text) → n ≡ 0 → 0 < length ps → values_within n ps ≡ None
none_left zero [] e h = absurd (omega arith)
none_left zero (p ∷ ps) e h = refl
none_left (suc n) ps e h = absurd (omega arith)

-- one more value
pub value_more : (n m : ℕ) (args : List Value) (v : Value) (w : Text) (ws : List Text) → n ≡ suc m → value_of w ≡ Some v
    → (values_within n (w ∷ ws) >>= λ vs. Some (args ++ vs)) ≡ (values_within m ws >>= λ vs. Some ((args ++ v ∷ []) ++ vs))
value_more n m args v w ws e is =
    ap (λ k. values_within k (w ∷ ws) >>= λ vs. Some (args ++ vs)) e
    ∙ (ap (λ o. (o >>= λ x. values_within m ws >>= λ vs. Some (x ∷ vs)) >>= λ vs. Some (args ++ vs)) is
    ∙ by (values_within m ws)) where
      by : (o : Option (List Value)) → ((o >>= λ vs. Some (v ∷ vs)) >>= λ vs. Some (args ++ vs)) ≡ (o >>= λ vs. Some ((args ++ v ∷ []) ++ vs))
      by None = refl
      by (Some vs) = ap Some (sym (append_assoc args (v ∷ []) vs))

led_parts : (ps : List Text) → 0 < length ps → led ps ≡ 32 ∷ joined ps
led_parts [] h = absurd (omega arith)
led_parts (p ∷ ps) h = refl

joined_front : (b : ℕ) (ps : List Text) → 0 < length ps → joined (at_front b ps) ≡ b ∷ joined ps
joined_front b [] h = absurd (omega arith)
joined_front b (p ∷ ps) h = refl

-- the words of a text with one space between them are the text
pub joined_parts : (t : Text) → joined (parts 32 t) ≡ t
joined_parts [] = refl
joined_parts (b ∷ bs) = by (nat_eq b 32) refl (joined_parts bs) where
  by : (q : Bool) → nat_eq b 32 ≡ q → joined (parts 32 bs) ≡ bs → joined (elim q [ true ↦ [] ∷ parts 32 bs | false ↦ at_front b (parts 32 bs) ]) ≡ b ∷ bs
  by true e again = led_parts (parts 32 bs) (parts_length 32 bs) ∙ (ap (λ t. 32 ∷ t) again ∙ ap (λ k. k ∷ bs) (sym (eqb-true b 32 e)))
  by false e again = joined_front b (parts 32 bs) (parts_length 32 bs) ∙ ap (λ t. b ∷ t) again

some_item : (o : ℕ) (ps : List Text) → 0 < length ps → item_for o ps ≡ item_of o (joined ps)
some_item o [] h = absurd (omega arith)
some_item o (p ∷ ps) h = refl

pub item_parts : (o : ℕ) (t : Text) → item_for o (parts 32 t) ≡ item_of o t
item_parts o t = some_item o (parts 32 t) (parts_length 32 t) ∙ ap (item_of o) (joined_parts t)

pub what_more : (w : Text) (ps : List Text) → 0 < length ps → what_of (w ∷ ps) ≡ shown_by w ps
what_more w [] h = absurd (omega arith)
what_more w (p ∷ ps) h = refl

pub write_rest : (a : Text) (w : ℕ) (t : Text) → object_of a ≡ Some w → write_of (a ∷ parts 32 t) ≡ item_of w t
write_rest a w t e = ap (λ o. o >>= λ n. item_for n (parts 32 t)) e ∙ item_parts w t

pub five_words : (a b c d : Text) (ps : List Text) → 0 < length ps → end_of (a ∷ b ∷ c ∷ d ∷ ps) ≡ None
five_words a b c d [] h = absurd (omega arith)
five_words a b c d (p ∷ ps) h = refl

-- a byte before the first of these texts, with others behind them
front_append : (b : ℕ) (ps qs : List Text) → 0 < length ps → at_front b (ps ++ qs) ≡ at_front b ps ++ qs
front_append b [] qs h = absurd (omega arith)
front_append b (p ∷ ps) qs h = refl

-- the parts before and behind such a byte
pub parts_joint : (s : ℕ) (v rest : Text) → parts s (v ++ s ∷ rest) ≡ parts s v ++ parts s rest
parts_joint s [] rest = by (nat_eq s s) (eq-eqb s s refl) where
  by : (q : Bool) → q ≡ true → elim q as (λ x. List Text) [ true ↦ [] ∷ parts s rest | false ↦ at_front s (parts s rest) ] ≡ [] ∷ parts s rest
  by true e = refl
  by false e = absurd (cc)
parts_joint s (b ∷ bs) rest = by (nat_eq b s) (parts_joint s bs rest) where
  by : (q : Bool) → parts s (bs ++ s ∷ rest) ≡ parts s bs ++ parts s rest
      → elim q as (λ x. List Text) [ true ↦ [] ∷ parts s (bs ++ s ∷ rest) | false ↦ at_front b (parts s (bs ++ s ∷ rest)) ]
      ≡ elim q as (λ x. List Text) [ true ↦ [] ∷ parts s bs | false ↦ at_front b (parts s bs) ] ++ parts s rest
  by true again = ap (λ ps. [] ∷ ps) again
  by false again = ap (λ ps. at_front b ps) again ∙ front_append b (parts s bs) (parts s rest) (parts_length s bs)
