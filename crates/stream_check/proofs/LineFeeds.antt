-- The lines of a text with more bytes after it.
use Rattle.std.proofs.Common.{◌≡◌, refl, sym, ap, subst, ◌∙◌, ℕ, ◌<◌, List, [], ◌∷◌, ◌++◌, length, Bool, true, false, nat_eq, append_assoc, append-nil, arith}
use borrow.Author.Tests.{eqb-true}
use denote.Bor.{Bor}
use Rattle.std.specs.Prelude.{Some, None, option_map}
use Rattle.text_scan.specs.Text.{Text}
use Rattle.text_scan.specs.Lines.{at_front}
use Rattle.record_parser.specs.Fields.{parts}
use Rattle.record_parser.specs.TextParts.{IsCut, parts_left}
use Rattle.record_parser.specs.declared.fields.Front.{Front}
use Rattle.record_parser.proofs.Laws.{parts_joint, parts_length}
use Rattle.stream_check.specs.Progress.{last_part}
use Rattle.stream_check.specs.Stream.{all_but_last, whole_lines}

-- the texts with line feeds between them
abbrev pub glued : List Text → Text
glued [] = []
glued (p ∷ []) = p
glued (p ∷ q ∷ ps) = p ++ 10 ∷ glued (q ∷ ps)

glued_more : (p : Text) (ps : List Text) → 0 < length ps → glued (p ∷ ps) ≡ p ++ 10 ∷ glued ps
glued_more p [] h = absurd (omega arith)
glued_more p (q ∷ qs) h = refl

glued_front : (b : ℕ) (ps : List Text) → glued (at_front b ps) ≡ b ∷ glued ps
glued_front b [] = refl
glued_front b (p ∷ []) = refl
glued_front b (p ∷ q ∷ ps) = refl

-- the parts of a text, with line feeds between them, are the text
pub glued_parts : (t : Text) → glued (parts 10 t) ≡ t
glued_parts [] = refl
glued_parts (b ∷ bs) = by (nat_eq b 10) refl (glued_parts bs)
  where
    by : (q : Bool) → nat_eq b 10 ≡ q → glued (parts 10 bs) ≡ bs → glued (elim q [ true ↦ [] ∷ parts 10 bs | false ↦ at_front b (parts 10 bs) ]) ≡ b ∷ bs
    by true e again = glued_more [] (parts 10 bs) (parts_length 10 bs) ∙ (ap (λ t. 10 ∷ t) again ∙ ap (λ k. k ∷ bs) (sym (eqb-true b 10 e)))
    by false e again = glued_front b (parts 10 bs) ∙ ap (λ t. b ∷ t) again

-- what was cut off a text, and the rest, are the text
cut_more : (t f left : Text) → parts 10 t ≡ f ∷ parts 10 left → t ≡ f ++ 10 ∷ left
cut_more t f left e =
    sym (glued_parts t) ∙ (ap glued e ∙ (glued_more f (parts 10 left) (parts_length 10 left) ∙ ap (λ x. f ++ 10 ∷ x) (glued_parts left)))

cut_last : (t f : Text) → parts 10 t ≡ f ∷ [] → t ≡ f
cut_last t f e = sym (glued_parts t) ∙ ap glued e

-- the same as the reader cuts the text
pub cut_at : (t : Text) (c : Front) (left : Bor Text) → IsCut 10 (parts 10 t) c → c.rest ≡ Some left → t ≡ c.first.now ++ 10 ∷ left.now
cut_at t c left e is = cut_more t c.first.now left.now (e ∙ ap (λ r. c.first.now ∷ parts_left 10 (option_map (λ (b : Bor Text). b.now) r)) is)

pub cut_none : (t : Text) (c : Front) → IsCut 10 (parts 10 t) c → c.rest ≡ None → t ≡ c.first.now
cut_none t c e is = cut_last t c.first.now (e ∙ ap (λ r. c.first.now ∷ parts_left 10 (option_map (λ (b : Bor Text). b.now) r)) is)

-- no byte is a line feed
abbrev pub NoFeed : Text → Type 0
NoFeed [] = Unit {0}
NoFeed (b ∷ bs) = (nat_eq b 10 ≡ false) × NoFeed bs

pub no_feed_in : (u v : Text) → NoFeed u → NoFeed v → NoFeed (u ++ v)
no_feed_in [] v h k = k
no_feed_in (b ∷ bs) v h k = (h.0, no_feed_in bs v h.1 k)

-- such a text is its only part
pub one_part : (t : Text) → NoFeed t → parts 10 t ≡ t ∷ []
one_part [] h = refl
one_part (b ∷ bs) h = ap (λ (q : Bool). elim q as (λ x. List Text) [ true ↦ [] ∷ parts 10 bs | false ↦ at_front b (parts 10 bs) ]) h.0 ∙ ap (at_front b) (one_part bs h.1)

abbrev first_part : List Text → Text
first_part [] = []
first_part (p ∷ ps) = p

first_clear : (t : Text) → NoFeed (first_part (parts 10 t))
first_clear [] = tt
first_clear (b ∷ bs) = by (nat_eq b 10) refl (first_clear bs)
  where
    front : (ps : List Text) → nat_eq b 10 ≡ false → NoFeed (first_part ps) → NoFeed (first_part (at_front b ps))
    front [] e again = (e, tt)
    front (p ∷ ps) e again = (e, again)

    by : (q : Bool) → nat_eq b 10 ≡ q → NoFeed (first_part (parts 10 bs)) → NoFeed (first_part (elim q [ true ↦ [] ∷ parts 10 bs | false ↦ at_front b (parts 10 bs) ]))
    by true e again = tt
    by false e again = front (parts 10 bs) e again

-- the first part of a text has no line feed
pub first_no_feed : (t : Text) (c : Front) → IsCut 10 (parts 10 t) c → NoFeed c.first.now
first_no_feed t c e = subst (λ (ps : List Text). NoFeed (first_part ps)) e (first_clear t)

last_more : (p : Text) (ps : List Text) → 0 < length ps → last_part (p ∷ ps) ≡ last_part ps
last_more p [] h = absurd (omega arith)
last_more p (q ∷ qs) h = refl

-- the last part of a text has no line feed
pub last_no_feed : (t : Text) → NoFeed (last_part (parts 10 t))
last_no_feed [] = tt
last_no_feed (b ∷ bs) = by (nat_eq b 10) refl (last_no_feed bs)
  where
    front : (ps : List Text) → nat_eq b 10 ≡ false → NoFeed (last_part ps) → NoFeed (last_part (at_front b ps))
    front [] e again = (e, tt)
    front (p ∷ []) e again = (e, again)
    front (p ∷ q ∷ ps) e again = again

    by : (q : Bool) → nat_eq b 10 ≡ q → NoFeed (last_part (parts 10 bs)) → NoFeed (last_part (elim q [ true ↦ [] ∷ parts 10 bs | false ↦ at_front b (parts 10 bs) ]))
    by true e again = subst NoFeed (sym (last_more [] (parts 10 bs) (parts_length 10 bs))) again
    by false e again = front (parts 10 bs) e again

but_last_more : (p : Text) (ps : List Text) → 0 < length ps → all_but_last (p ∷ ps) ≡ p ∷ all_but_last ps
but_last_more p [] h = absurd (omega arith)
but_last_more p (q ∷ qs) h = refl

but_last_append : (xs ys : List Text) → 0 < length ys → all_but_last (xs ++ ys) ≡ xs ++ all_but_last ys
but_last_append [] ys h = refl
but_last_append (x ∷ []) ys h = but_last_more x ys h
but_last_append (x ∷ z ∷ xs) ys h = ap (λ ps. x ∷ ps) (but_last_append (z ∷ xs) ys h)

last_append : (xs ys : List Text) → 0 < length ys → last_part (xs ++ ys) ≡ last_part ys
last_append [] ys h = refl
last_append (x ∷ []) ys h = last_more x ys h
last_append (x ∷ z ∷ xs) ys h = last_append (z ∷ xs) ys h

-- the parts of a text with more bytes after it
pub parts_more : (s t : Text) → parts 10 (s ++ t) ≡ whole_lines s ++ parts 10 (last_part (parts 10 s) ++ t)
parts_more [] t = refl
parts_more (b ∷ bs) t = by (nat_eq b 10) refl (parts_more bs t)
  where
    front : (ps : List Text) → nat_eq b 10 ≡ false → parts 10 bs ≡ ps → parts 10 (bs ++ t) ≡ all_but_last ps ++ parts 10 (last_part ps ++ t)
        → at_front b (parts 10 (bs ++ t)) ≡ all_but_last (at_front b ps) ++ parts 10 (last_part (at_front b ps) ++ t)
    front [] e i again = absurd (omega (arith, parts_length 10 bs, ap length i))
    front (p ∷ []) e i again =
        ap (at_front b) again ∙ sym (ap (λ (q : Bool). elim q as (λ x. List Text) [ true ↦ [] ∷ parts 10 (p ++ t) | false ↦ at_front b (parts 10 (p ++ t)) ]) e)
    front (p ∷ q ∷ ps) e i again = ap (at_front b) again

    by : (q : Bool) → nat_eq b 10 ≡ q → parts 10 (bs ++ t) ≡ all_but_last (parts 10 bs) ++ parts 10 (last_part (parts 10 bs) ++ t)
        → elim q as (λ x. List Text) [ true ↦ [] ∷ parts 10 (bs ++ t) | false ↦ at_front b (parts 10 (bs ++ t)) ]
        ≡ all_but_last (elim q as (λ x. List Text) [ true ↦ [] ∷ parts 10 bs | false ↦ at_front b (parts 10 bs) ])
        ++ parts 10 (last_part (elim q as (λ x. List Text) [ true ↦ [] ∷ parts 10 bs | false ↦ at_front b (parts 10 bs) ]) ++ t)
    by true e again =
        let some = parts_length 10 bs in
        ap (λ ps. [] ∷ ps) again
        ∙ (ap (λ p. [] ∷ (all_but_last (parts 10 bs) ++ parts 10 (p ++ t))) (sym (last_more [] (parts 10 bs) some))
        ∙ ap (λ ps. ps ++ parts 10 (last_part ([] ∷ parts 10 bs) ++ t)) (sym (but_last_more [] (parts 10 bs) some)))
    by false e again = front (parts 10 bs) e refl again

-- the whole lines of a text with more bytes after it
pub whole_more : (s t : Text) → whole_lines (s ++ t) ≡ whole_lines s ++ whole_lines (last_part (parts 10 s) ++ t)
whole_more s t = ap all_but_last (parts_more s t) ∙ but_last_append (whole_lines s) (parts 10 (last_part (parts 10 s) ++ t)) (parts_length 10 (last_part (parts 10 s) ++ t))

-- the parts with a line after a text, and what follows it
line_parts : (s f left : Text) → NoFeed f → parts 10 (last_part (parts 10 s) ++ (f ++ 10 ∷ left)) ≡ (last_part (parts 10 s) ++ f) ∷ parts 10 left
line_parts s f left h =
    let u = last_part (parts 10 s) in
    ap (parts 10) (sym (append_assoc u f (10 ∷ left)))
    ∙ (parts_joint 10 (u ++ f) left ∙ ap (λ ps. ps ++ parts 10 left) (one_part (u ++ f) (no_feed_in u f (last_no_feed s) h)))

pub whole_line : (s f left : Text) → NoFeed f → whole_lines (s ++ (f ++ 10 ∷ left)) ≡ whole_lines s ++ (last_part (parts 10 s) ++ f) ∷ whole_lines left
whole_line s f left h =
    whole_more s (f ++ 10 ∷ left)
    ∙ ap (λ ps. whole_lines s ++ ps) (ap all_but_last (line_parts s f left h) ∙ but_last_more (last_part (parts 10 s) ++ f) (parts 10 left) (parts_length 10 left))

-- after a line feed no byte is left
pub line_tail : (s f : Text) → NoFeed f → last_part (parts 10 (s ++ (f ++ 10 ∷ []))) ≡ []
line_tail s f h =
    let u = last_part (parts 10 s) in
    ap last_part (parts_more s (f ++ 10 ∷ []) ∙ ap (λ ps. whole_lines s ++ ps) (line_parts s f [] h))
    ∙ last_append (whole_lines s) ((u ++ f) ∷ [] ∷ []) (omega arith)

-- bytes without a line feed make no line whole
pub whole_same : (s f : Text) → NoFeed f → whole_lines (s ++ f) ≡ whole_lines s
whole_same s f h =
    let u = last_part (parts 10 s) in
    whole_more s f ∙ (ap (λ ps. whole_lines s ++ all_but_last ps) (one_part (u ++ f) (no_feed_in u f (last_no_feed s) h)) ∙ append-nil (whole_lines s))

pub tail_more : (s f : Text) → NoFeed f → last_part (parts 10 (s ++ f)) ≡ last_part (parts 10 s) ++ f
tail_more s f h =
    let u = last_part (parts 10 s) in
    ap last_part (parts_more s f ∙ ap (λ ps. whole_lines s ++ ps) (one_part (u ++ f) (no_feed_in u f (last_no_feed s) h)))
    ∙ last_append (whole_lines s) ((u ++ f) ∷ []) (omega arith)
