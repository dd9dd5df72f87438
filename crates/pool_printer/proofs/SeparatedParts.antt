-- Parts that are printed one after another, with a separator between each two.
use Rattle.std.proofs.Common.{◌≡◌, refl, sym, ap, ◌∙◌, ℕ, zero, suc, ◌+◌, ◌<◌, ◌≤◌, true, false, ◌&&◌, List, [], ◌∷◌, ◌++◌, length, drop, get_or, Some, is_some, slice_get, inl, inr, arith}
use Rattle.std.proofs.lemmas.List.{at_drop_more, at_drop_all}
use Rattle.std.proofs.lemmas.Option.{slice_get_cases}
use Rattle.run_types.proofs.Laws.{first, second}
use Rattle.text_scan.specs.Text.{Text}
use Rattle.pool_syntax.specs.declared.token.Tok.{Tok}
use Rattle.pool_printer.specs.Canonical.{separated_by, led_by}
use Rattle.pool_printer.specs.Known.{are_known, is_known}
use Rattle.pool_printer.specs.SinkState.{State, Prints, separator_at}
use Rattle.pool_printer.proofs.PartsFrom.{from_place}
use Rattle.run_types.specs.Table.{text_at}
use Rattle.pool_printer.proofs.SequentialOutput.{prints_append, prints_nothing, prints_same}

pub known_append : (names : List Text) (xs ys : List Tok) → are_known names (xs ++ ys) ≡ (are_known names xs && are_known names ys)
known_append names [] ys = refl
known_append names (x ∷ xs) ys = grind (arith, known_append names xs ys)

-- known tokens have known parts
pub known_left : (names : List Text) (xs ys : List Tok) → are_known names (xs ++ ys) ≡ true → are_known names xs ≡ true
known_left names xs ys h = first _ _ (sym (known_append names xs ys) ∙ h)

pub known_right : (names : List Text) (xs ys : List Tok) → are_known names (xs ++ ys) ≡ true → are_known names ys ≡ true
known_right names xs ys h = second _ _ (sym (known_append names xs ys) ∙ h)

-- the tokens of parts from a place on are those of its separator, those of the part, and the rest
pub place_more : (sep : Tok) (i : ℕ) (p : List Tok) (ps : List (List Tok)) → from_place sep i (p ∷ ps) ≡ separator_at sep i ++ (p ++ from_place sep (i + 1) ps)
place_more sep zero p ps = refl
place_more sep (suc i) p ps = let e : suc i + 1 ≡ suc (suc i) = omega arith in rw e refl

-- Printing the rest from here is printing all from there, and the texts of the rest are known.
pub record Rests (names : List Text) (all : List Tok) (from : State) (rest : List Tok) (here : State) : Type 0 where
  pub printed : (c : State) → Prints names rest here c → Prints names all from c
  pub known : are_known names rest ≡ true

pub rests_begin : (names : List Text) (all : List Tok) (a : State) → are_known names all ≡ true → Rests names all a all a
rests_begin names all a h = record { printed = λ c p. p; known = h }

pub rests_step : (names : List Text) (all rest xs ys : List Tok) (a b c : State) → Rests names all a rest b → rest ≡ xs ++ ys → Prints names xs b c → Rests names all a ys c
rests_step names all rest xs ys a b c r e p = record {
  printed = λ d q. r.printed d (prints_same names (xs ++ ys) rest b d (sym e) (prints_append names xs ys b c d p q));
  known = known_right names xs ys (ap (are_known names) (sym e) ∙ r.known);
}

pub rests_end : (names : List Text) (all rest : List Tok) (a b : State) → Rests names all a rest b → rest ≡ [] → Prints names all a b
rests_end names all rest a b r e = r.printed b (prints_same names [] rest b b (sym e) (prints_nothing names b))

-- the rest of the parts at a place, which is there
pub parts_more : {A : Type 0} (sep : Tok) (parts : List A → List (List Tok)) (part : A → List Tok) (xs : List A) (i : ℕ) (x : A) → i < length xs → x ≡ get_or xs i x
    → ((ys : List A) (y : A) → parts (y ∷ ys) ≡ part y ∷ parts ys)
    → from_place sep i (parts (drop i xs)) ≡ separator_at sep i ++ (part x ++ from_place sep (i + 1) (parts (drop (i + 1) xs)))
parts_more sep parts part xs i x within at unfolds =
    ap (from_place sep i) (at_drop_more parts xs i x within ∙ ap (λ y. parts (y ∷ drop (i + 1) xs)) (sym at) ∙ unfolds (drop (i + 1) xs) x)
    ∙ place_more sep i (part x) (parts (drop (i + 1) xs))

-- and so of parts without separators
pub all_more : {A : Type 0} (all : List A → List Tok) (part : A → List Tok) (xs : List A) (i : ℕ) (x : A) → i < length xs → x ≡ get_or xs i x
    → ((ys : List A) (y : A) → all (y ∷ ys) ≡ part y ++ all ys)
    → all (drop i xs) ≡ part x ++ all (drop (i + 1) xs)
all_more all part xs i x within at unfolds =
    at_drop_more all xs i x within ∙ ap (λ y. all (y ∷ drop (i + 1) xs)) (sym at) ∙ unfolds (drop (i + 1) xs) x

-- a known name's text is in the table
pub known_name : (names : List Text) (n : ℕ) → is_some (slice_get names n) ≡ true → n < length names
known_name names n h = elim (slice_get_cases names n).1 [ inl f ↦ f.1 | inr f ↦ absurd (let e : is_some (slice_get names n) ≡ false = ap is_some f.1 in cc) ]

pub text_known : (names : List Text) (n : ℕ) (w : Text) → slice_get names n ≡ Some w → text_at names n ≡ w
text_known names n w e = rw e refl

-- behind the last part nothing is left
pub no_more : {A : Type 0} (sep : Tok) (i : ℕ) (parts : List A → List (List Tok)) (xs : List A) → length xs ≤ i → parts [] ≡ [] → from_place sep i (parts (drop i xs)) ≡ []
no_more sep zero parts xs past e = ap (separated_by sep) (at_drop_all parts xs zero past ∙ e)
no_more sep (suc i) parts xs past e = ap (led_by sep) (at_drop_all parts xs (suc i) past ∙ e)

-- the same of an element that is read with a default
pub parts_at : {A : Type 0} (sep : Tok) (parts : List A → List (List Tok)) (part : A → List Tok) (xs : List A) (i : ℕ) (d : A) → i < length xs
    → ((ys : List A) (y : A) → parts (y ∷ ys) ≡ part y ∷ parts ys)
    → from_place sep i (parts (drop i xs)) ≡ separator_at sep i ++ (part (get_or xs i d) ++ from_place sep (i + 1) (parts (drop (i + 1) xs)))
parts_at sep parts part xs i d within unfolds =
    ap (from_place sep i) (at_drop_more parts xs i d within ∙ unfolds (drop (i + 1) xs) (get_or xs i d))
    ∙ place_more sep i (part (get_or xs i d)) (parts (drop (i + 1) xs))

pub all_at : {A : Type 0} (all : List A → List Tok) (part : A → List Tok) (xs : List A) (i : ℕ) (d : A) → i < length xs
    → ((ys : List A) (y : A) → all (y ∷ ys) ≡ part y ++ all ys)
    → all (drop i xs) ≡ part (get_or xs i d) ++ all (drop (i + 1) xs)
all_at all part xs i d within unfolds = at_drop_more all xs i d within ∙ unfolds (drop (i + 1) xs) (get_or xs i d)
