-- The table of texts while it grows.
use Rattle.std.proofs.Common.{◌≡◌, ℕ, ◌<◌, ◌≤◌, ◌+◌, true, false, List, [], ◌∷◌, ◌++◌, Option, Some, None, length, bytes_eq, pos, subst, refl, sym, ap, ◌∙◌, ◌⊎◌, inl, inr, ◌≢◌, arith}
use Rattle.std.proofs.lemmas.Bool.{cases_Bool}
use Rattle.std.proofs.lemmas.List.{length_push}
use Rattle.run_types.specs.Table.{is_among, with_text, name_of}
use Rattle.text_scan.specs.Text.{Text, is_word, is_integer, lookup, value_of_digits}
use Rattle.text_scan.specs.Keywords.{keywords}
use Rattle.pool_syntax.specs.Tokens.{signs, kept_text, token_of, texts_after}
use Rattle.pool_syntax.specs.declared.token.Tok.{Tok}
use Rattle.pool_syntax.specs.declared.token.Tok.TheVariants as tok
use Rattle.pool_lexer.specs.TokenLists.{IsPlaced}
use Rattle.pool_lexer.specs.Reading.{with_kept}
use Rattle.pool_lexer.proofs.WordTokens.{name_kept}

-- The number of a text that is there stays as the table grows.
name_of-append : (names more : List Text) (w : Text) → is_among names w ≡ true → name_of (names ++ more) w ≡ name_of names w
name_of-append [] more w e = cc
name_of-append (x ∷ xs) more w e = grind (arith, name_of-append xs more w)

is_among-append : (names more : List Text) (w : Text) → is_among names w ≡ true → is_among (names ++ more) w ≡ true
is_among-append [] more w e = cc
is_among-append (x ∷ xs) more w e = grind (arith, is_among-append xs more w)

bytes_eq-same : (w : Text) → bytes_eq w w ≡ true
bytes_eq-same [] = refl
bytes_eq-same (b ∷ bs) = grind (arith, bytes_eq-same bs)

is_among-push : (names : List Text) (w : Text) → is_among (names ++ w ∷ []) w ≡ true
is_among-push [] w = rw (bytes_eq-same w)
is_among-push (x ∷ xs) w = grind (arith, is_among-push xs w)

name_of-push : (names : List Text) (w : Text) → name_of (names ++ w ∷ []) w ≡ name_of names w
name_of-push [] w = rw (name_of, bytes_eq-same w)
name_of-push (x ∷ xs) w = grind (arith, name_of-push xs w)

-- a text that is there has a place
pub name_of-below : (names : List Text) (w : Text) → is_among names w ≡ true → name_of names w < length names
name_of-below [] w e = cc
name_of-below (x ∷ xs) w e = grind (arith, name_of-below xs w)

-- the same as a text is added, and as texts of pieces are
kept_with : (names : List Text) (w x : Text) → is_among names x ≡ true → (is_among (with_text names w) x ≡ true) × (name_of (with_text names w) x ≡ name_of names x)
kept_with names w x e = elim (cases_Bool (is_among names w)) [
  | inl old ↦ rw (with_text, old) (e, refl)
  | inr new ↦ rw (with_text, new) (is_among-append names (w ∷ []) x e, name_of-append names (w ∷ []) x e)
]

added_with : (names : List Text) (w : Text) → (is_among (with_text names w) w ≡ true) × (name_of (with_text names w) w ≡ name_of names w)
added_with names w = elim (cases_Bool (is_among names w)) [
  | inl old ↦ rw (with_text, old) (old, refl)
  | inr new ↦ rw (with_text, new) (is_among-push names w, name_of-push names w)
]

-- a value, or none
pub cases_Option : {A : Type 0} (o : Option A) → (o ≡ None) ⊎ ((x : A) × (o ≡ Some x))
cases_Option None = inl refl
cases_Option (Some x) = inr (x, refl)

-- a piece adds one text at most
length-with_text : (names : List Text) (w : Text) → length (with_text names w) ≤ length names + 1
length-with_text names w = elim (cases_Bool (is_among names w)) [
  | inl old ↦ rw (with_text, old) (omega arith)
  | inr new ↦ rw (with_text, new) (omega (arith, length_push names w))
]

pub length-with_kept : (names : List Text) (w : Text) → length (with_kept names w) ≤ length names + 1
length-with_kept names w = elim (cases_Option (kept_text w)) [
  | inl none ↦ rw (with_kept, none) (omega arith)
  | inr some ↦ rw (with_kept, some.1) (length-with_text names some.0)
]

pub texts_after-cons : (names : List Text) (w : Text) (ws : List Text) → texts_after names (w ∷ ws) ≡ texts_after (with_kept names w) ws
texts_after-cons names w ws = elim (cases_Option (kept_text w)) [
  | inl none ↦ rw (texts_after, none, with_kept)
  | inr some ↦ rw (texts_after, some.1, with_kept)
]

kept_after : (names : List Text) (ws : List Text) (x : Text) → is_among names x ≡ true → (is_among (texts_after names ws) x ≡ true) × (name_of (texts_after names ws) x ≡ name_of names x)
kept_after names [] x e = (e, refl)
kept_after names (w ∷ ws) x e = elim (cases_Option (kept_text w)) [
  | inl none ↦ rw (texts_after, none) (kept_after names ws x e)
  | inr some ↦
      let here = kept_with names some.0 x e in
      let later = kept_after (with_text names some.0) ws x here.0 in
      rw (texts_after, some.1) (later.0, later.1 ∙ here.1)
]

-- the text of a piece, in the table behind it
pub kept_there : (names : List Text) (w : Text) (ws : List Text) (x : Text) → kept_text w ≡ Some x → (is_among (texts_after (with_kept names w) ws) x ≡ true) × (name_of (texts_after (with_kept names w) ws) x ≡ name_of names x)
kept_there names w ws x e =
    let here = added_with names x in
    let later = kept_after (with_text names x) ws x here.0 in
    rw (with_kept, e) (later.0, later.1 ∙ here.1)

-- neither a name nor a string nor End
abbrev pub IsFixed : Tok → Type 0
IsFixed t = ((n : ℕ) → IsPlaced n t) × (t ≢ tok.End)

-- two values that are there
pub some_same : {A : Type 0} {x y : A} → ◌≡◌ {A = Option A} (Some x) (Some y) → x ≡ y
some_same e = cc

-- what of a token hangs on the table
pub data TokenView (w : Text) : Type 0 where
  always : (o : Option Tok) → ((t : Tok) → o ≡ Some t → IsFixed t) → ((names : List Text) → token_of names w ≡ o) → TokenView w
  a_name : kept_text w ≡ Some w → ((names : List Text) → token_of names w ≡ Some (tok.Name (record { 0 = name_of names w }))) → TokenView w
  a_string : (x : Text) → kept_text w ≡ Some x → ((names : List Text) → token_of names w ≡ Some (tok.Str (record { 0 = name_of names x }))) → TokenView w

fixed_none : (t : Tok) → None ≡ Some t → IsFixed t
fixed_none t e = cc

fixed_some : (u t : Tok) → IsFixed u → Some u ≡ Some t → IsFixed t
fixed_some u t fixed e = let same : u ≡ t = cc in subst (λ v. IsFixed v) same fixed

word_view : (w : Text) → is_word w ≡ true → TokenView w
word_view w word = elim (cases_Option (lookup keywords w)) [
  | inl none ↦ a_name (name_kept w word none) (λ names. rw (token_of, word, none))
  | inr some ↦ always (Some (tok.Word some.0)) (λ t. fixed_some (tok.Word some.0) t (λ _. tt, λ e. cc)) (λ names. rw (token_of, word, some.1))
]

sign_view : (w : Text) → is_word w ≡ false → is_integer w ≡ false → kept_text w ≡ None → TokenView w
sign_view w no_word no_integer nothing = elim (cases_Option (lookup signs w)) [
  | inl none ↦ always None fixed_none (λ names. rw (token_of, no_word, no_integer, nothing, none))
  | inr some ↦ always (Some (tok.Sign some.0)) (λ t. fixed_some (tok.Sign some.0) t (λ _. tt, λ e. cc)) (λ names. rw (token_of, no_word, no_integer, nothing, some.1))
]

other_view : (w : Text) → is_word w ≡ false → TokenView w
other_view w no_word = elim (cases_Bool (is_integer w)) [
  | inl integer ↦ always (Some (tok.Int (pos (value_of_digits 0 w)))) (λ t. fixed_some (tok.Int (pos (value_of_digits 0 w))) t (λ _. tt, λ e. cc)) (λ names. rw (token_of, no_word, integer))
  | inr no_integer ↦ elim (cases_Option (kept_text w)) [
    | inl none ↦ sign_view w no_word no_integer none
    | inr some ↦ a_string some.0 some.1 (λ names. rw (token_of, no_word, no_integer, some.1))
  ]
]

pub token_view : (w : Text) → TokenView w
token_view w = elim (cases_Bool (is_word w)) [ inl word ↦ word_view w word | inr no_word ↦ other_view w no_word ]

-- A piece is the same token in the table behind it and in every later one.
pub token_stays : (names : List Text) (w : Text) (ws : List Text) → token_of (texts_after (with_kept names w) ws) w ≡ token_of names w
token_stays names w ws = elim (token_view w) [
  | always o plain is ↦ is (texts_after (with_kept names w) ws) ∙ sym (is names)
  | a_name kept is ↦ is (texts_after (with_kept names w) ws) ∙ ap (λ n. Some (tok.Name (record { 0 = n }))) (kept_there names w ws w kept).1 ∙ sym (is names)
  | a_string x kept is ↦ is (texts_after (with_kept names w) ws) ∙ ap (λ n. Some (tok.Str (record { 0 = n }))) (kept_there names w ws x kept).1 ∙ sym (is names)
]

-- its number is a place of that table, and it is not End
pub token_placed : (names : List Text) (w : Text) (ws : List Text) (t : Tok) → token_of (texts_after (with_kept names w) ws) w ≡ Some t → IsPlaced (length (texts_after (with_kept names w) ws)) t
token_placed names w ws t e = elim (token_view w) [
  | always o plain is ↦ (plain t (sym (is (texts_after (with_kept names w) ws)) ∙ e)).0 (length (texts_after (with_kept names w) ws))
  | a_name kept is ↦
      let final = texts_after (with_kept names w) ws in
      let same : tok.Name (record { 0 = name_of final w }) ≡ t = some_same (sym (is final) ∙ e) in
      subst (λ u. IsPlaced (length final) u) same (name_of-below final w (kept_there names w ws w kept).0)
  | a_string x kept is ↦
      let final = texts_after (with_kept names w) ws in
      let same : tok.Str (record { 0 = name_of final x }) ≡ t = some_same (sym (is final) ∙ e) in
      subst (λ u. IsPlaced (length final) u) same (name_of-below final x (kept_there names w ws x kept).0)
]

pub token_not_end : (names : List Text) (w : Text) (t : Tok) → token_of names w ≡ Some t → t ≢ tok.End
token_not_end names w t e = elim (token_view w) [
  | always o plain is ↦ (plain t (sym (is names) ∙ e)).1
  | a_name kept is ↦ let same : tok.Name (record { 0 = name_of names w }) ≡ t = some_same (sym (is names) ∙ e) in λ end. cc
  | a_string x kept is ↦ let same : tok.Str (record { 0 = name_of names x }) ≡ t = some_same (sym (is names) ∙ e) in λ end. cc
]
