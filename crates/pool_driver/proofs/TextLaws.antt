-- Each text in the table of a parsed program has at most 256 bytes.
use Rattle.std.proofs.Common.{◌≡◌, ◌∙◌, ◌⊎◌, ◌<◌, ◌≤◌, ◌+◌, ◌-◌, ℕ, zero, suc, Bool, true, false, not, ◌&&◌, ◌||◌, nat_eq, nat_le, List, [], ◌∷◌, ◌++◌, length, take, drop, Option, Some, None, inl, inr, refl, sym, subst, arith}
use Rattle.std.specs.List.{AllByRecursion as Each}
use Rattle.std.proofs.lemmas.Bool.{cases_Bool}
use Rattle.std.proofs.lemmas.Bool.Decides.{nat_tests}
use Rattle.std.proofs.lemmas.List.{length-append, length-take}
use Rattle.pool_syntax.proofs.Laws.{piece_within}
use Rattle.text_scan.specs.Text.{Text, every, is_digit, is_inner, is_integer, is_letter, is_listed, is_word}
use Rattle.pool_syntax.specs.Tokens.{IsFaultless, is_rest_of_string, is_string, kept_text, piece_fault, texts_after}
use Rattle.text_scan.specs.Keywords.{keywords}
use Rattle.command_inputs.proofs.Laws.{parsed_few}
use Rattle.run_types.specs.Table.{is_among, with_text}
use Rattle.pool_syntax.specs.Terms.{ProgramTree}
use Rattle.pool_grammar.specs.Programs.{IsParsed}
use Rattle.code_semantics.specs.Shaped.{IsListOf, IsShortList}
use Rattle.run_types.proofs.Laws.{first, second}

-- what holds of each text of a table

each_and : (P : Text → Type 0) (xs : List Text) (x : Text) → Each P xs → P x → Each P (xs ++ x ∷ [])
each_and P [] x h l = (l, tt)
each_and P (y ∷ ys) x h l = (h.0, each_and P ys x h.1 l)

with_each : (P : Text → Type 0) (names : List Text) (x : Text) → Each P names → P x → Each P (with_text names x)
with_each P names x h l = by (is_among names x) refl
  where
    by : (b : Bool) → is_among names x ≡ b → Each P (with_text names x)
    by true e = subst (λ (b : Bool). Each P (elim b as (λ _. List Text) [ true ↦ names | false ↦ names ++ x ∷ [] ])) (sym e) h
    by false e = subst (λ (b : Bool). Each P (elim b as (λ _. List Text) [ true ↦ names | false ↦ names ++ x ∷ [] ])) (sym e) (each_and P names x h l)

texts_each : (P : Text → Type 0) → ((w x : Text) → piece_fault 0 w ≡ None → kept_text w ≡ Some x → P x) → (seen ws : List Text) → Each P seen → IsFaultless ws → Each P (texts_after seen ws)
texts_each P kept seen [] h f = h
texts_each P kept seen (w ∷ ws) h f = by (kept_text w) refl (λ names s. texts_each P kept names ws s f.1)
  where
    by : (o : Option Text) → kept_text w ≡ o → ((names : List Text) → Each P names → Each P (texts_after names ws)) → Each P (texts_after seen (w ∷ ws))
    by None e go = subst (λ (o : Option Text). Each P (elim o as (λ _. List Text) [ None ↦ texts_after seen ws | Some x ↦ texts_after (with_text seen x) ws ])) (sym e) (go seen h)
    by (Some x) e go =
        subst (λ (o : Option Text). Each P (elim o as (λ _. List Text) [ None ↦ texts_after seen ws | Some x ↦ texts_after (with_text seen x) ws ])) (sym e)
        (go (with_text seen x) (with_each P seen x h (kept w x f.0 e)))

no_integer : (w : Text) → is_string w ≡ true → is_integer w ≡ false
no_integer [] h = refl
no_integer (b ∷ bs) h = grind (arith, nat_tests, h)

some_same : {x y : Text} → ◌≡◌ {A = Option Text} (Some x) (Some y) → x ≡ y
some_same e = cc

inside_short : (w : Text) → length w ≤ 258 → length (take (length w - 2) (drop 1 w)) ≤ 256
inside_short w h = let l = length-take (length w - 2) (drop 1 w) in omega (arith, h, l)

kept_short : (w x : Text) → piece_fault 0 w ≡ None → kept_text w ≡ Some x → length x ≤ 256
kept_short w x fine kept = elim (cases_Bool (is_word w)) [
  | inl word ↦ elim (cases_Bool (is_listed keywords w)) [
    | inl listed ↦ absurd (let nothing : kept_text w ≡ None = rw (kept_text, word, listed) in cc)
    | inr free ↦
        let short : nat_le (length w) 64 ≡ true = piece_within 64 (length w) _ (rw (piece_fault, word) at fine) in
        let same : w ≡ x = some_same (sym (rw (kept_text, word, free)) ∙ kept) in
        subst (λ (z : Text). length z ≤ 256) same (grind (arith, nat_tests, short))
  ]
  | inr no_word ↦ elim (cases_Bool (is_string w)) [
    | inl quotes ↦
        let short : nat_le (length w) 258 ≡ true = piece_within 258 (length w) _ (rw (piece_fault, no_word, no_integer w quotes, quotes) at fine) in
        let same : take (length w - 2) (drop 1 w) ≡ x = some_same (sym (rw (kept_text, no_word, quotes)) ∙ kept) in
        subst (λ (z : Text). length z ≤ 256) same (inside_short w (grind (arith, nat_tests, short)))
    | inr none ↦ absurd (let nothing : kept_text w ≡ None = rw (kept_text, no_word, none) in cc)
  ]
]

-- and its bytes are bytes

either : (a b : Bool) → (a || b) ≡ true → (a ≡ true) ⊎ (b ≡ true)
either true b h = inl refl
either false b h = inr h

below_end : (low high b : ℕ) → high < 256 → (nat_le low b && nat_le b high) ≡ true → b < 256
below_end low high b l h = let k : nat_le b high ≡ true = second (nat_le low b) (nat_le b high) h in let m : b ≤ high = grind (arith, nat_tests, k) in omega (arith, l, m)

letter_is_byte : (b : ℕ) → is_letter b ≡ true → b < 256
letter_is_byte b h = by (either (nat_le 65 b && nat_le b 90) _ h)
  where
    by : ((nat_le 65 b && nat_le b 90) ≡ true) ⊎ (((nat_le 97 b && nat_le b 122) || nat_eq b 95) ≡ true) → b < 256
    by (inl k) = below_end 65 90 b (omega arith) k
    by (inr k) = on (either (nat_le 97 b && nat_le b 122) (nat_eq b 95) k)
      where
        on : ((nat_le 97 b && nat_le b 122) ≡ true) ⊎ (nat_eq b 95 ≡ true) → b < 256
        on (inl i) = below_end 97 122 b (omega arith) i
        on (inr i) = let e : b ≡ 95 = grind (arith, nat_tests, i) in omega (arith, e)

later_is_byte : (b : ℕ) → (is_letter b || is_digit b) ≡ true → b < 256
later_is_byte b h = by (either (is_letter b) (is_digit b) h)
  where
    by : (is_letter b ≡ true) ⊎ (is_digit b ≡ true) → b < 256
    by (inl k) = letter_is_byte b k
    by (inr k) = below_end 48 57 b (omega arith) k

inner_is_byte : (b : ℕ) → is_inner b ≡ true → b < 256
inner_is_byte b h = below_end 32 126 b (omega arith) (first (nat_le 32 b && nat_le b 126) (not (nat_eq b 34)) h)

quote_is_byte : (b : ℕ) → nat_eq b 34 ≡ true → b < 256
quote_is_byte b h = let e : b ≡ 34 = grind (arith, nat_tests, h) in omega (arith, e)

every_byte : (p : ℕ → Bool) → ((b : ℕ) → p b ≡ true → b < 256) → (bs : Text) → every p bs ≡ true → Each (λ b. b < 256) bs
every_byte p byte [] h = tt
every_byte p byte (b ∷ bs) h = (byte b (first (p b) (every p bs) h), every_byte p byte bs (second (p b) (every p bs) h))

word_bytes : (w : Text) → is_word w ≡ true → Each (λ b. b < 256) w
word_bytes [] h = tt
word_bytes (b ∷ bs) h =
    (letter_is_byte b (first (is_letter b) _ h), every_byte (λ c. is_letter c || is_digit c) later_is_byte bs (second (is_letter b) (every (λ c. is_letter c || is_digit c) bs) h))

rest_bytes : (bs : Text) → is_rest_of_string bs ≡ true → Each (λ b. b < 256) bs
rest_bytes [] h = tt
rest_bytes (b ∷ []) h = (quote_is_byte b h, tt)
rest_bytes (b ∷ c ∷ bs) h = (inner_is_byte b (first (is_inner b) (is_rest_of_string (c ∷ bs)) h), rest_bytes (c ∷ bs) (second (is_inner b) (is_rest_of_string (c ∷ bs)) h))

string_bytes : (w : Text) → is_string w ≡ true → Each (λ b. b < 256) w
string_bytes [] h = tt
string_bytes (b ∷ bs) h = (quote_is_byte b (first (nat_eq b 34) (is_rest_of_string bs) h), rest_bytes bs (second (nat_eq b 34) (is_rest_of_string bs) h))

behind_bytes : (n : ℕ) (bs : Text) → Each (λ b. b < 256) bs → Each (λ b. b < 256) (drop n bs)
behind_bytes zero bs h = h
behind_bytes (suc n) [] h = tt
behind_bytes (suc n) (b ∷ bs) h = behind_bytes n bs h.1

front_bytes : (n : ℕ) (bs : Text) → Each (λ b. b < 256) bs → Each (λ b. b < 256) (take n bs)
front_bytes zero bs h = tt
front_bytes (suc n) [] h = tt
front_bytes (suc n) (b ∷ bs) h = (h.0, front_bytes n bs h.1)

kept_bytes : (w x : Text) → piece_fault 0 w ≡ None → kept_text w ≡ Some x → Each (λ b. b < 256) x
kept_bytes w x fine kept = elim (cases_Bool (is_word w)) [
  | inl word ↦ elim (cases_Bool (is_listed keywords w)) [
    | inl listed ↦ absurd (let nothing : kept_text w ≡ None = rw (kept_text, word, listed) in cc)
    | inr free ↦
        let same : w ≡ x = some_same (sym (rw (kept_text, word, free)) ∙ kept) in
        subst (λ (z : Text). Each (λ b. b < 256) z) same (word_bytes w word)
  ]
  | inr no_word ↦ elim (cases_Bool (is_string w)) [
    | inl quotes ↦
        let same : take (length w - 2) (drop 1 w) ≡ x = some_same (sym (rw (kept_text, no_word, quotes)) ∙ kept) in
        subst (λ (z : Text). Each (λ b. b < 256) z) same (front_bytes (length w - 2) (drop 1 w) (behind_bytes 1 w (string_bytes w quotes)))
    | inr none ↦ absurd (let nothing : kept_text w ≡ None = rw (kept_text, no_word, none) in cc)
  ]
]

pub parsed_bytes : (s : Text) (names : List Text) (p : ProgramTree) → IsParsed s names p → Each (λ t. Each (λ b. b < 256) t) names
parsed_bytes s names p h = subst (Each (λ (t : Text). Each (λ b. b < 256) t)) (sym h.1.3) (texts_each (λ t. Each (λ b. b < 256) t) kept_bytes [] h.1.0 tt h.1.2)

-- so the table of a program of at most 1,048,576 bytes can be written in an object code file

each_short : (names : List Text) → Each (λ x. length x ≤ 256) names → Each IsShortList names
each_short [] h = tt
each_short (x ∷ xs) h = let l = h.0 in (omega (arith, l), each_short xs h.1)

pub parsed_listed : (s : Text) (names : List Text) (p : ProgramTree) → IsParsed s names p → length s ≤ 1048576 → IsListOf IsShortList names
parsed_listed s names p h small =
    let few = parsed_few s names p h in
    let all = subst (Each (λ (x : Text). length x ≤ 256)) (sym h.1.3) (texts_each (λ x. length x ≤ 256) kept_short [] h.1.0 tt h.1.2) in
    (omega (arith, few, small), each_short names all)
