-- Texts that are written one after another.
use Rattle.std.proofs.Common.{◌≡◌, refl, sym, ap, ◌∙◌, ◌≤◌, List, [], ◌∷◌, ◌++◌, Bool, true, false, Option, Some, option_map, append_assoc, subst, arith}
use Rattle.pool_outside.specs.Outside.{Rose, IsProperFront}
use Rattle.pool_outside.proofs.Laws.{cut_first, cut_second, joined, rose_later, rose_before, append_nothing}
use Rattle.text_scan.specs.Text.{Text}
use Rattle.pool_syntax.specs.declared.token.Tok.{Tok}
use Rattle.pool_printer.specs.Canonical.{gap, text_behind}
use Rattle.pool_printer.specs.SinkState.{State, Puts, whole, cut, idle, Prints, last_of}
use Rattle.pool_printer.specs.Spelling.{spelling}

-- one text and then another
pub puts_append : (s t : Text) (a b c : State) → Puts s a b → Puts t b c → Puts (s ++ t) a c
puts_append s t a b c (whole o p w f) (whole o2 p2 w2 f2) = whole o p2 (joined s t _ _ _ w w2) (f2 ∙ f)
puts_append s t a b c (whole o p w f) (cut o2 p2 h f2 r) = cut o p2 (cut_second a.written b.written c.written s t w h) (omega arith) (rose_later _ _ _ (omega arith) r)
puts_append s t a b c (whole o p w f) (idle o2 p2 w2 f2) = absurd (cc)
puts_append s t a b c (cut o p h f r) (whole o2 p2 w2 f2) = absurd (cc)
puts_append s t a b c (cut o p h f r) (cut o2 p2 h2 f2 r2) = absurd (cc)
puts_append s t a b c (cut o p h f r) (idle o2 p2 w2 f2) =
    cut o p2 (subst (IsProperFront a.written (s ++ t)) (sym w2) (cut_first a.written b.written s t h)) (omega arith) (rose_before _ _ _ r (sym f2))
puts_append s t a b c (idle o p w f) (whole o2 p2 w2 f2) = absurd (cc)
puts_append s t a b c (idle o p w f) (cut o2 p2 h f2 r) = absurd (cc)
puts_append s t a b c (idle o p w f) (idle o2 p2 w2 f2) = idle o p2 (w2 ∙ w) (f2 ∙ f)

-- the same but for the last token
like_put : (a b : State) (k : Bool) → a.failed ≡ k → b.failed ≡ a.failed → b.written ≡ a.written → b.faults ≡ a.faults → Puts [] a b
like_put a b true e h w f = idle e (h ∙ e) w f
like_put a b false e h w f = whole e (h ∙ e) (w ∙ append_nothing a.written) f

puts_like : (a b : State) → b.failed ≡ a.failed → b.written ≡ a.written → b.faults ≡ a.faults → Puts [] a b
puts_like a b h w f = like_put a b a.failed refl h w f

pub puts_nothing : (a : State) → Puts [] a a
puts_nothing a = puts_like a a refl refl refl

text_behind-append : (names : List Text) (l : Option Tok) (xs ys : List Tok) → text_behind names l xs ++ text_behind names (last_of l xs) ys ≡ text_behind names l (xs ++ ys)
text_behind-append names l [] ys = refl
text_behind-append names l (x ∷ xs) ys =
    append_assoc (gap l x) (spelling names x ++ text_behind names (Some x) xs) _
    ∙ ap (λ t. gap l x ++ t) (append_assoc (spelling names x) (text_behind names (Some x) xs) _ ∙ ap (λ t. spelling names x ++ t) (text_behind-append names (Some x) xs ys))

last_of-append : (l : Option Tok) (xs ys : List Tok) → last_of (last_of l xs) ys ≡ last_of l (xs ++ ys)
last_of-append l [] ys = refl
last_of-append l (x ∷ xs) ys = last_of-append (Some x) xs ys

-- the same text
pub puts_same : (s t : Text) (a b : State) → s ≡ t → Puts s a b → Puts t a b
puts_same s t a b e p = let P : Text → Type 0 = λ u. Puts u a b in subst P e p

-- some tokens and then more
pub prints_append : (names : List Text) (xs ys : List Tok) (a b c : State) → Prints names xs a b → Prints names ys b c → Prints names (xs ++ ys) a c
prints_append names xs ys a b c p q = record {
  last = q.last ∙ ap (λ l. last_of l ys) p.last ∙ last_of-append a.last xs ys;
  text = puts_same _ _ a c (ap (λ l. text_behind names a.last xs ++ text_behind names l ys) p.last ∙ text_behind-append names a.last xs ys)
      (puts_append (text_behind names a.last xs) (text_behind names b.last ys) a b c p.text q.text);
}

-- a token and then more
pub prints_more : (names : List Text) (x : Tok) (ys : List Tok) (a b c : State) → Prints names (x ∷ []) a b → Prints names ys b c → Prints names (x ∷ ys) a c
prints_more names x ys a b c p q = prints_append names (x ∷ []) ys a b c p q

pub prints_nothing : (names : List Text) (a : State) → Prints names [] a a
prints_nothing names a = record { last = refl; text = puts_nothing a }

-- the same tokens
pub prints_same : (names : List Text) (xs ys : List Tok) (a b : State) → xs ≡ ys → Prints names xs a b → Prints names ys a b
prints_same names xs ys a b e p = let P : List Tok → Type 0 = λ ts. Prints names ts a b in subst P e p

-- what separates a token from the last one, and its text
pub said : (names : List Text) (t : Tok) (a b c d : State) → Puts (gap a.last t) a b → Puts (spelling names t) b c → d.last ≡ Some t → d.failed ≡ c.failed → d.written ≡ c.written → d.faults ≡ c.faults → Prints names (t ∷ []) a d
said names t a b c d p q l h w f = record {
  last = l;
  text = puts_append (gap a.last t) (spelling names t ++ []) a b d p
      (puts_append (spelling names t) [] b c d q (puts_like c d h w f));
}

-- what a text that was put says of the end

pub put_whole : (t : Text) (a b : State) → Puts t a b → b.failed ≡ false → b.written ≡ option_map (λ w. w ++ t) a.written
put_whole t a b (whole o p w f) h = w
put_whole t a b (cut o p l f r) h = absurd (cc)
put_whole t a b (idle o p w f) h = absurd (cc)

pub put_front : (t : Text) (a b : State) → Puts t a b → a.failed ≡ false → b.failed ≡ true → IsProperFront a.written t b.written
put_front t a b (whole o p w f) g h = absurd (cc)
put_front t a b (cut o p l f r) g h = l
put_front t a b (idle o p w f) g h = absurd (cc)
