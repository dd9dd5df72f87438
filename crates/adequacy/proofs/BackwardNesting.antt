-- Looking back from a token counts the open parts after the tokens before it.
use Rattle.std.proofs.Common.{◌≡◌, refl, sym, ap, ◌∙◌, ℕ, zero, suc, ◌+◌, List, [], ◌∷◌, ◌++◌, reverse, take, slice_get, Some, Bool, true, false, arith}
use Rattle.std.proofs.lemmas.List.{reverse-append, reverse-reverse}
use Rattle.pool_syntax.specs.declared.token.Tok.{Tok}
use Rattle.pool_grammar.specs.Nesting.{Role, opening, beginning, closing, operating, parting, plain, role, open_before, depth, nesting}
use Rattle.adequacy.specs.Forward.{OpenParts, nothing_open, without_innermost, step, behind, outside, depth_at}

-- what is open behind tokens, the nearest first
abbrev back : List Tok → OpenParts
back [] = nothing_open
back (t ∷ ts) = step (back ts) (role t)

-- what is open when so many brackets are closed
abbrev leaving : ℕ → OpenParts → OpenParts
leaving zero s = s
leaving (suc k) s = leaving k (without_innermost s.brackets)

-- the brackets count, and the operators of the innermost where nothing parts them
abbrev counted : Bool → OpenParts → ℕ
counted true s = s.operators + outside s.brackets
counted false s = outside s.brackets

-- where nothing is open, nothing is counted, however many brackets are closed
nothing : (held : Bool) (k : ℕ) → 0 ≡ counted held (leaving k nothing_open)
nothing true zero = refl
nothing false zero = refl
nothing held (suc k) = nothing held k

-- the brackets and the operators of the innermost, by their numbers
all_of : (ts : List Tok) → open_before true 0 ts ≡ counted true (back ts) → open_before true 0 ts ≡ (back ts).operators + outside (back ts).brackets
all_of ts h = h

before_is : (ts : List Tok) (held : Bool) (k : ℕ) → open_before held k ts ≡ counted held (leaving k (back ts))
before_is [] held zero = nothing held zero
before_is [] held (suc k) = nothing held (suc k)
before_is (t ∷ ts) held zero = by (role t) refl held (before_is ts)
  where
    by : (r : Role) → role t ≡ r → (h : Bool) → ((h : Bool) (k : ℕ) → open_before h k ts ≡ counted h (leaving k (back ts))) → open_before h zero (t ∷ ts) ≡ counted h (step (back ts) r)
    by opening e true rest = let n = all_of ts (rest true 0) in rw (e, open_before) (omega (arith, n))
    by opening e false rest = let n = all_of ts (rest true 0) in rw (e, open_before) (omega (arith, n))
    by beginning e true rest = let n : open_before false 0 ts ≡ outside (back ts).brackets = rest false 0 in rw (e, open_before) (omega (arith, n))
    by beginning e false rest = rw (e, open_before) (rest false 0)
    by closing e h rest = rw (e, open_before) (rest h 1)
    by operating e true rest = let n = all_of ts (rest true 0) in rw (e, open_before) (omega (arith, n))
    by operating e false rest = rw (e, open_before) (rest false 0)
    by parting e true rest = let n : open_before false 0 ts ≡ outside (back ts).brackets = rest false 0 in rw (e, open_before) (omega (arith, n))
    by parting e false rest = rw (e, open_before) (rest false 0)
    by plain e h rest = rw (e, open_before) (rest h 0)
before_is (t ∷ ts) held (suc k) = by (role t) refl (before_is ts held)
  where
    by : (r : Role) → role t ≡ r → ((n : ℕ) → open_before held n ts ≡ counted held (leaving n (back ts))) → open_before held (suc k) (t ∷ ts) ≡ counted held (leaving (suc k) (step (back ts) r))
    by opening e rest = rw (e, open_before) (rest k)
    by beginning e rest = rw (e, open_before) (rest k)
    by closing e rest = rw (e, open_before) (rest (suc (suc k)))
    by operating e rest = rw (e, open_before) (rest (suc k))
    by parting e rest = rw (e, open_before) (rest (suc k))
    by plain e rest = rw (e, open_before) (rest (suc k))

depth_is : (t : Tok) (ts : List Tok) → depth (t ∷ ts) ≡ depth_at (back ts) (role t)
depth_is t ts = by (role t) refl
  where
    by : (r : Role) → role t ≡ r → depth (t ∷ ts) ≡ depth_at (back ts) r
    by opening e = rw (e, depth) (let n = all_of ts (before_is ts true 0) in omega (arith, n))
    by beginning e = rw (e, depth) (before_is ts false 0)
    by closing e = rw (e, depth) (before_is ts false 0)
    by operating e = rw (e, depth) (let n = all_of ts (before_is ts true 0) in omega (arith, n))
    by parting e = rw (e, depth) (before_is ts false 0)
    by plain e = rw (e, depth) (before_is ts true 0)

-- the same, told from the first token on
behind_append : (s : OpenParts) (ts us : List Tok) → behind s (ts ++ us) ≡ behind (behind s ts) us
behind_append s [] us = refl
behind_append s (t ∷ ts) us = behind_append (step s (role t)) ts us

back_is : (ts : List Tok) → back ts ≡ behind nothing_open (reverse ts)
back_is [] = refl
back_is (t ∷ ts) = ap (λ s. step s (role t)) (back_is ts) ∙ sym (ap (behind nothing_open) (reverse-append (t ∷ []) ts) ∙ behind_append nothing_open (reverse ts) (t ∷ []))

one_more : (ts : List Tok) (i : ℕ) (t : Tok) → slice_get ts i ≡ Some t → take (suc i) ts ≡ take i ts ++ t ∷ []
one_more [] i t h = absurd (cc)
one_more (u ∷ ts) zero t h = let same : u ≡ t = cc in cc
one_more (u ∷ ts) (suc i) t h = ap (λ us. u ∷ us) (one_more ts i t h)

up_to : (ts : List Tok) (i n : ℕ) (t : Tok) → n ≡ suc i → slice_get ts i ≡ Some t → reverse (take n ts) ≡ t ∷ reverse (take i ts)
up_to ts i n t e h = rw (e, one_more ts i t h) (reverse-append (take i ts) (t ∷ []))

pub nesting_is : (ts : List Tok) (i : ℕ) (t : Tok) → slice_get ts i ≡ Some t → nesting ts i ≡ depth_at (behind nothing_open (take i ts)) (role t)
nesting_is ts i t h =
    ap depth (up_to ts i (i + 1) t (omega arith) h) ∙ depth_is t (reverse (take i ts))
    ∙ ap (λ s. depth_at s (role t)) (back_is (reverse (take i ts)) ∙ ap (behind nothing_open) (reverse-reverse (take i ts)))
