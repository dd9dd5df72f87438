-- The greater of two numbers.
use Rattle.std.proofs.Common.{◌≡◌, refl, sym, ap, ap₂, subst, ◌∙◌, ℕ, suc, ◌+◌, ◌-◌, ◌<◌, ◌≤◌, min, Bool, true, false, List, ◌∷◌, length, drop, get_or, arith}
use Rattle.std.specs.Prelude.{nat_le, if◌then◌else◌}
use Rattle.std.proofs.lemmas.List.{at_drop_more}
use Rattle.pool_compile.specs.Code.{more}

by_more : (P : ℕ → Type 0) (m n : ℕ) → (m ≤ n → P n) → (n ≤ m → P m) → P (more m n)
by_more P m n f g = by (nat_le m n) refl
  where
    by : (b : Bool) → nat_le m n ≡ b → P (if b then n else m)
    by true e = f (grind (arith, e))
    by false e = g (grind (arith, e))

pub more_left : (m n : ℕ) → m ≤ more m n
more_left m n = by_more (λ k. m ≤ k) m n (λ h. h) (λ h. omega arith)

pub more_right : (m n : ℕ) → n ≤ more m n
more_right m n = by_more (λ k. n ≤ k) m n (λ h. omega arith) (λ h. h)

pub more_within : (m n k : ℕ) → m ≤ k → n ≤ k → more m n ≤ k
more_within m n k a b = by_more (λ l. l ≤ k) m n (λ h. b) (λ h. a)

equal : (m n : ℕ) → m ≤ n → n ≤ m → m ≡ n
equal m n a b = omega arith

pub more_assoc : (a b c : ℕ) → more (more a b) c ≡ more a (more b c)
more_assoc a b c =
    let l1 = more_left a b in
    let l2 = more_right a b in
    let l3 = more_left (more a b) c in
    let l4 = more_right (more a b) c in
    let r1 = more_left b c in
    let r2 = more_right b c in
    let r3 = more_left a (more b c) in
    let r4 = more_right a (more b c) in
    equal _ _
    (more_within (more a b) c (more a (more b c)) (more_within a b (more a (more b c)) (omega arith) (omega arith)) (omega arith))
    (more_within a (more b c) (more (more a b) c) (omega arith) (more_within b c (more (more a b) c) (omega arith) (omega arith)))

-- two parts, each right where it is no more than 64
pub both : (m n a b : ℕ) → (m ≤ 64 → a ≡ m) → (n ≤ 64 → b ≡ n) → more m n ≤ 64 → more a b ≡ more m n
both m n a b f g h =
    let l = more_left m n in
    let r = more_right m n in
    ap₂ more (f (omega (arith, l, h))) (g (omega (arith, r, h)))

-- one more
pub next : (n b sum : ℕ) → (n ≤ 64 → b ≡ n) → sum ≡ min (b + 1) 4294967295 → suc n ≤ 64 → sum ≡ suc n
next n b sum f e h = let q = f (omega (arith, h)) in omega (arith, q, e, h)

-- the same of an equal tree
pub by_tree : {T : Type 0} (words : T → ℕ) (x y : T) (r : ℕ) → x ≡ y → (words y ≤ 64 → r ≡ words y) → words x ≤ 64 → r ≡ words x
by_tree words x y r e f h = f (subst (λ z. words z ≤ 64) e h) ∙ ap words (sym e)

-- the part before those whose words are known
pub step_back : {A : Type 0} (all : List A → ℕ) (part : A → ℕ) (xs : List A) (left : ℕ) (x : A) (most here sum now : ℕ) → 0 < left → left ≤ length xs → x ≡ get_or xs (left - 1) x
    → ((y : A) (ys : List A) → all (y ∷ ys) ≡ more (part y) (suc (all ys)))
    → (all (drop left xs) ≤ 64 → most ≡ all (drop left xs)) → (part x ≤ 64 → here ≡ part x) → sum ≡ min (most + 1) 4294967295 → now ≡ more here sum
    → all (drop (left - 1) xs) ≤ 64 → now ≡ all (drop (left - 1) xs)
step_back all part xs left x most here sum now some within at unfolds f g s e h =
    let i = left - 1 in
    let j : i + 1 ≡ left = omega arith in
    let front : all (drop i xs) ≡ more (part x) (suc (all (drop left xs))) =
    at_drop_more all xs i x (omega arith) ∙ ap (λ y. all (y ∷ drop (i + 1) xs)) (sym at) ∙ unfolds x (drop (i + 1) xs) ∙ ap (λ n. more (part x) (suc (all (drop n xs)))) j in
    e ∙ both (part x) (suc (all (drop left xs))) here sum g (next (all (drop left xs)) most sum f s) (subst (λ n. n ≤ 64) front h) ∙ sym front

-- the words of all are known
pub at_front : {A : Type 0} (all : List A → ℕ) (xs : List A) (left most : ℕ) → left ≤ 0 → (all (drop left xs) ≤ 64 → most ≡ all (drop left xs)) → all xs ≤ 64 → most ≡ all xs
at_front all xs left most none f =
    let z : left ≡ 0 = omega arith in subst (λ n. all (drop n xs) ≤ 64 → most ≡ all (drop n xs)) z f
