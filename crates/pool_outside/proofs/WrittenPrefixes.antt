-- Texts that are written one after another, and the prefixes that a failed write leaves.
use Rattle.std.proofs.Common.{◌≡◌, ℕ, suc, ◌+◌, ◌<◌, List, [], ◌∷◌, ◌++◌, length, take, Option, None, Some, option_map, refl, ap, ◌∙◌, append_assoc, length-append, subst, arith, ◌≤◌, inl, inr}
use Rattle.std.proofs.lemmas.Grind.{common_steps}
use Rattle.pool_outside.specs.Outside.{IsProperFront, Rose}

-- so many bytes of the text, and not all
pub cut_at : (start now : Option (List ℕ)) (text : List ℕ) (n : ℕ) → n < length text → now ≡ option_map (λ w. w ++ take n text) start → IsProperFront start text now
cut_at None now text n h e = e
cut_at (Some w) now text n h e = (n, h, e)

in_first : (n : ℕ) (s t : List ℕ) → n < length s → take n s ≡ take n (s ++ t)
in_first n s t h = grind (arith, common_steps)

in_second : (n : ℕ) (s t : List ℕ) → s ++ take n t ≡ take (length s + n) (s ++ t)
in_second n [] t = let e : 0 + n ≡ n = omega arith in rw e refl
in_second n (x ∷ s) t = let e : suc (length s) + n ≡ suc (length s + n) = omega arith in rw e (ap (λ u. x ∷ u) (in_second n s t))

-- what cuts a text cuts it with what would follow
pub cut_first : (start now : Option (List ℕ)) (s t : List ℕ) → IsProperFront start s now → IsProperFront start (s ++ t) now
cut_first None now s t f = f
cut_first (Some w) now s t f = (f.0, omega (arith, f.1, length-append s t), f.2 ∙ ap (λ u. Some (w ++ u)) (in_first f.0 s t f.1))

-- what cuts a text behind a whole one cuts both
pub cut_second : (start between now : Option (List ℕ)) (s t : List ℕ) → between ≡ option_map (λ w. w ++ s) start → IsProperFront between t now → IsProperFront start (s ++ t) now
cut_second None between now s t e f = subst (λ b. IsProperFront b t now) e f
cut_second (Some w) between now s t e f =
    let g : IsProperFront (Some (w ++ s)) t now = subst (λ b. IsProperFront b t now) e f in
    (length s + g.0, omega (arith, g.1, length-append s t), g.2 ∙ ap Some (append_assoc w s (take g.0 t) ∙ ap (λ u. w ++ u) (in_second g.0 s t)))

-- what was written after one text and then another
pub joined : (s t : List ℕ) (a b c : Option (List ℕ)) → b ≡ option_map (λ w. w ++ s) a → c ≡ option_map (λ w. w ++ t) b → c ≡ option_map (λ w. w ++ (s ++ t)) a
joined s t None b c e f = f ∙ ap (option_map (λ w. w ++ t)) e
joined s t (Some w) b c e f = f ∙ ap (option_map (λ w. w ++ t)) e ∙ ap Some (append_assoc w s t)

pub rose_later : (a b c : ℕ) → a ≤ b → Rose b c → Rose a c
rose_later a b c h (inl r) = inl (omega arith)
rose_later a b c h (inr r) = inr r

pub rose_before : (a b c : ℕ) → Rose a b → b ≡ c → Rose a c
rose_before a b c (inl r) e = inl (omega arith)
rose_before a b c (inr r) e = inr (omega arith)

pub append_nothing : (a : Option (List ℕ)) → a ≡ option_map (λ w. w ++ []) a
append_nothing None = refl
append_nothing (Some w) = ap Some (grind (arith, common_steps))
