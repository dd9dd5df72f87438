-- Names, and the last instruction of a code.
use Rattle.std.proofs.Common.{◌≡◌, refl, sym, ap, ◌∙◌, ℕ, suc, ◌-◌, ◌<◌, ◌≤◌, List, [], ◌∷◌, length, Some, None, Bool, true, false, not, ◌&&◌, ◌||◌, arith}
use Rattle.std.specs.Prelude.{bytes_eq, is_none, nat_le, slice_get}
use Rattle.run_types.proofs.Laws.{same_some}
use Rattle.text_scan.specs.Keywords.{is_name_text, keywords}
use Rattle.text_scan.specs.Text.{Text, is_listed, is_word, lookup}
use Rattle.code_semantics.specs.declared.unit.Instr.{Instr}
use Rattle.code_typing.specs.Verdict.{is_last}

listed_is : {A : Type 0} (rows : List (Text × A)) (w : Text) → not (is_listed rows w) ≡ is_none (lookup rows w)
listed_is [] w = refl
listed_is ((x, meaning) ∷ rows) w =
    elim (bytes_eq x w) as (λ k. not (k || is_listed rows w) ≡ is_none (elim k [ true ↦ Some meaning | false ↦ lookup rows w ])) [ true ↦ refl | false ↦ listed_is rows w ]

module _ (w : Text) where
  and_false : (b : Bool) → (b && false) ≡ false
  and_false true = refl
  and_false false = refl

  pub long_name : 64 < length w → false ≡ is_name_text w
  long_name h =
      sym (ap (λ b. (is_word w && not (is_listed keywords w)) && b) (is_more (length w) h) ∙ and_false (is_word w && not (is_listed keywords w)))
    where
      is_more : (n : ℕ) → 64 < n → nat_le n 64 ≡ false
      is_more n h = grind (arith, h)

  pub no_word : is_word w ≡ false → false ≡ is_name_text w
  no_word h = sym (ap (λ b. b && not (is_listed keywords w) && nat_le (length w) 64) h)

  pub word_name : (r : Bool) → length w ≤ 64 → is_word w ≡ true → r ≡ is_none (lookup keywords w) → r ≡ is_name_text w
  word_name r h k e =
      sym (ap (λ b. b && not (is_listed keywords w) && nat_le (length w) 64) k ∙ ap (λ b. not (is_listed keywords w) && b) (is_few (length w) h) ∙ and_true (not (is_listed keywords w))
      ∙ listed_is keywords w ∙ sym e)
    where
      is_few : (n : ℕ) → n ≤ 64 → nat_le n 64 ≡ true
      is_few n h = grind (arith, h)

      and_true : (b : Bool) → (b && true) ≡ b
      and_true true = refl
      and_true false = refl

-- the last instruction
pub last_is : (p : Instr → Bool) (c : List Instr) (i : Instr) → Some i ≡ slice_get c (length c - 1) → p i ≡ is_last p c
last_is p [] i e = absurd (let z : Some i ≡ None = e in cc)
last_is p (x ∷ []) i e = ap p (same_some (e ∙ ap (slice_get (x ∷ [])) (let z : length (x ∷ []) - 1 ≡ 0 = omega arith in z)))
last_is p (x ∷ y ∷ c) i e =
    last_is p (y ∷ c) i (e ∙ ap (slice_get (x ∷ y ∷ c)) (let z : length (x ∷ y ∷ c) - 1 ≡ suc (length (y ∷ c) - 1) = omega arith in z))
