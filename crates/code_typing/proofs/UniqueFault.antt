-- A file has at most one first fault of each kind, so the verdict reports that one.
use Rattle.std.proofs.Common.{◌≡◌, ◌⊎◌, inl, inr, refl, sym, ap, subst, ◌∙◌, ℕ, zero, suc, ◌<◌, length, Some, None, arith}
use Rattle.std.specs.Prelude.{◌==◌}
use Rattle.std.proofs.lemmas.Option.{slice_get_within}
use Rattle.run_types.proofs.Laws.{same_some}
use Rattle.code_semantics.specs.declared.file.UnitFile.{UnitFile}
use Rattle.code_typing.specs.Sorts.{Declared, declared_at, scope_by}
use Rattle.code_typing.specs.Verified.{IsWellSorted, HasWellSorted}
use Rattle.code_typing.specs.Faults.{IsBadHeading, MethodsBelow, IsBadMethod, IsBadCode}
use Rattle.code_typing.specs.Verdict.{Verdict, Good, Header, Code, or_else, fault_if, bad_heading, bad_codes, good_unless, verdict}
use Rattle.code_typing.proofs.FirstCodes.{code_is_first}
use Rattle.code_typing.proofs.FirstFaults.{header_is_first}
use Rattle.code_typing.proofs.WholeVerdict.{class_below, good_is_verified}

-- one of two numbers is less, or they are equal
data Compared (m n : ℕ) : Type 0 where
  less : m < n → Compared m n
  same : m ≡ n → Compared m n
  more : n < m → Compared m n

compared : (m n : ℕ) → Compared m n
compared zero zero = same refl
compared zero (suc n) = less (omega arith)
compared (suc m) zero = more (omega arith)
compared (suc m) (suc n) = by (compared m n)
  where
    by : Compared m n → Compared (suc m) (suc n)
    by (less h) = less (omega (arith, h))
    by (same h) = same (ap suc h)
    by (more h) = more (omega (arith, h))

-- without any class the verdict is on class 0
pub no_class : (f : UnitFile) → length f.unit.classes ≡ 0 → verdict f ≡ Header 0
no_class f e =
    ap (λ n. good_unless (or_else (fault_if (n == 0) (Header 0)) (λ u. or_else (bad_heading f (length f.unit.classes) 0) (λ v. bad_codes f (length f.unit.classes) 0)))) e

module _ (f : UnitFile) where
  same_class : (j : ℕ) (a b : Declared) → declared_at f j ≡ Some a → declared_at f j ≡ Some b → a ≡ b
  same_class j a b p q = same_some (sym p ∙ q)

  -- of two bad headings that are each the first
  one_heading : (i j : ℕ) → IsBadHeading f i → IsBadHeading f j → i ≡ j
  one_heading i j a b = by (compared i j)
    where
      by : Compared i j → i ≡ j
      by (same e) = e
      by (less h) = absurd (a.bad (b.before i a.class h a.is_class))
      by (more h) = absurd (b.bad (a.before j b.class h b.is_class))

  -- the first heading that breaks a rule is the verdict
  pub first_is_header : (j : ℕ) → IsBadHeading f j → verdict f ≡ Header j
  first_is_header j a = by (verdict f) refl
    where
      there : j < length f.unit.classes
      there = class_below f j a.class a.is_class

      by : (v : Verdict) → verdict f ≡ v → verdict f ≡ Header j
      by Good e = absurd (a.bad ((good_is_verified f e).headings j a.class a.is_class))
      by (Header i) e = which (header_is_first f i e)
        where
          which : ((length f.unit.classes ≡ 0) × (i ≡ 0)) ⊎ IsBadHeading f i → verdict f ≡ Header j
          which (inl none) = absurd (let z = none.0 in omega (arith, there, z))
          which (inr b) = e ∙ ap Header (one_heading i j b a)
      by (Code i k) e = absurd (a.bad ((code_is_first f i k e).headings j a.class there a.is_class))

  -- of two codes of one class that are each the first of it
  module _ (k : Declared) where
    abbrev IsBadAt : ℕ → Type 0
    IsBadAt i = IsBadMethod f k i ⊎ ((i ≡ length k.code.methods) × ¬ (IsWellSorted (scope_by f k None) k.code.body.frame_words k.code.body.code))

    -- a code behind one that is at fault is not the first
    not_behind : (i n : ℕ) → i < n → IsBadAt i → MethodsBelow f k n → IsBadAt n → ⊥
    not_behind i n h (inl b) below last = b.bad (below i b.method b.kinds h b.is_method b.has_kinds)
    not_behind i n h (inr b) below (inl m) = let e = b.0 in let w = slice_get_within k.code.methods n m.method m.is_method in omega (arith, h, e, w)
    not_behind i n h (inr b) below (inr m) = let e = b.0 in let w = m.0 in omega (arith, h, e, w)

    one_method : (i n : ℕ) → IsBadAt i → MethodsBelow f k i → IsBadAt n → MethodsBelow f k n → i ≡ n
    one_method i n a below_a b below_b = by (compared i n)
      where
        by : Compared i n → i ≡ n
        by (same e) = e
        by (less h) = absurd (not_behind i n h a below_b b)
        by (more h) = absurd (not_behind n i h b below_a a)

    -- a class with a code at fault has not all well sorted
    not_sorted : (i : ℕ) → IsBadAt i → HasWellSorted f k → ⊥
    not_sorted i (inl b) s = b.bad (s.methods i b.method b.kinds b.is_method b.has_kinds)
    not_sorted i (inr b) s = b.1 s.body

  -- the first code that is not well sorted is the verdict
  pub first_is_code : (j i : ℕ) → IsBadCode f j i → verdict f ≡ Code j i
  first_is_code j i a = by (verdict f) refl
    where
      there : j < length f.unit.classes
      there = class_below f j a.class a.is_class

      by : (v : Verdict) → verdict f ≡ v → verdict f ≡ Code j i
      by Good e = absurd (not_sorted a.class i a.bad ((good_is_verified f e).codes j a.class a.is_class))
      by (Header n) e = which (header_is_first f n e)
        where
          which : ((length f.unit.classes ≡ 0) × (n ≡ 0)) ⊎ IsBadHeading f n → verdict f ≡ Code j i
          which (inl none) = absurd (let z = none.0 in omega (arith, there, z))
          which (inr b) = absurd (b.bad (a.headings n b.class (class_below f n b.class b.is_class) b.is_class))
      by (Code n m) e = e ∙ of_class (compared n j)
        where
          b : IsBadCode f n m
          b = code_is_first f n m e

          of_method : (c : Declared) → b.class ≡ c → n ≡ j → c ≡ a.class → Code n m ≡ Code j i
          of_method c p q r =
              let same_bad = subst (λ d. IsBadAt d m × MethodsBelow f d m) (p ∙ r) (b.bad, b.methods) in
              ap (λ x. Code x m) q ∙ ap (Code j) (one_method a.class m i same_bad.0 same_bad.1 a.bad a.methods)

          of_class : Compared n j → Code n m ≡ Code j i
          of_class (less h) = absurd (not_sorted b.class m b.bad (a.before n b.class h b.is_class))
          of_class (more h) = absurd (not_sorted a.class i a.bad (b.before j a.class h a.is_class))
          of_class (same h) =
              of_method b.class refl h (same_class j b.class a.class (subst (λ x. declared_at f x ≡ Some b.class) h b.is_class) a.is_class)
