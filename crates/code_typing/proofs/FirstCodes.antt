-- The code that the verdict reports is the first that is not well sorted.
use Rattle.std.proofs.Common.{◌≡◌, ◌⊎◌, inl, inr, refl, sym, ap, subst, ◌∙◌, ℕ, zero, suc, ◌+◌, ◌==◌, ◌<◌, List, [], ◌∷◌, length, Option, Some, None, Bool, true, false, not, arith}
use Rattle.std.specs.Prelude.{slice_get}
use Rattle.run_types.proofs.Laws.{same_some}
use Rattle.code_semantics.specs.declared.unit.MethodCode.{MethodCode}
use Rattle.code_semantics.specs.declared.file.UnitFile.{UnitFile}
use Rattle.code_semantics.specs.declared.file.MethodKinds.{MethodKinds}
use Rattle.code_typing.specs.Sorts.{Declared, declared_at, scope_by}
use Rattle.code_typing.specs.Verified.{IsWellSorted}
use Rattle.code_typing.specs.Faults.{MethodsBelow, IsBadMethod, IsBadCode}
use Rattle.code_typing.specs.Verdict.{Verdict, Good, Header, Code, heading_right, is_well_sorted, or_else, fault_if, bad_heading, bad_method, bad_code, bad_codes, good_unless, verdict}
use Rattle.code_typing.proofs.CodeTestSound.{test_is_right, right_passes}
use Rattle.code_typing.proofs.WholeVerdict.{heading_is, code_is, methods_sorted}
use Rattle.code_typing.proofs.FirstFaults.{else_some, fault_some, fault_none, lies, bad_heading_is, no_bad_heading}

module _ (f : UnitFile) where
  -- the test of the code of a method
  abbrev Passes : Declared → MethodCode → MethodKinds → Bool
  Passes k m s = is_well_sorted (scope_by f k (Some s)) m.frame_words m.code

  -- the test of the code of a body
  abbrev BodyPasses : Declared → Bool
  BodyPasses k = is_well_sorted (scope_by f k None) k.code.body.frame_words k.code.body.code

  record IsFirstMethod (k : Declared) (j n : ℕ) (ms : List MethodCode) (ss : List MethodKinds) (v : Verdict) : Type 0 where
    place : ℕ
    method : MethodCode
    kinds : MethodKinds
    says : v ≡ Code j (n + place)
    is_method : slice_get ms place ≡ Some method
    has_kinds : slice_get ss place ≡ Some kinds
    bad : Passes k method kinds ≡ false
    before : (l : ℕ) (m : MethodCode) (s : MethodKinds) → l < place → slice_get ms l ≡ Some m → slice_get ss l ≡ Some s → Passes k m s ≡ true

  bad_method_is : (k : Declared) (j n : ℕ) (ms : List MethodCode) (ss : List MethodKinds) (v : Verdict) → bad_method f k j n ms ss ≡ Some v → IsFirstMethod k j n ms ss v
  bad_method_is k j n [] ss v h = absurd (let z : None ≡ Some v = h in cc)
  bad_method_is k j n (x ∷ ms) [] v h = absurd (let z : None ≡ Some v = h in cc)
  bad_method_is k j n (x ∷ ms) (y ∷ ss) v h =
      by (else_some (fault_if (not (Passes k x y)) (Code j n)) (λ u. bad_method f k j (suc n) ms ss) v h) (bad_method_is k j (suc n) ms ss v)
    where
      by : (fault_if (not (Passes k x y)) (Code j n) ≡ Some v) ⊎ ((fault_if (not (Passes k x y)) (Code j n) ≡ None) × (bad_method f k j (suc n) ms ss ≡ Some v))
          → (bad_method f k j (suc n) ms ss ≡ Some v → IsFirstMethod k j (suc n) ms ss v) → IsFirstMethod k j n (x ∷ ms) (y ∷ ss) v
      by (inl e) more =
          let s = fault_some (Passes k x y) (Code j n) v e in
          record {
            place = 0;
            method = x;
            kinds = y;
            says = sym s.1 ∙ ap (Code j) (let z : n ≡ n + 0 = omega arith in z);
            is_method = refl;
            has_kinds = refl;
            bad = s.0;
            before = λ l m s lt e g. absurd (omega (arith, lt));
          }
      by (inr e) more =
          let r = more e.1 in
          record {
            place = suc r.place;
            method = r.method;
            kinds = r.kinds;
            says = r.says ∙ ap (Code j) (let z : suc n + r.place ≡ n + suc r.place = omega arith in z);
            is_method = r.is_method;
            has_kinds = r.has_kinds;
            bad = r.bad;
            before = earlier r.place r.before (fault_none (Passes k x y) (Code j n) e.0);
          }
        where
          earlier : (i : ℕ) → ((l : ℕ) (m : MethodCode) (s : MethodKinds) → l < i → slice_get ms l ≡ Some m → slice_get ss l ≡ Some s → Passes k m s ≡ true) → Passes k x y ≡ true
              → (l : ℕ) (m : MethodCode) (s : MethodKinds) → l < suc i → slice_get (x ∷ ms) l ≡ Some m → slice_get (y ∷ ss) l ≡ Some s → Passes k m s ≡ true
          earlier i r p zero m s lt e g =
              subst (λ (q : MethodKinds). Passes k m q ≡ true) (same_some g) (subst (λ (q : MethodCode). Passes k q y ≡ true) (same_some e) p)
          earlier i r p (suc l) m s lt e g = r l m s (omega (arith, lt)) e g

  -- the first code of a class
  abbrev IsFirstCode : Declared → ℕ → Verdict → Type 0
  IsFirstCode k j v =
      (i : ℕ) × (v ≡ Code j i) × MethodsBelow f k i
      × (IsBadMethod f k i ⊎ ((i ≡ length k.code.methods) × ¬ (IsWellSorted (scope_by f k None) k.code.body.frame_words k.code.body.code)))

  bad_code_is : (k : Declared) (j : ℕ) (v : Verdict) → bad_code f j (Some k) ≡ Some v → IsFirstCode k j v
  bad_code_is k j v h =
      by (else_some (bad_method f k j 0 k.code.methods k.kinds.methods) (λ u. fault_if (not (BodyPasses k)) (Code j (length k.code.methods))) v h)
    where
      by : (bad_method f k j 0 k.code.methods k.kinds.methods ≡ Some v)
          ⊎ ((bad_method f k j 0 k.code.methods k.kinds.methods ≡ None) × (fault_if (not (BodyPasses k)) (Code j (length k.code.methods)) ≡ Some v)) → IsFirstCode k j v
      by (inl e) =
          let r = bad_method_is k j 0 k.code.methods k.kinds.methods v e in (
            r.place,
            r.says ∙ ap (Code j) (let z : 0 + r.place ≡ r.place = omega arith in z),
            λ n m s lt e g. test_is_right (scope_by f k (Some s)) m.code m.frame_words (r.before n m s lt e g),
            inl (record {
              method = r.method;
              kinds = r.kinds;
              is_method = r.is_method;
              has_kinds = r.has_kinds;
              bad = lies (IsWellSorted (scope_by f k (Some r.kinds)) r.method.frame_words r.method.code) (Passes k r.method r.kinds)
                  (right_passes (scope_by f k (Some r.kinds)) r.method.code r.method.frame_words) r.bad;
            }),
          )
      by (inr e) =
          let s = fault_some (BodyPasses k) (Code j (length k.code.methods)) v e.1 in (
            length k.code.methods,
            sym s.1,
            λ n m s lt q g. methods_sorted f k j 0 k.code.methods k.kinds.methods e.0 n m s q g,
            inr (
              refl,
              lies (IsWellSorted (scope_by f k None) k.code.body.frame_words k.code.body.code) (BodyPasses k)
                  (right_passes (scope_by f k None) k.code.body.code k.code.body.frame_words) s.0,
            ),
          )

  -- the first class of n from j on
  abbrev IsFirstClass : ℕ → Verdict → Type 0
  IsFirstClass j v =
      (i : ℕ) × (bad_code f (j + i) (declared_at f (j + i)) ≡ Some v) × ((l : ℕ) → l < i → bad_code f (j + l) (declared_at f (j + l)) ≡ None)

  bad_codes_is : (n j : ℕ) (v : Verdict) → bad_codes f n j ≡ Some v → IsFirstClass j v
  bad_codes_is zero j v h = absurd (let z : None ≡ Some v = h in cc)
  bad_codes_is (suc n) j v h = by (else_some (bad_code f j (declared_at f j)) (λ u. bad_codes f n (suc j)) v h) (bad_codes_is n (suc j) v)
    where
      by : (bad_code f j (declared_at f j) ≡ Some v) ⊎ ((bad_code f j (declared_at f j) ≡ None) × (bad_codes f n (suc j) ≡ Some v))
          → (bad_codes f n (suc j) ≡ Some v → IsFirstClass (suc j) v) → IsFirstClass j v
      by (inl e) more = (0, subst (λ n. bad_code f n (declared_at f n) ≡ Some v) (let z : j ≡ j + 0 = omega arith in z) e, λ l lt. absurd (omega (arith, lt)))
      by (inr e) more =
          let r = more e.1 in
          (suc r.0, subst (λ n. bad_code f n (declared_at f n) ≡ Some v) (let z : suc j + r.0 ≡ j + suc r.0 = omega arith in z) r.1, earlier r.0 r.2 e.0)
        where
          earlier : (i : ℕ) → ((l : ℕ) → l < i → bad_code f (suc j + l) (declared_at f (suc j + l)) ≡ None) → bad_code f j (declared_at f j) ≡ None
              → (l : ℕ) → l < suc i → bad_code f (j + l) (declared_at f (j + l)) ≡ None
          earlier i r e zero lt = subst (λ n. bad_code f n (declared_at f n) ≡ None) (let z : j ≡ j + 0 = omega arith in z) e
          earlier i r e (suc l) lt = subst (λ n. bad_code f n (declared_at f n) ≡ None) (let z : suc j + l ≡ j + suc l = omega arith in z) (r l (omega (arith, lt)))

  -- a code at fault is of a class that is there
  at_class : (j : ℕ) (v : Verdict) → bad_code f j (declared_at f j) ≡ Some v → (k : Declared) × (declared_at f j ≡ Some k) × (bad_code f j (Some k) ≡ Some v)
  at_class j v h = by (declared_at f j) refl h
    where
      by : (o : Option Declared) → declared_at f j ≡ o → bad_code f j o ≡ Some v → (k : Declared) × (declared_at f j ≡ Some k) × (bad_code f j (Some k) ≡ Some v)
      by None e h = absurd (let z : None ≡ Some v = h in cc)
      by (Some k) e h = (k, e, h)

  abbrev class_of : Verdict → ℕ
  class_of (Code j i) = j
  class_of _ = 0

  abbrev method_of : Verdict → ℕ
  method_of (Code j i) = i
  method_of _ = 0

  -- the verdict on a code
  pub code_is_first : (j i : ℕ) → verdict f ≡ Code j i → IsBadCode f j i
  code_is_first j i h =
      by (or_else (fault_if (length f.unit.classes == 0) (Header 0)) (λ u. or_else (bad_heading f (length f.unit.classes) 0) (λ v. bad_codes f (length f.unit.classes) 0))) refl h
    where
      right : bad_heading f (length f.unit.classes) 0 ≡ None → (l : ℕ) → l < length f.unit.classes → heading_right f l (declared_at f l) ≡ true
      right h l lt =
          subst (λ n. heading_right f n (declared_at f n) ≡ true) (let z : 0 + l ≡ l = omega arith in z) (no_bad_heading f (length f.unit.classes) 0 h l lt)

      found : (v : Verdict) → v ≡ Code j i → bad_heading f (length f.unit.classes) 0 ≡ None → bad_codes f (length f.unit.classes) 0 ≡ Some v → IsBadCode f j i
      found v e q h =
          let r = bad_codes_is (length f.unit.classes) 0 v h in
          let k = at_class (0 + r.0) v r.1 in
          let c = bad_code_is k.0 (0 + r.0) v k.2 in
          let at_j : 0 + r.0 ≡ j = ap class_of (sym c.1 ∙ e) in
          let at_i : c.0 ≡ i = ap method_of (sym c.1 ∙ e) in
          record {
            headings = λ l d lt p. heading_is f l d (subst (λ (o : Option Declared). heading_right f l o ≡ true) p (right q l lt));
            before = λ l d lt p. code_is f d l (subst (λ (o : Option Declared). bad_code f l o ≡ None) p
                (subst (λ n. bad_code f n (declared_at f n) ≡ None) (let z : 0 + l ≡ l = omega arith in z) (r.2 l (let s = at_j in omega (arith, lt, s)))));
            class = k.0;
            is_class = subst (λ n. declared_at f n ≡ Some k.0) at_j k.1;
            methods = subst (MethodsBelow f k.0) at_i c.2;
            bad = subst (λ n. IsBadMethod f k.0 n ⊎ ((n ≡ length k.0.code.methods) × ¬ (IsWellSorted (scope_by f k.0 None) k.0.code.body.frame_words k.0.code.body.code))) at_i c.3;
          }

      none : (v : Verdict) (b : Bool) → v ≡ Code j i → fault_if b (Header 0) ≡ Some v → ⊥
      none v true e k = let z : Header 0 ≡ Code j i = same_some k ∙ e in cc
      none v false e k = let z : None ≡ Some v = k in cc

      heading : (v : Verdict) → v ≡ Code j i → bad_heading f (length f.unit.classes) 0 ≡ Some v → ⊥
      heading v e k = let r = bad_heading_is f (length f.unit.classes) 0 v k in let z : Header (0 + r.0) ≡ Code j i = sym r.1 ∙ e in cc

      by : (o : Option Verdict) → or_else (fault_if (length f.unit.classes == 0) (Header 0)) (λ u. or_else (bad_heading f (length f.unit.classes) 0) (λ v. bad_codes f (length f.unit.classes) 0)) ≡ o
          → good_unless o ≡ Code j i → IsBadCode f j i
      by None e h = absurd (let z : Good ≡ Code j i = h in cc)
      by (Some v) e h =
          which (else_some (fault_if (length f.unit.classes == 0) (Header 0)) (λ u. or_else (bad_heading f (length f.unit.classes) 0) (λ v. bad_codes f (length f.unit.classes) 0)) v e)
        where
          second : (bad_heading f (length f.unit.classes) 0 ≡ Some v) ⊎ ((bad_heading f (length f.unit.classes) 0 ≡ None) × (bad_codes f (length f.unit.classes) 0 ≡ Some v)) → IsBadCode f j i
          second (inl m) = absurd (heading v h m)
          second (inr m) = found v h m.0 m.1

          which : (fault_if (length f.unit.classes == 0) (Header 0) ≡ Some v)
              ⊎ ((fault_if (length f.unit.classes == 0) (Header 0) ≡ None) × (or_else (bad_heading f (length f.unit.classes) 0) (λ v. bad_codes f (length f.unit.classes) 0) ≡ Some v)) → IsBadCode f j i
          which (inl k) = absurd (none v (length f.unit.classes == 0) h k)
          which (inr k) = second (else_some (bad_heading f (length f.unit.classes) 0) (λ v. bad_codes f (length f.unit.classes) 0) v k.1)
