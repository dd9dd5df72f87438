-- The place that the verdict reports is the first with a fault.
use Rattle.std.proofs.Common.{◌≡◌, ◌⊎◌, inl, inr, refl, sym, ap, subst, ◌∙◌, ℕ, zero, suc, ◌+◌, ◌==◌, ◌<◌, List, [], ◌∷◌, length, Option, Some, None, Bool, true, false, not, arith}
use Rattle.run_types.proofs.Laws.{equal, same_some}
use Rattle.code_semantics.specs.declared.unit.MethodCode.{MethodCode}
use Rattle.code_semantics.specs.declared.file.UnitFile.{UnitFile}
use Rattle.code_semantics.specs.declared.file.MethodKinds.{MethodKinds}
use Rattle.code_typing.specs.Sorts.{Declared, declared_at, scope_by}
use Rattle.code_typing.specs.Verified.{IsHeading}
use Rattle.code_typing.specs.Faults.{IsBadHeading}
use Rattle.code_typing.specs.Verdict.{Verdict, Good, Header, Code, heading_right, is_well_sorted, or_else, fault_if, bad_heading, bad_method, bad_code, bad_codes, good_unless, verdict}
use Rattle.code_typing.proofs.WholeVerdict.{heading_is, is_heading}

-- a fault comes from one of two
pub else_some : (a : Option Verdict) (next : Unit {0} → Option Verdict) (v : Verdict) → or_else a next ≡ Some v → (a ≡ Some v) ⊎ ((a ≡ None) × (next tt ≡ Some v))
else_some None next v h = inr (refl, h)
else_some (Some w) next v h = inl h

pub fault_some : (b : Bool) (w v : Verdict) → fault_if (not b) w ≡ Some v → (b ≡ false) × (w ≡ v)
fault_some true w v h = absurd (let z : None ≡ Some v = h in cc)
fault_some false w v h = (refl, same_some h)

pub fault_none : (b : Bool) (w : Verdict) → fault_if (not b) w ≡ None → b ≡ true
fault_none true w h = refl
fault_none false w h = absurd (let z : Some w ≡ None = h in cc)

pub lies : (P : Type 0) (b : Bool) → (P → b ≡ true) → b ≡ false → ¬ P
lies P b f e p = let z : true ≡ false = sym (f p) ∙ e in cc

module _ (f : UnitFile) where
  -- the first heading of n from j on
  pub bad_heading_is : (n j : ℕ) (v : Verdict) → bad_heading f n j ≡ Some v
      → (i : ℕ) × (v ≡ Header (j + i)) × (heading_right f (j + i) (declared_at f (j + i)) ≡ false) × ((l : ℕ) → l < i → heading_right f (j + l) (declared_at f (j + l)) ≡ true)
  bad_heading_is zero j v h = absurd (let z : None ≡ Some v = h in cc)
  bad_heading_is (suc n) j v h =
      by (else_some (fault_if (not (heading_right f j (declared_at f j))) (Header j)) (λ u. bad_heading f n (suc j)) v h) (bad_heading_is n (suc j) v)
    where
      here : (P : ℕ → Type 0) → P j → P (j + 0)
      here P p = subst P (let z : j ≡ j + 0 = omega arith in z) p

      by : (fault_if (not (heading_right f j (declared_at f j))) (Header j) ≡ Some v) ⊎ ((fault_if (not (heading_right f j (declared_at f j))) (Header j) ≡ None) × (bad_heading f n (suc j) ≡ Some v))
          → (bad_heading f n (suc j) ≡ Some v → (i : ℕ) × (v ≡ Header (suc j + i)) × (heading_right f (suc j + i) (declared_at f (suc j + i)) ≡ false)
          × ((l : ℕ) → l < i → heading_right f (suc j + l) (declared_at f (suc j + l)) ≡ true))
          → (i : ℕ) × (v ≡ Header (j + i)) × (heading_right f (j + i) (declared_at f (j + i)) ≡ false) × ((l : ℕ) → l < i → heading_right f (j + l) (declared_at f (j + l)) ≡ true)
      by (inl e) more =
          let s = fault_some (heading_right f j (declared_at f j)) (Header j) v e in
          (0, here (λ n. v ≡ Header n) (sym s.1), here (λ n. heading_right f n (declared_at f n) ≡ false) s.0, λ l lt. absurd (omega (arith, lt)))
      by (inr e) more =
          let r = more e.1 in
          let z : suc j + r.0 ≡ j + suc r.0 = omega arith in
          (suc r.0, r.1 ∙ ap Header z, subst (λ n. heading_right f n (declared_at f n) ≡ false) z r.2, λ l lt. earlier r.0 r.3 (fault_none (heading_right f j (declared_at f j)) (Header j) e.0) l lt)
        where
          earlier : (i : ℕ) → ((l : ℕ) → l < i → heading_right f (suc j + l) (declared_at f (suc j + l)) ≡ true) → heading_right f j (declared_at f j) ≡ true → (l : ℕ) → l < suc i
              → heading_right f (j + l) (declared_at f (j + l)) ≡ true
          earlier i r e zero lt = here (λ n. heading_right f n (declared_at f n) ≡ true) e
          earlier i r e (suc l) lt = subst (λ n. heading_right f n (declared_at f n) ≡ true) (let z : suc j + l ≡ j + suc l = omega arith in z) (r l (omega (arith, lt)))

  pub no_bad_heading : (n j : ℕ) → bad_heading f n j ≡ None → (l : ℕ) → l < n → heading_right f (j + l) (declared_at f (j + l)) ≡ true
  no_bad_heading zero j h l lt = absurd (omega (arith, lt))
  no_bad_heading (suc n) j h l lt = by (fault_if (not (heading_right f j (declared_at f j))) (Header j)) refl h (no_bad_heading n (suc j)) l lt
    where
      by : (a : Option Verdict) → fault_if (not (heading_right f j (declared_at f j))) (Header j) ≡ a → or_else a (λ u. bad_heading f n (suc j)) ≡ None
          → (bad_heading f n (suc j) ≡ None → (l : ℕ) → l < n → heading_right f (suc j + l) (declared_at f (suc j + l)) ≡ true) → (l : ℕ) → l < suc n → heading_right f (j + l) (declared_at f (j + l)) ≡ true
      by (Some v) e h more l lt = absurd (let z : Some v ≡ None = h in cc)
      by None e h more zero lt =
          subst (λ n. heading_right f n (declared_at f n) ≡ true) (let z : j ≡ j + 0 = omega arith in z) (fault_none (heading_right f j (declared_at f j)) (Header j) e)
      by None e h more (suc l) lt = subst (λ n. heading_right f n (declared_at f n) ≡ true) (let z : suc j + l ≡ j + suc l = omega arith in z) (more h l (omega (arith, lt)))

  -- a test that fails speaks of a class that is there
  there : (j : ℕ) → heading_right f j (declared_at f j) ≡ false → (k : Declared) × (declared_at f j ≡ Some k) × (heading_right f j (Some k) ≡ false)
  there j h = by (declared_at f j) refl h
    where
      by : (o : Option Declared) → declared_at f j ≡ o → heading_right f j o ≡ false → (k : Declared) × (declared_at f j ≡ Some k) × (heading_right f j (Some k) ≡ false)
      by None e h = absurd (let z : true ≡ false = h in cc)
      by (Some k) e h = (k, e, h)

  abbrev header_place : Verdict → ℕ
  header_place (Header j) = j
  header_place _ = 0

  -- the faults of codes
  methods_are_codes : (k : Declared) (j n : ℕ) (ms : List MethodCode) (ss : List MethodKinds) (v : Verdict) → bad_method f k j n ms ss ≡ Some v → (l : ℕ) → v ≡ Header l → ⊥
  methods_are_codes k j n [] ss v h l e = let z : None ≡ Some v = h in cc
  methods_are_codes k j n (x ∷ ms) [] v h l e = let z : None ≡ Some v = h in cc
  methods_are_codes k j n (x ∷ ms) (y ∷ ss) v h l e =
      by (else_some (fault_if (not (is_well_sorted (scope_by f k (Some y)) x.frame_words x.code)) (Code j n)) (λ u. bad_method f k j (suc n) ms ss) v h)
      (λ q. methods_are_codes k j (suc n) ms ss v q l e)
    where
      by : (fault_if (not (is_well_sorted (scope_by f k (Some y)) x.frame_words x.code)) (Code j n) ≡ Some v)
          ⊎ ((fault_if (not (is_well_sorted (scope_by f k (Some y)) x.frame_words x.code)) (Code j n) ≡ None) × (bad_method f k j (suc n) ms ss ≡ Some v))
          → (bad_method f k j (suc n) ms ss ≡ Some v → ⊥) → ⊥
      by (inl q) more = let s = fault_some (is_well_sorted (scope_by f k (Some y)) x.frame_words x.code) (Code j n) v q in let z : Code j n ≡ Header l = s.1 ∙ e in cc
      by (inr q) more = more q.1

  code_is_code : (j : ℕ) (o : Option Declared) (v : Verdict) → bad_code f j o ≡ Some v → (l : ℕ) → v ≡ Header l → ⊥
  code_is_code j None v h l e = let z : None ≡ Some v = h in cc
  code_is_code j (Some k) v h l e =
      by (else_some (bad_method f k j 0 k.code.methods k.kinds.methods)
      (λ u. fault_if (not (is_well_sorted (scope_by f k None) k.code.body.frame_words k.code.body.code)) (Code j (length k.code.methods))) v h)
    where
      by : (bad_method f k j 0 k.code.methods k.kinds.methods ≡ Some v)
          ⊎ ((bad_method f k j 0 k.code.methods k.kinds.methods ≡ None)
          × (fault_if (not (is_well_sorted (scope_by f k None) k.code.body.frame_words k.code.body.code)) (Code j (length k.code.methods)) ≡ Some v)) → ⊥
      by (inl q) = methods_are_codes k j 0 k.code.methods k.kinds.methods v q l e
      by (inr q) =
          let s = fault_some (is_well_sorted (scope_by f k None) k.code.body.frame_words k.code.body.code) (Code j (length k.code.methods)) v q.1 in
          let z : Code j (length k.code.methods) ≡ Header l = s.1 ∙ e in cc

  codes_are_codes : (n j : ℕ) (v : Verdict) → bad_codes f n j ≡ Some v → (l : ℕ) → v ≡ Header l → ⊥
  codes_are_codes zero j v h l e = let z : None ≡ Some v = h in cc
  codes_are_codes (suc n) j v h l e =
      by (else_some (bad_code f j (declared_at f j)) (λ u. bad_codes f n (suc j)) v h) (λ q. codes_are_codes n (suc j) v q l e)
    where
      by : (bad_code f j (declared_at f j) ≡ Some v) ⊎ ((bad_code f j (declared_at f j) ≡ None) × (bad_codes f n (suc j) ≡ Some v)) → (bad_codes f n (suc j) ≡ Some v → ⊥) → ⊥
      by (inl q) more = code_is_code j (declared_at f j) v q l e
      by (inr q) more = more q.1

  -- the verdict on a heading
  pub header_is_first : (j : ℕ) → verdict f ≡ Header j → ((length f.unit.classes ≡ 0) × (j ≡ 0)) ⊎ IsBadHeading f j
  header_is_first j h =
      let n = length f.unit.classes in
      by (or_else (fault_if (n == 0) (Header 0)) (λ u. or_else (bad_heading f n 0) (λ v. bad_codes f n 0))) refl h
    where
      found : (v : Verdict) → v ≡ Header j → bad_heading f (length f.unit.classes) 0 ≡ Some v → IsBadHeading f j
      found v e h =
          let r = bad_heading_is (length f.unit.classes) 0 v h in
          let same : r.0 ≡ j = (let z : 0 + r.0 ≡ r.0 = omega arith in sym z) ∙ ap header_place (sym r.1 ∙ e) in
          let bad : heading_right f j (declared_at f j) ≡ false = subst (λ n. heading_right f n (declared_at f n) ≡ false) ((let z : 0 + r.0 ≡ r.0 = omega arith in z) ∙ same) r.2 in
          let k = there j bad in
          record {
            before = λ i d lt e. heading_is f i d (subst (λ (o : Option Declared). heading_right f i o ≡ true) e
                (subst (λ n. heading_right f n (declared_at f n) ≡ true) (let z : 0 + i ≡ i = omega arith in z) (r.3 i (let s = same in omega (arith, lt, s)))));
            class = k.0;
            is_class = k.1;
            bad = lies (IsHeading f j k.0.code k.0.kinds) (heading_right f j (Some k.0)) (is_heading f j k.0) k.2;
          }

      by : (o : Option Verdict) → or_else (fault_if (length f.unit.classes == 0) (Header 0)) (λ u. or_else (bad_heading f (length f.unit.classes) 0) (λ v. bad_codes f (length f.unit.classes) 0)) ≡ o
          → good_unless o ≡ Header j → ((length f.unit.classes ≡ 0) × (j ≡ 0)) ⊎ IsBadHeading f j
      by None e h = absurd (let z : Good ≡ Header j = h in cc)
      by (Some v) e h =
          which (else_some (fault_if (length f.unit.classes == 0) (Header 0)) (λ u. or_else (bad_heading f (length f.unit.classes) 0) (λ v. bad_codes f (length f.unit.classes) 0)) v e)
        where
          none : (b : Bool) → (length f.unit.classes == 0) ≡ b → fault_if b (Header 0) ≡ Some v → (length f.unit.classes ≡ 0) × (j ≡ 0)
          none true q k = (equal (length f.unit.classes) 0 q, ap header_place (sym h ∙ sym (same_some k)))
          none false q k = absurd (let z : None ≡ Some v = k in cc)

          which : (fault_if (length f.unit.classes == 0) (Header 0) ≡ Some v)
              ⊎ ((fault_if (length f.unit.classes == 0) (Header 0) ≡ None) × (or_else (bad_heading f (length f.unit.classes) 0) (λ v. bad_codes f (length f.unit.classes) 0) ≡ Some v))
              → ((length f.unit.classes ≡ 0) × (j ≡ 0)) ⊎ IsBadHeading f j
          which (inl k) = inl (none (length f.unit.classes == 0) refl k)
          which (inr k) = second (else_some (bad_heading f (length f.unit.classes) 0) (λ v. bad_codes f (length f.unit.classes) 0) v k.1)
            where
              second : (bad_heading f (length f.unit.classes) 0 ≡ Some v) ⊎ ((bad_heading f (length f.unit.classes) 0 ≡ None) × (bad_codes f (length f.unit.classes) 0 ≡ Some v))
                  → ((length f.unit.classes ≡ 0) × (j ≡ 0)) ⊎ IsBadHeading f j
              second (inl m) = inr (found v h m)
              second (inr m) = absurd (codes_are_codes (length f.unit.classes) 0 v m.1 j h)
