-- The computed verdict on a file is good if and only if the file is verified.
use Rattle.std.proofs.Common.{◌≡◌, refl, sym, ap, subst, ◌∙◌, ℕ, zero, suc, ◌+◌, ◌==◌, ◌<◌, ◌≤◌, List, [], ◌∷◌, length, Option, Some, None, Bool, true, false, not, ◌&&◌, arith, leb-true}
use Rattle.std.specs.Prelude.{slice_get, nat_le, nat_lt}
use Rattle.std.specs.List.{list_all}
use Rattle.std.proofs.lemmas.Option.{slice_get_within}
use Rattle.run_types.specs.declared.types.Kind.{Kind}
use Rattle.run_types.specs.declared.types.Kind.TheVariants as K
use Rattle.text_scan.specs.Keywords.{is_name}
use Rattle.run_types.proofs.Laws.{first, second, equal, equals, same_some}
use Rattle.run_types.specs.Tables.{Each}
use Rattle.code_semantics.specs.declared.unit.ClassCode.{ClassCode}
use Rattle.code_semantics.specs.declared.unit.MethodCode.{MethodCode}
use Rattle.code_semantics.specs.declared.file.UnitFile.{UnitFile}
use Rattle.code_semantics.specs.declared.file.MethodKinds.{MethodKinds}
use Rattle.code_semantics.specs.Step.{Numbered, method_named, class_from}
use Rattle.code_semantics.proofs.Laws.{found_named}
use Rattle.code_typing.specs.Sorts.{Declared, declared_at, scope_by}
use Rattle.code_typing.specs.Verified.{KindExists, ResultExists, IsMethodHeading, IsHeading, HasWellSorted, IsWellSorted, IsVerified}
use Rattle.code_typing.specs.Verdict.{Verdict, Good, Header, Code, kind_exists, result_exists, is_first, is_place, methods_right, heading_right, is_well_sorted, or_else, fault_if, bad_heading, bad_method, bad_code, bad_codes, good_unless, verdict}
use Rattle.code_typing.proofs.CodeTestSound.{test_is_right, right_passes}

both_are : (a b : Bool) → a ≡ true → b ≡ true → (a && b) ≡ true
both_are a b x y = ap (λ z. z && b) x ∙ y

most_is : (m n : ℕ) → m ≤ n → nat_le m n ≡ true
most_is m n h = grind (arith, h)

module _ (f : UnitFile) where
  kind_is : (k : Kind) → kind_exists f k ≡ true → KindExists f k
  kind_is K.Int h = tt
  kind_is K.Bool h = tt
  kind_is (K.Class c) h = h

  is_kind : (k : Kind) → KindExists f k → kind_exists f k ≡ true
  is_kind K.Int h = refl
  is_kind K.Bool h = refl
  is_kind (K.Class c) h = h

  kinds_are : (ks : List Kind) → list_all (kind_exists f) ks ≡ true → Each (KindExists f) ks
  kinds_are [] h = tt
  kinds_are (k ∷ ks) h = (kind_is k (first (kind_exists f k) (list_all (kind_exists f) ks) h), kinds_are ks (second (kind_exists f k) (list_all (kind_exists f) ks) h))

  are_kinds : (ks : List Kind) → Each (KindExists f) ks → list_all (kind_exists f) ks ≡ true
  are_kinds [] h = refl
  are_kinds (k ∷ ks) h = both_are (kind_exists f k) (list_all (kind_exists f) ks) (is_kind k h.0) (are_kinds ks h.1)

  result_is : (o : Option Kind) → result_exists f o ≡ true → ResultExists f o
  result_is None h = tt
  result_is (Some k) h = kind_is k h

  is_result : (o : Option Kind) → ResultExists f o → result_exists f o ≡ true
  is_result None h = refl
  is_result (Some k) h = is_kind k h

  -- the first method of a name, by its place
  first_is : (k : ClassCode) (i : ℕ) (m : MethodCode) → slice_get k.methods i ≡ Some m → is_first i (method_named (Some k) m.name) ≡ true
      → method_named (Some k) m.name ≡ Some (record { place = i; code = m })
  first_is k i m e h = by (method_named (Some k) m.name) refl h
    where
      by : (o : Option Numbered) → method_named (Some k) m.name ≡ o → is_first i o ≡ true → method_named (Some k) m.name ≡ Some (record { place = i; code = m })
      by None q z = absurd (let y : false ≡ true = z in cc)
      by (Some r) q z =
          let p : r.place ≡ i = equal r.place i z in
          let c : r.code ≡ m = same_some (sym (found_named k m.name r q) ∙ ap (slice_get k.methods) p ∙ e) in
          q ∙ ap (λ n. Some (record { place = n; code = r.code })) p ∙ ap (λ y. Some (record { place = i; code = y })) c

  module _ (k : ClassCode) where
    abbrev Test : ℕ → MethodCode → MethodKinds → Bool
    Test i m s =
        is_name f.unit.names m.name.0 && is_first i (method_named (Some k) m.name) && nat_le m.params 8 && nat_le m.temps 32 && nat_le m.params m.temps && list_all (kind_exists f) s.temps
        && result_exists f s.result

    method_is : (i : ℕ) (m : MethodCode) (s : MethodKinds) → slice_get k.methods i ≡ Some m → Test i m s ≡ true → IsMethodHeading f k i m s
    method_is i m s e h =
        let h6 = first _ (result_exists f s.result) h in
        let h5 = first _ (list_all (kind_exists f) s.temps) h6 in
        let h4 = first _ (nat_le m.params m.temps) h5 in
        let h3 = first _ (nat_le m.temps 32) h4 in
        let h2 = first _ (nat_le m.params 8) h3 in
        record {
          name = first (is_name f.unit.names m.name.0) (is_first i (method_named (Some k) m.name)) h2;
          first = first_is k i m e (second (is_name f.unit.names m.name.0) (is_first i (method_named (Some k) m.name)) h2);
          limits = (leb-true m.params 8 (second _ (nat_le m.params 8) h3), leb-true m.temps 32 (second _ (nat_le m.temps 32) h4), leb-true m.params m.temps (second _ (nat_le m.params m.temps) h5));
          kinds = (kinds_are s.temps (second _ (list_all (kind_exists f) s.temps) h6), result_is s.result (second _ (result_exists f s.result) h));
        }

    is_method : (i : ℕ) (m : MethodCode) (s : MethodKinds) → IsMethodHeading f k i m s → Test i m s ≡ true
    is_method i m s h =
        both_are _ (result_exists f s.result) (both_are _ (list_all (kind_exists f) s.temps) (both_are _ (nat_le m.params m.temps) (both_are _ (nat_le m.temps 32)
        (both_are _ (nat_le m.params 8) (both_are (is_name f.unit.names m.name.0) (is_first i (method_named (Some k) m.name)) h.name (ap (is_first i) h.first ∙ equals i))
        (most_is m.params 8 h.limits.0)) (most_is m.temps 32 h.limits.1)) (most_is m.params m.temps h.limits.2)) (are_kinds s.temps h.kinds.0)) (is_result s.result h.kinds.1)

    -- methods from a place on, one by one
    methods_are : (n : ℕ) (ms : List MethodCode) (ss : List MethodKinds) → ((i : ℕ) (m : MethodCode) → slice_get ms i ≡ Some m → slice_get k.methods (n + i) ≡ Some m) → methods_right f k n ms ss ≡ true
        → (i : ℕ) (m : MethodCode) (s : MethodKinds) → slice_get ms i ≡ Some m → slice_get ss i ≡ Some s → IsMethodHeading f k (n + i) m s
    methods_are n [] ss at h i m s e g = absurd (let z : None ≡ Some m = e in cc)
    methods_are n (x ∷ ms) [] at h i m s e g = absurd (let z : None ≡ Some s = g in cc)
    methods_are n (x ∷ ms) (y ∷ ss) at h zero m s e g =
        let t = first (Test n x y) (methods_right f k (suc n) ms ss) h in
        let z : n ≡ n + 0 = omega arith in
        subst (λ i. IsMethodHeading f k i m s) z (subst (λ (q : MethodKinds). IsMethodHeading f k n m q) (same_some g) (subst (λ (q : MethodCode). IsMethodHeading f k n q y) (same_some e)
        (method_is n x y (ap (slice_get k.methods) z ∙ at 0 x refl) t)))
    methods_are n (x ∷ ms) (y ∷ ss) at h (suc i) m s e g =
        let t = second (Test n x y) (methods_right f k (suc n) ms ss) h in
        subst (λ j. IsMethodHeading f k j m s) (let z : suc n + i ≡ n + suc i = omega arith in z)
        (methods_are (suc n) ms ss (λ j q p. ap (slice_get k.methods) (let z : suc n + j ≡ n + suc j = omega arith in z) ∙ at (suc j) q p) t i m s e g)

    are_methods : (n : ℕ) (ms : List MethodCode) (ss : List MethodKinds) → ((i : ℕ) (m : MethodCode) (s : MethodKinds) → slice_get ms i ≡ Some m → slice_get ss i ≡ Some s → IsMethodHeading f k (n + i) m s)
        → methods_right f k n ms ss ≡ true
    are_methods n [] ss h = refl
    are_methods n (x ∷ ms) [] h = refl
    are_methods n (x ∷ ms) (y ∷ ss) h =
        both_are (Test n x y) (methods_right f k (suc n) ms ss) (is_method n x y (subst (λ i. IsMethodHeading f k i x y) (let z : n + 0 ≡ n = omega arith in z) (h 0 x y refl refl)))
        (are_methods (suc n) ms ss (λ i m s e g. subst (λ j. IsMethodHeading f k j m s) (let z : n + suc i ≡ suc n + i = omega arith in z) (h (suc i) m s e g)))

  place_is : (j : ℕ) (o : Option ℕ) → is_place j o ≡ true → o ≡ Some j
  place_is j None h = absurd (let z : false ≡ true = h in cc)
  place_is j (Some n) h = ap Some (equal n j h)

  -- a heading
  pub heading_is : (j : ℕ) (k : Declared) → heading_right f j (Some k) ≡ true → IsHeading f j k.code k.kinds
  heading_is j k h =
      let h6 = first _ (methods_right f k.code 0 k.code.methods k.kinds.methods) h in
      let h5 = first _ (list_all (kind_exists f) k.kinds.vars) h6 in
      let h4 = first _ (nat_le (length k.code.methods) 64) h5 in
      let h3 = first _ (nat_le k.code.vars 64) h4 in
      let h2 = first _ (nat_lt j 256) h3 in
      let lt : j < 256 = (let x = second _ (nat_lt j 256) h3 in grind (arith, x)) in
      record {
        name = first (is_name f.unit.names k.code.name.0) (is_place j (class_from 0 f.unit.classes k.code.name)) h2;
        first = place_is j (class_from 0 f.unit.classes k.code.name) (second (is_name f.unit.names k.code.name.0) (is_place j (class_from 0 f.unit.classes k.code.name)) h2);
        limits = (lt, leb-true k.code.vars 64 (second _ (nat_le k.code.vars 64) h4), leb-true (length k.code.methods) 64 (second _ (nat_le (length k.code.methods) 64) h5));
        kinds = kinds_are k.kinds.vars (second _ (list_all (kind_exists f) k.kinds.vars) h6);
        methods = λ i m s e g. subst (λ n. IsMethodHeading f k.code n m s) (let z : 0 + i ≡ i = omega arith in z)
            (methods_are k.code 0 k.code.methods k.kinds.methods (λ i m e. ap (slice_get k.code.methods) (let z : 0 + i ≡ i = omega arith in z) ∙ e)
            (second _ (methods_right f k.code 0 k.code.methods k.kinds.methods) h) i m s e g);
      }

  pub is_heading : (j : ℕ) (k : Declared) → IsHeading f j k.code k.kinds → heading_right f j (Some k) ≡ true
  is_heading j k h =
      let lt : nat_lt j 256 ≡ true = (let x = h.limits.0 in grind (arith, x)) in
      both_are _ (methods_right f k.code 0 k.code.methods k.kinds.methods) (both_are _ (list_all (kind_exists f) k.kinds.vars) (both_are _ (nat_le (length k.code.methods) 64)
      (both_are _ (nat_le k.code.vars 64) (both_are _ (nat_lt j 256)
      (both_are (is_name f.unit.names k.code.name.0) (is_place j (class_from 0 f.unit.classes k.code.name)) h.name (ap (is_place j) h.first ∙ equals j)) lt)
      (most_is k.code.vars 64 h.limits.1)) (most_is (length k.code.methods) 64 h.limits.2)) (are_kinds k.kinds.vars h.kinds))
      (are_methods k.code 0 k.code.methods k.kinds.methods (λ i m s e g. subst (λ n. IsMethodHeading f k.code n m s) (let z : i ≡ 0 + i = omega arith in z) (h.methods i m s e g)))

  -- chains of faults
  no_fault : (a : Option Verdict) (next : Unit {0} → Option Verdict) → or_else a next ≡ None → (a ≡ None) × (next tt ≡ None)
  no_fault None next h = (refl, h)
  no_fault (Some v) next h = absurd (let z : Some v ≡ None = h in cc)

  faultless : (b : Bool) (v : Verdict) → fault_if (not b) v ≡ None → b ≡ true
  faultless true v h = refl
  faultless false v h = absurd (let z : Some v ≡ None = h in cc)

  good_is : (o : Option Verdict) → (o ≡ Some Good → ⊥) → good_unless o ≡ Good → o ≡ None
  good_is None n h = refl
  good_is (Some v) n h = absurd (n (ap Some h))

  headings_are : (n j : ℕ) → bad_heading f n j ≡ None → (i : ℕ) → i < n → heading_right f (j + i) (declared_at f (j + i)) ≡ true
  headings_are zero j h i lt = absurd (omega (arith, lt))
  headings_are (suc n) j h zero lt =
      let a = no_fault (fault_if (not (heading_right f j (declared_at f j))) (Header j)) (λ u. bad_heading f n (suc j)) h in
      subst (λ i. heading_right f i (declared_at f i) ≡ true) (let z : j ≡ j + 0 = omega arith in z) (faultless (heading_right f j (declared_at f j)) (Header j) a.0)
  headings_are (suc n) j h (suc i) lt =
      let a = no_fault (fault_if (not (heading_right f j (declared_at f j))) (Header j)) (λ u. bad_heading f n (suc j)) h in
      subst (λ i. heading_right f i (declared_at f i) ≡ true) (let z : suc j + i ≡ j + suc i = omega arith in z) (headings_are n (suc j) a.1 i (omega (arith, lt)))

  are_headings : (n j : ℕ) → ((i : ℕ) → heading_right f i (declared_at f i) ≡ true) → bad_heading f n j ≡ None
  are_headings zero j h = refl
  are_headings (suc n) j h =
      ap (λ b. or_else (fault_if (not b) (Header j)) (λ u. bad_heading f n (suc j))) (h j) ∙ are_headings n (suc j) h

  -- the codes of a class
  module _ (k : Declared) (j : ℕ) where
    pub methods_sorted : (n : ℕ) (ms : List MethodCode) (ss : List MethodKinds) → bad_method f k j n ms ss ≡ None → (i : ℕ) (m : MethodCode) (s : MethodKinds) → slice_get ms i ≡ Some m → slice_get ss i ≡ Some s
        → IsWellSorted (scope_by f k (Some s)) m.frame_words m.code
    methods_sorted n [] ss h i m s e g = absurd (let z : None ≡ Some m = e in cc)
    methods_sorted n (x ∷ ms) [] h i m s e g = absurd (let z : None ≡ Some s = g in cc)
    methods_sorted n (x ∷ ms) (y ∷ ss) h zero m s e g =
        let a = no_fault (fault_if (not (is_well_sorted (scope_by f k (Some y)) x.frame_words x.code)) (Code j n)) (λ u. bad_method f k j (suc n) ms ss) h in
        let t = test_is_right (scope_by f k (Some y)) x.code x.frame_words (faultless (is_well_sorted (scope_by f k (Some y)) x.frame_words x.code) (Code j n) a.0) in
        subst (λ (q : MethodKinds). IsWellSorted (scope_by f k (Some q)) m.frame_words m.code) (same_some g)
        (subst (λ (q : MethodCode). IsWellSorted (scope_by f k (Some y)) q.frame_words q.code) (same_some e) t)
    methods_sorted n (x ∷ ms) (y ∷ ss) h (suc i) m s e g =
        let a = no_fault (fault_if (not (is_well_sorted (scope_by f k (Some y)) x.frame_words x.code)) (Code j n)) (λ u. bad_method f k j (suc n) ms ss) h in
        methods_sorted (suc n) ms ss a.1 i m s e g

    sorted_methods : (n : ℕ) (ms : List MethodCode) (ss : List MethodKinds)
        → ((i : ℕ) (m : MethodCode) (s : MethodKinds) → slice_get ms i ≡ Some m → slice_get ss i ≡ Some s → IsWellSorted (scope_by f k (Some s)) m.frame_words m.code) → bad_method f k j n ms ss ≡ None
    sorted_methods n [] ss h = refl
    sorted_methods n (x ∷ ms) [] h = refl
    sorted_methods n (x ∷ ms) (y ∷ ss) h =
        ap (λ b. or_else (fault_if (not b) (Code j n)) (λ u. bad_method f k j (suc n) ms ss)) (right_passes (scope_by f k (Some y)) x.code x.frame_words (h 0 x y refl refl))
        ∙ sorted_methods (suc n) ms ss (λ i m s e g. h (suc i) m s e g)

    pub code_is : bad_code f j (Some k) ≡ None → HasWellSorted f k
    code_is h =
        let a = no_fault (bad_method f k j 0 k.code.methods k.kinds.methods)
        (λ u. fault_if (not (is_well_sorted (scope_by f k None) k.code.body.frame_words k.code.body.code)) (Code j (length k.code.methods))) h in
        record {
          methods = λ i m s e g. methods_sorted 0 k.code.methods k.kinds.methods a.0 i m s e g;
          body = test_is_right (scope_by f k None) k.code.body.code k.code.body.frame_words
              (faultless (is_well_sorted (scope_by f k None) k.code.body.frame_words k.code.body.code) (Code j (length k.code.methods)) a.1);
        }

    is_code : HasWellSorted f k → bad_code f j (Some k) ≡ None
    is_code h =
        ap (λ o. or_else o (λ u. fault_if (not (is_well_sorted (scope_by f k None) k.code.body.frame_words k.code.body.code)) (Code j (length k.code.methods))))
        (sorted_methods 0 k.code.methods k.kinds.methods h.methods)
        ∙ ap (λ b. fault_if (not b) (Code j (length k.code.methods))) (right_passes (scope_by f k None) k.code.body.code k.code.body.frame_words h.body)

  codes_are : (n j : ℕ) → bad_codes f n j ≡ None → (i : ℕ) → i < n → bad_code f (j + i) (declared_at f (j + i)) ≡ None
  codes_are zero j h i lt = absurd (omega (arith, lt))
  codes_are (suc n) j h zero lt =
      let a = no_fault (bad_code f j (declared_at f j)) (λ u. bad_codes f n (suc j)) h in
      subst (λ i. bad_code f i (declared_at f i) ≡ None) (let z : j ≡ j + 0 = omega arith in z) a.0
  codes_are (suc n) j h (suc i) lt =
      let a = no_fault (bad_code f j (declared_at f j)) (λ u. bad_codes f n (suc j)) h in
      subst (λ i. bad_code f i (declared_at f i) ≡ None) (let z : suc j + i ≡ j + suc i = omega arith in z) (codes_are n (suc j) a.1 i (omega (arith, lt)))

  are_codes : (n j : ℕ) → ((i : ℕ) → bad_code f i (declared_at f i) ≡ None) → bad_codes f n j ≡ None
  are_codes zero j h = refl
  are_codes (suc n) j h = ap (λ o. or_else o (λ u. bad_codes f n (suc j))) (h j) ∙ are_codes n (suc j) h

  -- a class at its place is within the list
  pub class_below : (j : ℕ) (k : Declared) → declared_at f j ≡ Some k → j < length f.unit.classes
  class_below j k e = by (slice_get f.unit.classes j) refl
    where
      by : (o : Option ClassCode) → slice_get f.unit.classes j ≡ o → j < length f.unit.classes
      by None q = absurd (let z : None ≡ Some k = rw q at e in cc)
      by (Some x) q = slice_get_within f.unit.classes j x q

  none_of_all : (b : Bool) (n : ℕ) → (n == 0) ≡ b → b ≡ false → 0 < n
  none_of_all b n e h = let z : (n == 0) ≡ false = e ∙ h in grind (arith, z)

  not_good : (a b c : Option Verdict) → (a ≡ Some Good → ⊥) → (b ≡ Some Good → ⊥) → (c ≡ Some Good → ⊥) → or_else a (λ u. or_else b (λ v. c)) ≡ Some Good → ⊥
  not_good None None c x y z h = z h
  not_good None (Some v) c x y z h = y h
  not_good (Some v) b c x y z h = x h

  fault_not_good : (b : Bool) (v : Verdict) → (v ≡ Good → ⊥) → fault_if b v ≡ Some Good → ⊥
  fault_not_good false v n h = let z : None ≡ Some Good = h in cc
  fault_not_good true v n h = n (same_some h)

  else_not_good : (a : Option Verdict) (next : Unit {0} → Option Verdict) → (a ≡ Some Good → ⊥) → (next tt ≡ Some Good → ⊥) → or_else a next ≡ Some Good → ⊥
  else_not_good None next x y h = y h
  else_not_good (Some v) next x y h = x h

  heading_not_good : (n j : ℕ) → bad_heading f n j ≡ Some Good → ⊥
  heading_not_good zero j h = let z : None ≡ Some Good = h in cc
  heading_not_good (suc n) j h =
      else_not_good (fault_if (not (heading_right f j (declared_at f j))) (Header j)) (λ u. bad_heading f n (suc j))
      (fault_not_good (not (heading_right f j (declared_at f j))) (Header j) (λ e. let z : Header j ≡ Good = e in cc)) (heading_not_good n (suc j)) h

  method_not_good : (k : Declared) (j n : ℕ) (ms : List MethodCode) (ss : List MethodKinds) → bad_method f k j n ms ss ≡ Some Good → ⊥
  method_not_good k j n [] ss h = let z : None ≡ Some Good = h in cc
  method_not_good k j n (x ∷ ms) [] h = let z : None ≡ Some Good = h in cc
  method_not_good k j n (x ∷ ms) (y ∷ ss) h =
      else_not_good (fault_if (not (is_well_sorted (scope_by f k (Some y)) x.frame_words x.code)) (Code j n)) (λ u. bad_method f k j (suc n) ms ss)
      (fault_not_good (not (is_well_sorted (scope_by f k (Some y)) x.frame_words x.code)) (Code j n) (λ e. let z : Code j n ≡ Good = e in cc)) (method_not_good k j (suc n) ms ss) h

  code_not_good : (j : ℕ) (o : Option Declared) → bad_code f j o ≡ Some Good → ⊥
  code_not_good j None h = let z : None ≡ Some Good = h in cc
  code_not_good j (Some k) h =
      else_not_good (bad_method f k j 0 k.code.methods k.kinds.methods) (λ u. fault_if (not (is_well_sorted (scope_by f k None) k.code.body.frame_words k.code.body.code)) (Code j (length k.code.methods)))
      (method_not_good k j 0 k.code.methods k.kinds.methods)
      (fault_not_good (not (is_well_sorted (scope_by f k None) k.code.body.frame_words k.code.body.code)) (Code j (length k.code.methods)) (λ e. let z : Code j (length k.code.methods) ≡ Good = e in cc)) h

  codes_not_good : (n j : ℕ) → bad_codes f n j ≡ Some Good → ⊥
  codes_not_good zero j h = let z : None ≡ Some Good = h in cc
  codes_not_good (suc n) j h = else_not_good (bad_code f j (declared_at f j)) (λ u. bad_codes f n (suc j)) (code_not_good j (declared_at f j)) (codes_not_good n (suc j)) h

  -- a good file is verified
  pub good_is_verified : verdict f ≡ Good → IsVerified f
  good_is_verified h =
      let n = length f.unit.classes in
      let a = good_is (or_else (fault_if (n == 0) (Header 0)) (λ u. or_else (bad_heading f n 0) (λ v. bad_codes f n 0)))
      (not_good (fault_if (n == 0) (Header 0)) (bad_heading f n 0) (bad_codes f n 0) (fault_not_good (n == 0) (Header 0) (λ e. let z : Header 0 ≡ Good = e in cc)) (heading_not_good n 0) (codes_not_good n 0)) h in
      let b = no_fault (fault_if (n == 0) (Header 0)) (λ u. or_else (bad_heading f n 0) (λ v. bad_codes f n 0)) a in
      let c = no_fault (bad_heading f n 0) (λ v. bad_codes f n 0) b.1 in
      record {
        some = some (n == 0) refl b.0;
        headings = λ j k e. heading_is j k (subst (λ (o : Option Declared). heading_right f j o ≡ true) e (at j (headings_are n 0 c.0 j (class_below j k e))));
        codes = λ j k e. code_is k j (subst (λ (o : Option Declared). bad_code f j o ≡ None) e (at_code j (codes_are n 0 c.1 j (class_below j k e))));
      }
    where
      some : (b : Bool) → (length f.unit.classes == 0) ≡ b → fault_if (length f.unit.classes == 0) (Header 0) ≡ None → 0 < length f.unit.classes
      some true e h = absurd (let z : Some (Header 0) ≡ None = sym (ap (λ b. fault_if b (Header 0)) e) ∙ h in cc)
      some false e h = none_of_all false (length f.unit.classes) e refl

      at : (j : ℕ) → heading_right f (0 + j) (declared_at f (0 + j)) ≡ true → heading_right f j (declared_at f j) ≡ true
      at j h = subst (λ i. heading_right f i (declared_at f i) ≡ true) (let z : 0 + j ≡ j = omega arith in z) h

      at_code : (j : ℕ) → bad_code f (0 + j) (declared_at f (0 + j)) ≡ None → bad_code f j (declared_at f j) ≡ None
      at_code j h = subst (λ i. bad_code f i (declared_at f i) ≡ None) (let z : 0 + j ≡ j = omega arith in z) h

  -- and a verified file is good
  pub verified_is_good : IsVerified f → verdict f ≡ Good
  verified_is_good w =
      let n = length f.unit.classes in
      let some : (n == 0) ≡ false = (let lt = w.some in grind (arith, lt)) in
      ap (λ b. good_unless (or_else (fault_if b (Header 0)) (λ u. or_else (bad_heading f n 0) (λ v. bad_codes f n 0)))) some
      ∙ ap (λ o. good_unless (or_else o (λ v. bad_codes f n 0))) (are_headings n 0 (λ j. heading j (declared_at f j) refl))
      ∙ ap good_unless (are_codes n 0 (λ j. codes j (declared_at f j) refl))
    where
      heading : (j : ℕ) (o : Option Declared) → declared_at f j ≡ o → heading_right f j (declared_at f j) ≡ true
      heading j None e = ap (heading_right f j) e
      heading j (Some k) e = ap (heading_right f j) e ∙ is_heading j k (w.headings j k e)

      codes : (j : ℕ) (o : Option Declared) → declared_at f j ≡ o → bad_code f j (declared_at f j) ≡ None
      codes j None e = ap (bad_code f j) e
      codes j (Some k) e = ap (bad_code f j) e ∙ is_code k j (w.codes j k e)
