-- The verdict, heading by heading and code by code.
use Rattle.std.proofs.Common.{◌≡◌, refl, sym, ap, subst, ◌∙◌, ℕ, zero, suc, ◌+◌, ◌-◌, ◌<◌, ◌≤◌, List, [], ◌∷◌, length, drop, Some, None, Bool, true, false, not, ◌&&◌, arith}
use Rattle.std.specs.Prelude.{get_or, nat_le, slice_get}
use Rattle.std.specs.List.{list_all}
use Rattle.text_scan.specs.Keywords.{is_name}
use Rattle.code_semantics.specs.Step.{method_named}
use Rattle.run_types.proofs.Laws.{same_some}
use Rattle.code_semantics.specs.declared.unit.ClassCode.{ClassCode}
use Rattle.code_semantics.specs.declared.unit.MethodCode.{MethodCode}
use Rattle.code_semantics.specs.declared.file.ClassKinds.{ClassKinds}
use Rattle.code_semantics.specs.declared.file.MethodKinds.{MethodKinds}
use Rattle.code_semantics.specs.declared.file.UnitFile.{UnitFile}
use Rattle.code_semantics.specs.Shaped.{AreShapedClasses, IsShaped}
use Rattle.run_types.specs.Partial.{◌>>=◌}
use Rattle.code_typing.specs.Sorts.{Declared, declared_at, scope_by}
use Rattle.code_typing.specs.Verdict.{Verdict, Header, Code, bad_code, bad_codes, bad_heading, bad_method, fault_if, heading_right, is_first, is_well_sorted, kind_exists, methods_right, or_else, result_exists}
use Rattle.code_typing.proofs.Laws.{heading_is, no_bad_heading}

-- an item by its place
pub get_there : {X : Type 0} (xs : List X) (n : ℕ) (x : X) → n < length xs → x ≡ get_or xs n x → slice_get xs n ≡ Some x
get_there [] n x lt e = absurd (omega (arith, lt))
get_there (y ∷ xs) zero x lt e = ap Some (sym e)
get_there (y ∷ xs) (suc n) x lt e = get_there xs n x (omega (arith, lt)) e

pub drop_at : {X : Type 0} (xs : List X) (n : ℕ) (x : X) → slice_get xs n ≡ Some x → drop n xs ≡ x ∷ drop (suc n) xs
drop_at [] n x e = absurd (let z : None ≡ Some x = e in cc)
drop_at (y ∷ xs) zero x e = ap (λ z. z ∷ xs) (same_some e)
drop_at (y ∷ xs) (suc n) x e = drop_at xs n x e

drop_none : {X : Type 0} (xs : List X) (n : ℕ) → slice_get xs n ≡ None → drop n xs ≡ []
drop_none [] zero e = refl
drop_none [] (suc n) e = refl
drop_none (x ∷ xs) zero e = absurd (let z : Some x ≡ None = e in cc)
drop_none (x ∷ xs) (suc n) e = drop_none xs n e

-- behind the kinds of a class there is no method
pub methods_over : (f : UnitFile) (k : Declared) (j i : ℕ) (ms : List MethodCode) (ss : List MethodKinds) → slice_get ss i ≡ None → bad_method f k j i (drop i ms) (drop i ss) ≡ None
methods_over f k j i ms ss e = ap (bad_method f k j i (drop i ms)) (drop_none ss i e) ∙ no_kinds (drop i ms)
  where
    no_kinds : (ms : List MethodCode) → bad_method f k j i ms [] ≡ None
    no_kinds [] = refl
    no_kinds (m ∷ ms) = refl

-- nor is there a heading
pub headings_over : (f : UnitFile) (k : ClassCode) (i : ℕ) (ms : List MethodCode) (ss : List MethodKinds) → slice_get ss i ≡ None → methods_right f k i (drop i ms) (drop i ss) ≡ true
headings_over f k i ms ss e = ap (methods_right f k i (drop i ms)) (drop_none ss i e) ∙ no_kinds (drop i ms)
  where
    no_kinds : (ms : List MethodCode) → methods_right f k i ms [] ≡ true
    no_kinds [] = refl
    no_kinds (m ∷ ms) = refl

-- each class of a shaped file has kinds
class_there : (ks : List ClassCode) (qs : List ClassKinds) (j : ℕ) → AreShapedClasses ks qs → j < length ks → (k : ClassCode) × (q : ClassKinds) × (slice_get ks j ≡ Some k) × (slice_get qs j ≡ Some q)
class_there [] qs j h lt = absurd (omega (arith, lt))
class_there (k ∷ ks) [] j h lt = absurd h
class_there (k ∷ ks) (q ∷ qs) zero h lt = (k, q, refl, refl)
class_there (k ∷ ks) (q ∷ qs) (suc j) h lt = class_there ks qs j h.2 (omega (arith, lt))

module _ (f : UnitFile) where
  declared_there : (j : ℕ) → IsShaped f → j < length f.unit.classes → (k : Declared) × (declared_at f j ≡ Some k)
  declared_there j h lt =
      let r = class_there f.unit.classes f.kinds.classes j h lt in (
        record { code = r.0; kinds = r.1 },
        ap (λ o. o >>= λ k. slice_get f.kinds.classes j >>= λ q. Some (record { code = k; kinds = q })) r.2 ∙ ap (λ o. o >>= λ q. Some (record { code = r.0; kinds = q })) r.3,
      )

  -- a heading that meets its rules is one of the first 256
  pub heading_bound : (j : ℕ) → IsShaped f → j < length f.unit.classes → heading_right f j (declared_at f j) ≡ true → j < 256
  heading_bound j h lt e =
      let r = declared_there j h lt in
      (heading_is f j r.0 (sym (ap (heading_right f j) r.1) ∙ e)).limits.0

  pub heading_next : (n j : ℕ) → j < n → heading_right f j (declared_at f j) ≡ true → bad_heading f (n - j) j ≡ bad_heading f (n - (j + 1)) (j + 1)
  heading_next n j lt e =
      ap (λ m. bad_heading f m j) (let z : n - j ≡ suc (n - (j + 1)) = omega (arith, lt) in z)
      ∙ ap (λ b. or_else (fault_if (not b) (Header j)) (λ u. bad_heading f (n - (j + 1)) (suc j))) e
      ∙ ap (bad_heading f (n - (j + 1))) (let z : suc j ≡ j + 1 = omega arith in z)

  pub heading_found : (n j : ℕ) → j < n → heading_right f j (declared_at f j) ≡ false → bad_heading f (n - j) j ≡ Some (Header j)
  heading_found n j lt e =
      ap (λ m. bad_heading f m j) (let z : n - j ≡ suc (n - (j + 1)) = omega (arith, lt) in z)
      ∙ ap (λ b. or_else (fault_if (not b) (Header j)) (λ u. bad_heading f (n - (j + 1)) (suc j))) e

  pub headings_done : (n j : ℕ) → n ≤ j → bad_heading f (n - j) j ≡ None
  headings_done n j le = ap (λ m. bad_heading f m j) (let z : n - j ≡ 0 = omega (arith, le) in z)

  -- where no heading breaks a rule, there are at most 256 classes
  pub classes_bound : (j : ℕ) → IsShaped f → bad_heading f (length f.unit.classes) 0 ≡ None → j < length f.unit.classes → j < 256
  classes_bound j h e lt =
      heading_bound j h lt (subst (λ n. heading_right f n (declared_at f n) ≡ true) (let z : 0 + j ≡ j = omega arith in z) (no_bad_heading f (length f.unit.classes) 0 e j lt))

  -- and each class has at most 64 methods
  pub methods_bound : (j : ℕ) (k : Declared) → bad_heading f (length f.unit.classes) 0 ≡ None → j < length f.unit.classes → declared_at f j ≡ Some k → length k.code.methods ≤ 64
  methods_bound j k e lt d =
      (heading_is f j k (sym (ap (heading_right f j) d)
      ∙ subst (λ n. heading_right f n (declared_at f n) ≡ true) (let z : 0 + j ≡ j = omega arith in z) (no_bad_heading f (length f.unit.classes) 0 e j lt))).limits.2

  pub code_next : (n j : ℕ) → j < n → bad_code f j (declared_at f j) ≡ None → bad_codes f (n - j) j ≡ bad_codes f (n - (j + 1)) (j + 1)
  code_next n j lt e =
      ap (λ m. bad_codes f m j) (let z : n - j ≡ suc (n - (j + 1)) = omega (arith, lt) in z)
      ∙ ap (λ o. or_else o (λ u. bad_codes f (n - (j + 1)) (suc j))) e
      ∙ ap (bad_codes f (n - (j + 1))) (let z : suc j ≡ j + 1 = omega arith in z)

  pub code_found : (n j : ℕ) (v : Verdict) → j < n → bad_code f j (declared_at f j) ≡ Some v → bad_codes f (n - j) j ≡ Some v
  code_found n j v lt e =
      ap (λ m. bad_codes f m j) (let z : n - j ≡ suc (n - (j + 1)) = omega (arith, lt) in z)
      ∙ ap (λ o. or_else o (λ u. bad_codes f (n - (j + 1)) (suc j))) e

  pub codes_done : (n j : ℕ) → n ≤ j → bad_codes f (n - j) j ≡ None
  codes_done n j le = ap (λ m. bad_codes f m j) (let z : n - j ≡ 0 = omega (arith, le) in z)

-- the heading of a method meets its rules
abbrev pub method_heading : UnitFile → ClassCode → ℕ → MethodCode → MethodKinds → Bool
method_heading f k i m s =
    is_name f.unit.names m.name.0 && is_first i (method_named (Some k) m.name) && nat_le m.params 8 && nat_le m.temps 32 && nat_le m.params m.temps && list_all (kind_exists f) s.temps
    && result_exists f s.result

module _ (f : UnitFile) (k : ClassCode) (i : ℕ) (ms : List MethodCode) (ss : List MethodKinds) (m : MethodCode) (s : MethodKinds) (m_is : drop i ms ≡ m ∷ drop (suc i) ms)
    (s_is : drop i ss ≡ s ∷ drop (suc i) ss) where
  pub heading_then : (b : Bool) → b ≡ method_heading f k i m s → methods_right f k i (drop i ms) (drop i ss) ≡ (b && methods_right f k (suc i) (drop (suc i) ms) (drop (suc i) ss))
  heading_then b e =
      ap (λ l. methods_right f k i l (drop i ss)) m_is ∙ ap (methods_right f k i (m ∷ drop (suc i) ms)) s_is
      ∙ ap (λ x. x && methods_right f k (suc i) (drop (suc i) ms) (drop (suc i) ss)) (sym e)

module _ (f : UnitFile) (k : Declared) (j i : ℕ) (ms : List MethodCode) (ss : List MethodKinds) (m : MethodCode) (s : MethodKinds) (m_is : drop i ms ≡ m ∷ drop (suc i) ms)
    (s_is : drop i ss ≡ s ∷ drop (suc i) ss) where
  method_by : (b : Bool) → b ≡ is_well_sorted (scope_by f k (Some s)) m.frame_words m.code
      → bad_method f k j i (drop i ms) (drop i ss) ≡ or_else (fault_if (not b) (Code j i)) (λ u. bad_method f k j (suc i) (drop (suc i) ms) (drop (suc i) ss))
  method_by b e =
      ap (λ l. bad_method f k j i l (drop i ss)) m_is ∙ ap (bad_method f k j i (m ∷ drop (suc i) ms)) s_is
      ∙ ap (λ x. or_else (fault_if (not x) (Code j i)) (λ u. bad_method f k j (suc i) (drop (suc i) ms) (drop (suc i) ss))) (sym e)

  pub method_next : true ≡ is_well_sorted (scope_by f k (Some s)) m.frame_words m.code
      → bad_method f k j i (drop i ms) (drop i ss) ≡ bad_method f k j (suc i) (drop (suc i) ms) (drop (suc i) ss)
  method_next e = method_by true e

  pub method_wrong : false ≡ is_well_sorted (scope_by f k (Some s)) m.frame_words m.code → bad_method f k j i (drop i ms) (drop i ss) ≡ Some (Code j i)
  method_wrong e = method_by false e
