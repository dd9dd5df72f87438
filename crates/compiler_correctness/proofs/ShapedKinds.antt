-- Classes and methods of a shaped file, and their kinds.
use Rattle.std.proofs.Common.{◌≡◌, refl, sym, ap, subst, ◌∙◌, ℕ, zero, suc, List, [], ◌∷◌, length, Some, None}
use Rattle.std.specs.Prelude.{slice_get}
use Rattle.code_semantics.specs.declared.unit.ClassCode.{ClassCode}
use Rattle.code_semantics.specs.declared.unit.MethodCode.{MethodCode}
use Rattle.code_semantics.specs.declared.file.UnitFile.{UnitFile}
use Rattle.code_semantics.specs.declared.file.ClassKinds.{ClassKinds}
use Rattle.code_semantics.specs.declared.file.MethodKinds.{MethodKinds}
use Rattle.code_semantics.specs.Shaped.{AreShapedMethods, AreShapedClasses, IsShaped}
use Rattle.run_types.proofs.Laws.{same_some, given_by}
use Rattle.code_typing.specs.Sorts.{Declared, declared_at}

pub kinds_of_method : (ms : List MethodCode) (ss : List MethodKinds) (i : ℕ) (m : MethodCode) → AreShapedMethods ms ss → slice_get ms i ≡ Some m
    → (s : MethodKinds) × (slice_get ss i ≡ Some s) × (m.temps ≡ length s.temps)
kinds_of_method [] ss i m h e = absurd (let z : None ≡ Some m = e in cc)
kinds_of_method (n ∷ ms) [] i m h e = absurd h
kinds_of_method (n ∷ ms) (s ∷ ss) zero m h e = (s, refl, ap (λ (x : MethodCode). x.temps) (sym (same_some e)) ∙ h.0)
kinds_of_method (n ∷ ms) (s ∷ ss) (suc i) m h e = kinds_of_method ms ss i m h.1 e

pub kinds_of_class : (ks : List ClassCode) (qs : List ClassKinds) (j : ℕ) (k : ClassCode) → AreShapedClasses ks qs → slice_get ks j ≡ Some k
    → (q : ClassKinds) × (slice_get qs j ≡ Some q) × (k.vars ≡ length q.vars) × AreShapedMethods k.methods q.methods
kinds_of_class [] qs j k h e = absurd (let z : None ≡ Some k = e in cc)
kinds_of_class (n ∷ ks) [] j k h e = absurd h
kinds_of_class (n ∷ ks) (q ∷ qs) zero k h e =
    let s = same_some e in
    (q, refl, ap (λ (x : ClassCode). x.vars) (sym s) ∙ h.0, subst (λ (x : ClassCode). AreShapedMethods x.methods q.methods) s h.1)
kinds_of_class (n ∷ ks) (q ∷ qs) (suc j) k h e = kinds_of_class ks qs j k h.2 e

module _ (f : UnitFile) (shaped : IsShaped f) where
  -- the parts of a class at its place
  pub class_parts : (j : ℕ) (k : Declared) → declared_at f j ≡ Some k
      → (slice_get f.unit.classes j ≡ Some k.code) × (slice_get f.kinds.classes j ≡ Some k.kinds)
  class_parts j k e =
      let a = given_by (slice_get f.unit.classes j) _ k e in
      let b = given_by (slice_get f.kinds.classes j) _ k a.2 in
      let s = same_some b.2 in
      (a.1 ∙ ap (λ (x : Declared). Some x.code) s, b.1 ∙ ap (λ (x : Declared). Some x.kinds) s)

  pub class_shaped : (j : ℕ) (k : Declared) → declared_at f j ≡ Some k → (k.code.vars ≡ length k.kinds.vars) × AreShapedMethods k.code.methods k.kinds.methods
  class_shaped j k e =
      let p = class_parts j k e in
      let h = kinds_of_class f.unit.classes f.kinds.classes j k.code shaped p.0 in
      let s = same_some (sym h.1 ∙ p.1) in
      subst (λ (q : ClassKinds). (k.code.vars ≡ length q.vars) × AreShapedMethods k.code.methods q.methods) s (h.2, h.3)

  -- a class of the unit has kinds
  pub class_there : (j : ℕ) (k : ClassCode) → slice_get f.unit.classes j ≡ Some k → (d : Declared) × (declared_at f j ≡ Some d) × (d.code ≡ k)
  class_there j k e =
      let h = kinds_of_class f.unit.classes f.kinds.classes j k shaped e in
      (record { code = k; kinds = h.0 }, rw (e, h.1) refl, refl)
