-- A verified file that is short can be written.
-- Its numbers fit in four bytes, its integers have 64 bits, and its names consist of bytes.
use Rattle.std.proofs.Common.{◌≡◌, ◌∙◌, refl, ap, subst, IsTrue, ℕ, ℤ, pos, negsuc, zero, suc, ◌^◌, ◌<◌, ◌≤◌, List, [], ◌∷◌, length, Option, Some, None, is_some, true, false, arith}
use Rattle.std.specs.Prelude.{slice_get, FitsSigned}
use Rattle.std.specs.Int.{w64}
use Rattle.std.specs.List.{AllByRecursion as Each}
use Rattle.std.proofs.lemmas.Bool.Decides.{nat_tests}
use Rattle.text_scan.specs.Keywords.{is_name, is_name_text}
use Rattle.run_types.specs.Values.{is_in_range}
use Rattle.run_types.specs.declared.types.NameId.{NameId}
use Rattle.run_types.specs.declared.types.Kind.{Kind}
use Rattle.run_types.specs.declared.types.Kind.TheVariants as K
use Rattle.code_semantics.specs.declared.unit.AltCode.{AltCode}
use Rattle.code_semantics.specs.declared.unit.Instr.{Instr}
use Rattle.code_semantics.specs.declared.unit.Instr.TheVariants as I
use Rattle.code_semantics.specs.declared.unit.MethodCode.{MethodCode}
use Rattle.code_semantics.specs.declared.unit.ClassCode.{ClassCode}
use Rattle.code_semantics.specs.declared.file.UnitFile.{UnitFile}
use Rattle.code_semantics.specs.declared.file.ClassKinds.{ClassKinds}
use Rattle.code_semantics.specs.declared.file.MethodKinds.{MethodKinds}
use Rattle.code_semantics.specs.Frames.{method_code}
use Rattle.code_semantics.specs.ReachedPlaces.{AnswerOwn, AreOwn, AltsExist, Exists}
use Rattle.code_semantics.specs.Shaped.{AlternativeHasNumbers, AreShapedClasses, AreShapedMethods, ClassHasNumbers, ClassIsShort, ClassKindsHaveNumbers, InstrHasNumbers, IsNumber, IsOptionOf, IsShaped, IsShort, IsWritable, KindIsNumbered, MethodHasNumbers, MethodIsShort, MethodKindsHaveNumbers, NameIsNumbered}
use Rattle.code_semantics.specs.Step.{Numbered, class_from, method_named}
use Rattle.object_code.proofs.Laws.{short_is_writable}
use Rattle.run_types.specs.Tables as Sound
use Rattle.mesh_of_code.specs.MadeValues.{HasInstr}
use Rattle.code_typing.specs.Sorts.{CodeScope, Declared, declared_at}
use Rattle.code_typing.specs.Verified.{IsVerified, IsWellSorted, KindExists, ResultExists}
use Rattle.code_typing.proofs.Laws.{passes_below}
use Rattle.compiler_correctness.proofs.Laws.{class_parts, class_shaped, class_there, kinds_of_method}
use Rattle.pool_driver.proofs.SpelledFiles.{class_named, each_at, method_is_name}

each_from : {X : Type 0} (P : X → Type 0) (xs : List X) → ((n : ℕ) (x : X) → slice_get xs n ≡ Some x → P x) → Each P xs
each_from P [] h = tt
each_from P (x ∷ xs) h = (h 0 x refl, each_from P xs (λ n y e. h (suc n) y e))

range_fits : (z : ℤ) → is_in_range z ≡ true → FitsSigned w64 z
range_fits (pos n) h = grind (arith, nat_tests, h)
range_fits (negsuc n) h = grind (arith, nat_tests, h)

-- kinds are those of a class, or of a method
class_of_kinds : (ks : List ClassCode) (qs : List ClassKinds) (j : ℕ) (q : ClassKinds) → AreShapedClasses ks qs → slice_get qs j ≡ Some q → (k : ClassCode) × (slice_get ks j ≡ Some k)
class_of_kinds [] [] j q h e = absurd (let z : None ≡ Some q = e in cc)
class_of_kinds [] (x ∷ qs) j q h e = absurd h
class_of_kinds (n ∷ ks) [] j q h e = absurd h
class_of_kinds (n ∷ ks) (x ∷ qs) zero q h e = (n, refl)
class_of_kinds (n ∷ ks) (x ∷ qs) (suc j) q h e = class_of_kinds ks qs j q h.2 e

method_of_kinds : (ms : List MethodCode) (ss : List MethodKinds) (i : ℕ) (s : MethodKinds) → AreShapedMethods ms ss → slice_get ss i ≡ Some s → (m : MethodCode) × (slice_get ms i ≡ Some m)
method_of_kinds [] [] i s h e = absurd (let z : None ≡ Some s = e in cc)
method_of_kinds [] (x ∷ ss) i s h e = absurd h
method_of_kinds (n ∷ ms) [] i s h e = absurd h
method_of_kinds (n ∷ ms) (x ∷ ss) zero s h e = (n, refl)
method_of_kinds (n ∷ ms) (x ∷ ss) (suc i) s h e = method_of_kinds ms ss i s h.1 e

-- a frame has 96 words at most
words_few : (g : CodeScope) (words : ℕ) (c : List Instr) → IsWellSorted g words c → length g.temps ≤ 32 → IsNumber words
words_few g words c w h =
    let met = w.longest.1.met in
    let most = (w.taken met.0 met.1 met.2).0 in
    let all = w.longest.2 in
    let many = met.3 in
    omega (arith, most, all, many, h)

module _ (f : UnitFile) (shaped : IsShaped f) (good : IsVerified f) (short : IsShort f) (numbers : (z : ℤ) → HasInstr f.unit (I.PushInt z) → is_in_range z ≡ true) where
  named_few : (n : ℕ) → IsTrue (is_name f.unit.names n) → IsNumber n
  named_few n h = let l = passes_below is_name_text f.unit.names n h in let m = short.names.0 in omega (arith, l, m)

  class_few : (c : NameId) → IsTrue (is_some (class_from 0 f.unit.classes c)) → IsNumber c.0
  class_few c h = named_few c.0 (class_named f shaped good c.0 h)

  kind_few : (k : Kind) → KindExists f k → KindIsNumbered k
  kind_few K.Int h = tt
  kind_few K.Bool h = tt
  kind_few (K.Class c) h = class_few c h

  kinds_few : (ks : List Kind) → Sound.Each (KindExists f) ks → Each KindIsNumbered ks
  kinds_few [] h = tt
  kinds_few (k ∷ ks) h = (kind_few k h.0, kinds_few ks h.1)

  result_few : (o : Option Kind) → ResultExists f o → IsOptionOf KindIsNumbered o
  result_few None h = tt
  result_few (Some k) h = kind_few k h

  module _ (j : ℕ) (k : Declared) (d : declared_at f j ≡ Some k) where
    own_few : (m : NameId) → IsTrue (is_some (method_named (Some k.code) m)) → IsNumber m.0
    own_few m h = by (method_named (Some k.code) m) refl h
      where
        by : (o : Option Numbered) → method_named (Some k.code) m ≡ o → IsTrue (is_some o) → IsNumber m.0
        by None e t = absurd (let z : false ≡ true = t in cc)
        by (Some r) e t = named_few m.0 (method_is_name f shaped good j k d m.0 r e)

    all_own : (ms : List NameId) → AreOwn (Some k.code) ms → Each NameIsNumbered ms
    all_own [] h = tt
    all_own (m ∷ ms) h = (own_few m h.0, all_own ms h.1)

    answer_few : (o : Option (List NameId)) → AnswerOwn (Some k.code) o → IsOptionOf (Each NameIsNumbered) o
    answer_few None h = tt
    answer_few (Some ms) h = all_own ms h

    alternatives_few : (c : List Instr) → length c < 2 ^ 32 → (alts : List AltCode) → AltsExist (Some k.code) c alts → Each AlternativeHasNumbers alts
    alternatives_few c l [] h = tt
    alternatives_few c l (a ∷ alts) h = ((answer_few a.answer h.0, (let e = h.1 in omega (arith, e, l))), alternatives_few c l alts h.2)

    instr_few : (temps : ℕ) (c : List Instr) → temps ≤ 32 → length c < 2 ^ 32 → (i : Instr) → HasInstr f.unit i → Exists f.unit (Some k.code) temps c i → InstrHasNumbers i
    instr_few temps c t l (I.PushInt z) u h = range_fits z (numbers z u)
    instr_few temps c t l (I.PushBool b) u h = tt
    instr_few temps c t l I.PushNil u h = tt
    instr_few temps c t l (I.Jump a) u h = omega (arith, h, l)
    instr_few temps c t l (I.LoadI n) u h = let v = (good.headings j k d).limits.1 in omega (arith, h, v)
    instr_few temps c t l (I.LoadT n) u h = omega (arith, h, t)
    instr_few temps c t l I.SelfRef u h = tt
    instr_few temps c t l (I.StoreI n) u h = let v = (good.headings j k d).limits.1 in omega (arith, h, v)
    instr_few temps c t l (I.StoreT n) u h = omega (arith, h, t)
    instr_few temps c t l (I.Oper op) u h = tt
    instr_few temps c t l I.Pop u h = tt
    instr_few temps c t l (I.Branch a) u h = omega (arith, h, l)
    instr_few temps c t l I.Loop u h = tt
    instr_few temps c t l (I.Call m) u h = own_few m h.0
    instr_few temps c t l I.Ret u h = tt
    instr_few temps c t l (I.New n) u h = class_few n h
    instr_few temps c t l (I.Send m n) u h = let a = h.0 in let b = h.1 in let e = short.names.0 in (omega (arith, a, e), omega (arith, b))
    instr_few temps c t l (I.Async m n) u h = let a = h.0 in let b = h.1 in let e = short.names.0 in (omega (arith, a, e), omega (arith, b))
    instr_few temps c t l I.Write u h = tt
    instr_few temps c t l (I.WriteText s) u h = let e = short.names.0 in omega (arith, h, e)
    instr_few temps c t l (I.Answer ms) u h = all_own ms h
    instr_few temps c t l (I.Select alts) u h = alternatives_few c l alts h
    instr_few temps c t l I.Halt u h = tt
    instr_few temps c t l I.Post u h = tt

    its_class : slice_get f.unit.classes j ≡ Some k.code
    its_class = (class_parts f shaped j k d).0

    its_lists : ClassIsShort k.code
    its_lists = each_at ClassIsShort f.unit.classes j k.code short.classes.1 its_class

    method_few : (i : ℕ) (m : MethodCode) → slice_get k.code.methods i ≡ Some m → MethodHasNumbers m
    method_few i m e =
        let s = kinds_of_method k.code.methods k.kinds.methods i m (class_shaped f shaped j k d).1 e in
        let h = (good.headings j k d).methods i m s.0 e s.1 in
        let w = (good.codes j k d).methods i m s.0 e s.1 in
        let l = (each_at MethodIsShort k.code.methods i m its_lists.0.1 e).0 in
        let count = s.2 in
        let most = h.limits.1 in
        let params = h.limits.0 in
        let t : length s.0.temps ≤ 32 = omega (arith, count, most) in (
          named_few m.name.0 h.name,
          omega (arith, params),
          words_few _ m.frame_words m.code w t,
          each_from InstrHasNumbers m.code
              (λ at n g. instr_few (length s.0.temps) m.code t l n (j, k.code, Some i, at, its_class, ap (λ (z : Option MethodCode). slice_get (method_code z) at) e ∙ g) (w.exists at n g).0),
        )

    class_few_numbers : ClassHasNumbers k.code
    class_few_numbers =
        let w = (good.codes j k d).body in
        let z : 0 ≤ 32 = omega arith in (
          named_few k.code.name.0 (good.headings j k d).name,
          each_from MethodHasNumbers k.code.methods method_few,
          words_few _ k.code.body.frame_words k.code.body.code w z,
          each_from InstrHasNumbers k.code.body.code (λ at n g. instr_few 0 k.code.body.code z its_lists.1.0 n (j, k.code, None, at, its_class, g) (w.exists at n g).0),
        )

    method_kinds_few : (i : ℕ) (s : MethodKinds) → slice_get k.kinds.methods i ≡ Some s → MethodKindsHaveNumbers s
    method_kinds_few i s e =
        let m = method_of_kinds k.code.methods k.kinds.methods i s (class_shaped f shaped j k d).1 e in
        let h = ((good.headings j k d).methods i m.0 s m.1 e).kinds in
        (kinds_few s.temps h.0, result_few s.result h.1)

    class_kinds_few : ClassKindsHaveNumbers k.kinds
    class_kinds_few = (kinds_few k.kinds.vars (good.headings j k d).kinds, each_from MethodKindsHaveNumbers k.kinds.methods method_kinds_few)

  pub verified_writable : Each (λ t. Each (λ b. b < 256) t) f.unit.names → IsWritable f
  verified_writable bytes = short_is_writable f shaped short (record {
    names = bytes;
    classes = each_from ClassHasNumbers f.unit.classes (λ j k e. let d = class_there f shaped j k e in subst ClassHasNumbers d.2 (class_few_numbers j d.0 d.1));
    kinds = each_from ClassKindsHaveNumbers f.kinds.classes
        (λ j q e. let k = class_of_kinds f.unit.classes f.kinds.classes j q shaped e in class_kinds_few j (record { code = k.0; kinds = q }) (rw (k.1, e) refl));
  })
