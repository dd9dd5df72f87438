-- The classes and methods of a verified file have names of the
-- language, its strings are strings, and its integers have 64 bits.
use Rattle.std.proofs.Common.{◌≡◌, ◌∙◌, refl, sym, ap, subst, IsTrue, ℕ, ℤ, pos, negsuc, zero, suc, List, [], ◌∷◌, length, Option, Some, None, is_some, true, false, arith}
use Rattle.std.specs.Prelude.{slice_get, FitsSigned}
use Rattle.std.specs.Int.{w64}
use Rattle.std.specs.List.{AllByRecursion as Each}
use Rattle.std.proofs.lemmas.Bool.Decides.{nat_tests}
use Rattle.text_scan.specs.Keywords.{is_name}
use Rattle.run_types.specs.Values.{is_in_range}
use Rattle.code_semantics.specs.declared.unit.Instr.{Instr}
use Rattle.code_semantics.specs.declared.unit.Instr.TheVariants as I
use Rattle.code_semantics.specs.declared.unit.MethodCode.{MethodCode}
use Rattle.code_semantics.specs.declared.unit.ClassCode.{ClassCode}
use Rattle.code_semantics.specs.declared.file.UnitFile.{UnitFile}
use Rattle.code_semantics.specs.declared.file.ClassKinds.{ClassKinds}
use Rattle.code_semantics.specs.declared.file.MethodKinds.{MethodKinds}
use Rattle.code_semantics.specs.Frames.{code_of, method_code}
use Rattle.code_semantics.specs.Shaped.{AreShapedMethods, ClassIsWritable, InstrIsNumbered, IsShaped, IsWritable, MethodIsWritable}
use Rattle.code_semantics.specs.Pairs.{pairs}
use Rattle.code_semantics.specs.Step.{Numbered, class_from, method_named}
use Rattle.mesh_semantics.specs.Act.{id}
use Rattle.run_types.proofs.Laws.{same_some, given_by}
use Rattle.code_semantics.proofs.Laws.{found_named}
use Rattle.mesh_of_code.specs.MadeValues.{HasInstr}
use Rattle.mesh_of_code.specs.CodeInvariant.{method_number}
use Rattle.mesh_of_code.proofs.Laws.{number_of_named}
use Rattle.code_typing.specs.Sorts.{Declared, Signature, declared_at, scope_by, signature_named}
use Rattle.code_typing.specs.Verified.{IsVerified, IsWellSorted}
use Rattle.compiler_correctness.proofs.Laws.{class_from_is, class_shaped, class_there, kinds_of_class, kinds_of_method, named_reads, string_reads}
use Rattle.run_record.specs.Readable.{IsNamed, IsString}
use Rattle.compiler_correctness.specs.SpelledUnit.{IsSpelledUnit}

module _ (f : UnitFile) (shaped : IsShaped f) (good : IsVerified f) where
  -- an instruction of well-sorted code
  pub record IsSorted (i : Instr) : Type 0 where
    pub class : Declared
    pub kinds : Option MethodKinds
    pub words : ℕ
    pub code : List Instr
    pub at : ℕ
    pub sorted : IsWellSorted (scope_by f class kinds) words code
    pub there : slice_get code at ≡ Some i

  sorted : (i : Instr) → HasInstr f.unit i → IsSorted i
  sorted i (j, k, m, at, e, g) = by m g
    where
      d : (d : Declared) × (declared_at f j ≡ Some d) × (d.code ≡ k)
      d = class_there f shaped j k e

      by : (m : Option ℕ) → slice_get (code_of (Some k) m) at ≡ Some i → IsSorted i
      by None g = record {
        class = d.0;
        kinds = None;
        words = d.0.code.body.frame_words;
        code = d.0.code.body.code;
        at = at;
        sorted = (good.codes j d.0 d.1).body;
        there = ap (λ (c : ClassCode). slice_get c.body.code at) d.2 ∙ g;
      }
      by (Some n) g = on (slice_get k.methods n) refl g
        where
          on : (z : Option MethodCode) → slice_get k.methods n ≡ z → slice_get (method_code z) at ≡ Some i → IsSorted i
          on None q r = absurd (let z : None ≡ Some i = r in cc)
          on (Some c) q r =
              let there = ap (λ (x : ClassCode). slice_get x.methods n) d.2 ∙ q in
              let s = kinds_of_method d.0.code.methods d.0.kinds.methods n c (class_shaped f shaped j d.0 d.1).1 there in
              record {
                class = d.0;
                kinds = Some s.0;
                words = c.frame_words;
                code = c.code;
                at = at;
                sorted = (good.codes j d.0 d.1).methods n c s.0 there s.1;
                there = r;
              }

  pub class_named : (n : ℕ) → IsTrue (is_some (class_from 0 f.unit.classes (id n))) → is_name f.unit.names n ≡ true
  class_named n h = by (class_from 0 f.unit.classes (id n)) refl h
    where
      by : (o : Option ℕ) → class_from 0 f.unit.classes (id n) ≡ o → IsTrue (is_some o) → is_name f.unit.names n ≡ true
      by None e t = absurd (let z : false ≡ true = t in cc)
      by (Some j) e t =
          let c = class_from_is 0 (id n) f.unit.classes j e in
          let d = class_there f shaped c.0 c.1 c.3 in
          let name = (good.headings c.0 d.0 d.1).name in
          subst (λ (m : ℕ). is_name f.unit.names m ≡ true) (ap (λ (k : ClassCode). k.name.0) d.2 ∙ c.4) name

  class : (n : ℕ) → HasInstr f.unit (I.New (id n)) → IsNamed f.unit.names (id n)
  class n t = let s = sorted (I.New (id n)) t in named_reads f.unit.names n (class_named n (s.sorted.exists s.at (I.New (id n)) s.there).0)

  -- a method of a class
  pub method_is_name : (j : ℕ) (k : Declared) → declared_at f j ≡ Some k → (m : ℕ) (r : Numbered) → method_named (Some k.code) (id m) ≡ Some r → is_name f.unit.names m ≡ true
  method_is_name j k d m r e =
      let there = found_named k.code (id m) r e in
      let q = kinds_of_method k.code.methods k.kinds.methods r.place r.code (class_shaped f shaped j k d).1 there in
      let name = ((good.headings j k d).methods r.place r.code q.0 there q.1).name in
      let same : r.code.name.0 ≡ m = ap method_number (sym there) ∙ number_of_named (Some k.code) m r e in
      subst (λ (n : ℕ). is_name f.unit.names n ≡ true) same name

  pub method_named_so : (j : ℕ) (k : Declared) → declared_at f j ≡ Some k → (m : ℕ) (s : Signature) → signature_named k (id m) ≡ Some s → IsNamed f.unit.names (id m)
  method_named_so j k d m s e =
      let r = given_by (method_named (Some k.code) (id m)) _ s e in named_reads f.unit.names m (method_is_name j k d m r.0 r.1)

  string : (n : ℕ) → HasInstr f.unit (I.WriteText (id n)) → IsString f.unit.names (id n)
  string n t = let s = sorted (I.WriteText (id n)) t in string_reads f.unit.names n (s.sorted.exists s.at (I.WriteText (id n)) s.there).1

-- integers

pub each_at : {X : Type 0} (P : X → Type 0) (xs : List X) (n : ℕ) (x : X) → Each P xs → slice_get xs n ≡ Some x → P x
each_at P [] n x h e = absurd (let z : None ≡ Some x = e in cc)
each_at P (y ∷ xs) zero x h e = subst P (same_some e) h.0
each_at P (y ∷ xs) (suc n) x h e = each_at P xs n x h.1 e

pair_at : {X Y : Type 0} (xs : List X) (ys : List Y) (n : ℕ) (x : X) (y : Y) → slice_get xs n ≡ Some x → slice_get ys n ≡ Some y → slice_get (pairs xs ys) n ≡ Some (x, y)
pair_at [] ys n x y e g = absurd (let z : None ≡ Some x = e in cc)
pair_at (a ∷ xs) [] n x y e g = absurd (let z : None ≡ Some y = g in cc)
pair_at (a ∷ xs) (b ∷ ys) zero x y e g = let p = same_some e in let q = same_some g in cc
pair_at (a ∷ xs) (b ∷ ys) (suc n) x y e g = pair_at xs ys n x y e g

fits_range : (z : ℤ) → FitsSigned w64 z → is_in_range z ≡ true
fits_range (pos n) h = grind (arith, nat_tests, h)
fits_range (negsuc n) h = grind (arith, nat_tests, h)

module _ (f : UnitFile) (shaped : IsShaped f) (written : IsWritable f) where
  numbered : (i : Instr) → HasInstr f.unit i → InstrIsNumbered i
  numbered i (j, k, m, at, e, g) = by m g
    where
      q : (q : ClassKinds) × (slice_get f.kinds.classes j ≡ Some q) × (k.vars ≡ length q.vars) × AreShapedMethods k.methods q.methods
      q = kinds_of_class f.unit.classes f.kinds.classes j k shaped e

      class : ClassIsWritable (k, q.0)
      class = each_at ClassIsWritable (pairs f.unit.classes f.kinds.classes) j (k, q.0) written.classes.1 (pair_at f.unit.classes f.kinds.classes j k q.0 e q.1)

      by : (m : Option ℕ) → slice_get (code_of (Some k) m) at ≡ Some i → InstrIsNumbered i
      by None g = each_at InstrIsNumbered k.body.code at i class.5.1.1 g
      by (Some n) g = on (slice_get k.methods n) refl g
        where
          on : (z : Option MethodCode) → slice_get k.methods n ≡ z → slice_get (method_code z) at ≡ Some i → InstrIsNumbered i
          on None r h = absurd (let z : None ≡ Some i = h in cc)
          on (Some c) r h =
              let s = kinds_of_method k.methods q.0.methods n c q.3 r in
              let method = each_at MethodIsWritable (pairs k.methods q.0.methods) n (c, s.0) class.4.1 (pair_at k.methods q.0.methods n c s.0 r s.1) in
              each_at InstrIsNumbered c.code at i method.5.1.1 h

-- code of a verified file is spelled
pub verified_spelled : (f : UnitFile) → IsShaped f → IsVerified f → IsWritable f → IsSpelledUnit f.unit
verified_spelled f shaped good written = record {
  classes = class f shaped good;
  strings = string f shaped good;
  numbers = λ z t. fits_range z (numbered f shaped written (I.PushInt z) t);
}
