-- The method and the arguments that a send requires of its destination.
use Rattle.std.proofs.Common.{◌≡◌, refl, sym, ap, subst, ◌∙◌, ℕ, zero, suc, ◌==◌, List, [], ◌∷◌, length, Option, Some, None}
use Rattle.std.specs.Prelude.{slice_get}
use Rattle.run_types.specs.declared.types.NameId.{NameId}
use Rattle.run_types.specs.declared.types.Value.{Value}
use Rattle.run_types.specs.declared.types.Value.TheVariants as V
use Rattle.run_types.specs.Sorts.{Sort, IntSort, BoolSort, ClassSort, NilSort, NoSort, BrokenSort}
use Rattle.run_types.proofs.Laws.{equal, same_some, given_by, required}
use Rattle.code_semantics.specs.declared.file.UnitFile.{UnitFile}
use Rattle.run_types.specs.Operands.{top, taken, dropped}
use Rattle.code_typing.specs.Sorts.{Stack, Declared, Signature, declared_named, signature_named, asked_of, pop_arguments, pop_sent}
use Rattle.compiler_correctness.specs.TypedCode.{Classes, IsOfSort, AreOfSorts, AreOfKinds}
use Rattle.compiler_correctness.proofs.Operands.{popped_arguments, popped_any, dropped_suc}

-- the class of a destination, and its method
pub record AsksClass (f : UnitFile) (t : Option Sort) (m : NameId) (n : ℕ) (s : Signature) : Type 0 where
  pub class : ℕ
  pub is_sort : t ≡ Some (ClassSort class)
  pub declared : Declared
  pub named : declared_named f (record { 0 = class }) ≡ Some declared
  pub method : signature_named declared m ≡ Some s
  pub count : length s.params ≡ n

pub asks_class : (f : UnitFile) (t : Option Sort) (m : NameId) (n : ℕ) (s : Signature) → asked_of f t m n ≡ Some s → AsksClass f t m n s
asks_class f None m n s e = absurd (let z : None ≡ Some s = e in cc)
asks_class f (Some IntSort) m n s e = absurd (let z : None ≡ Some s = e in cc)
asks_class f (Some BoolSort) m n s e = absurd (let z : None ≡ Some s = e in cc)
asks_class f (Some NilSort) m n s e = absurd (let z : None ≡ Some s = e in cc)
asks_class f (Some NoSort) m n s e = absurd (let z : None ≡ Some s = e in cc)
asks_class f (Some BrokenSort) m n s e = absurd (let z : None ≡ Some s = e in cc)
asks_class f (Some (ClassSort c)) m n s e =
    let a = given_by (declared_named f (record { 0 = c })) _ s e in
    let b = given_by (signature_named a.0 m) _ s a.2 in
    let r = required (length b.0.params == n) (Some b.0) s b.2 in
    let q = same_some r.1 in
    record {
      class = c;
      is_sort = refl;
      declared = a.0;
      named = a.1;
      method = b.1 ∙ ap Some q;
      count = ap (λ (z : Signature). length z.params) (sym q) ∙ equal (length b.0.params) n r.0;
    }

-- who is asked for a method, with arguments that fit
pub record Asks (f : UnitFile) (at : Classes) (b : ℕ) (m : NameId) (args : List Value) (s : Signature) : Type 0 where
  pub class : ℕ
  pub is_there : at b ≡ Some class
  pub declared : Declared
  pub named : declared_named f (record { 0 = class }) ≡ Some declared
  pub method : signature_named declared m ≡ Some s
  pub fitting : AreOfKinds at args s.params

module _ (at : Classes) where
  -- the operand under n others
  pub nth_operand : (n : ℕ) (vs : List Value) (ss : Stack) (t : Sort) → AreOfSorts at vs ss → slice_get ss n ≡ Some t → IsOfSort at (top (dropped n vs)) t
  nth_operand n vs [] t h e = absurd (let z : None ≡ Some t = e in cc)
  nth_operand n [] (s ∷ ss) t h e = absurd h
  nth_operand zero (v ∷ vs) (s ∷ ss) t h e = subst (IsOfSort at v) (same_some e) h.0
  nth_operand (suc n) (v ∷ vs) (s ∷ ss) t h e = nth_operand n vs ss t h.1 e

  -- the arguments of a send, and what stands under its destination
  pub sent_operands : (s : Signature) (n : ℕ) (vs : List Value) (ss r : Stack) → length s.params ≡ n → AreOfSorts at vs ss → pop_sent ss s ≡ Some r
      → AreOfKinds at (taken n vs []) s.params × AreOfSorts at (dropped (suc n) vs) r
  sent_operands s n vs ss r c h e =
      let a = given_by (pop_arguments s.params ss) _ r e in
      let p = popped_arguments at s.params vs ss a.0 h a.1 in
      let q = popped_any at (dropped (length s.params) vs) a.0 r p.1 a.2 in
      (subst (λ l. AreOfKinds at (taken l vs []) s.params) c p.0, subst (λ l. AreOfSorts at (dropped (suc l) vs) r) c (subst (λ w. AreOfSorts at w r) (sym (dropped_suc (length s.params) vs)) q))

  -- a destination that is an object's name
  pub asks_object : (f : UnitFile) (n : ℕ) (m : NameId) (s : Signature) (vs : List Value) (ss : Stack) (args : List Value) (b : ℕ) → AreOfSorts at vs ss
      → asked_of f (slice_get ss n) m n ≡ Some s → top (dropped n vs) ≡ V.Ref b → AreOfKinds at args s.params → Asks f at b m args s
  asks_object f n m s vs ss args b h e v a =
      let q = asks_class f (slice_get ss n) m n s e in
      let r = subst (λ w. IsOfSort at w (ClassSort q.class)) v (nth_operand n vs ss (ClassSort q.class) h q.is_sort) in
      record {
        class = q.class;
        is_there = r.1 ∙ ap Some (sym (ap class_of r.2));
        declared = q.declared;
        named = q.named;
        method = q.method;
        fitting = a;
      }
    where
      class_of : Sort → ℕ
      class_of (ClassSort c) = c
      class_of _ = 0
