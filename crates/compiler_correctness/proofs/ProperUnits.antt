-- The unit of a verified file is proper.
use Rattle.code_typing.proofs.Laws.{passes_below}
use Rattle.std.proofs.lemmas.Option.{slice_get_within}
use Rattle.std.proofs.Common.{◌≡◌, refl, sym, ap, subst, ◌∙◌, IsTrue, ℕ, zero, suc, ◌+◌, ◌-◌, ◌≤◌, ◌<◌, List, [], ◌∷◌, length, Option, Some, None, is_some, true, false, arith}
use Rattle.std.specs.Prelude.{slice_get, replicate}
use Rattle.run_types.specs.declared.types.NameId.{NameId}
use Rattle.run_types.specs.declared.types.Op.{Op}
use Rattle.run_types.specs.declared.types.Op.TheVariants as O
use Rattle.run_types.specs.declared.types.Kind.{Kind}
use Rattle.run_types.specs.declared.types.Kind.TheVariants as D
use Rattle.text_scan.specs.Keywords.{is_name_text}
use Rattle.run_types.specs.Sorts.{Sort, BoolSort, ClassSort, op_sort, operand_sort}
use Rattle.run_types.proofs.Laws.{same_some, given_by, required, there_at}
use Rattle.run_types.specs.Partial.{◌>>=◌}
use Rattle.code_semantics.specs.declared.unit.Instr.{Instr}
use Rattle.code_semantics.specs.declared.unit.Instr.TheVariants as I
use Rattle.code_semantics.specs.declared.unit.MethodCode.{MethodCode}
use Rattle.code_semantics.specs.declared.file.UnitFile.{UnitFile}
use Rattle.code_semantics.specs.declared.file.MethodKinds.{MethodKinds}
use Rattle.code_semantics.specs.Kinds.{arity}
use Rattle.code_semantics.specs.ReachedPlaces as P
use Rattle.code_semantics.specs.Proper.{IsProperCode, IsProperClass, IsProper}
use Rattle.code_semantics.specs.ReachedPlaces.{params_of, takes, leaves}
use Rattle.code_semantics.specs.Shaped.{IsShaped}
use Rattle.code_semantics.specs.Step.{Numbered, method_named}
use Rattle.code_semantics.proofs.Laws.{found_named}
use Rattle.code_typing.specs.Sorts.{Stack, Declared, Signature, declared_at, signature_named, kind_sort, result_sort, scope_by, value_by, fits_sort, has_value, is_alike, pop_fitting, pop_value, pop_any, pop_alike, pop_arguments, push_sort, pop_sent, pop_returned, asked_of, operated_sorts, left_by}
use Rattle.code_typing.specs.Verified.{ReachedBy, IsWellSorted, IsVerified}
use Rattle.compiler_correctness.proofs.Operands.{if_some, push_some}
use Rattle.compiler_correctness.proofs.ShapedKinds.{class_shaped, class_there, kinds_of_method}
use Rattle.compiler_correctness.proofs.SendDestination.{asks_class}
use Rattle.compiler_correctness.proofs.StepPreservation.{signature_is, length_take, length_replicate}

-- how many sorts are left

fitting_count : (need : Sort) (ss r : Stack) → pop_fitting need ss ≡ Some r → length ss ≡ suc (length r)
fitting_count need [] r e = absurd (let z : None ≡ Some r = e in cc)
fitting_count need (s ∷ ss) r e = ap (λ (q : Stack). suc (length q)) (if_some (fits_sort s need) ss r e).1

any_count : (ss r : Stack) → pop_any ss ≡ Some r → length ss ≡ suc (length r)
any_count [] r e = absurd (let z : None ≡ Some r = e in cc)
any_count (s ∷ ss) r e = ap (λ (q : Stack). suc (length q)) (same_some e)

value_count : (ss r : Stack) → pop_value ss ≡ Some r → length ss ≡ suc (length r)
value_count [] r e = absurd (let z : None ≡ Some r = e in cc)
value_count (s ∷ ss) r e = ap (λ (q : Stack). suc (length q)) (if_some (has_value s) ss r e).1

alike_count : (ss r : Stack) → pop_alike ss ≡ Some r → length ss ≡ suc (suc (length r))
alike_count [] r e = absurd (let z : None ≡ Some r = e in cc)
alike_count (t ∷ []) r e = absurd (let z : None ≡ Some r = e in cc)
alike_count (t ∷ s ∷ ss) r e = ap (λ (q : Stack). suc (suc (length q))) (if_some (is_alike s t) ss r e).1

arguments_count : (ks : List Kind) (ss r : Stack) → pop_arguments ks ss ≡ Some r → length ss ≡ length ks + length r
arguments_count [] ss r e = let s : length ss ≡ length r = ap (λ (q : Stack). length q) (same_some e) in omega (arith, s)
arguments_count (k ∷ ks) ss r e =
    let t = given_by (pop_arguments ks ss) (λ rest. pop_fitting (kind_sort k) rest) r e in
    let a = arguments_count ks ss t.0 t.1 in
    let b = fitting_count (kind_sort k) t.0 r t.2 in
    omega (arith, a, b)

returned_count : (q : Option Sort) (ss r : Stack) → pop_returned q ss ≡ Some r → (length ss ≡ 1) × (length r ≡ 0)
returned_count None ss r e = absurd (let z : None ≡ Some r = e in cc)
returned_count (Some need) [] r e = absurd (let z : None ≡ Some r = e in cc)
returned_count (Some need) (s ∷ []) r e = (refl, ap (λ (q : Stack). length q) (sym (if_some (fits_sort s need) [] r e).1))
returned_count (Some need) (s ∷ t ∷ ss) r e = absurd (let z : None ≡ Some r = e in cc)

sent_count : (ss r : Stack) (s : Signature) → pop_sent ss s ≡ Some r → length ss ≡ suc (length s.params + length r)
sent_count ss r s e =
    let t = given_by (pop_arguments s.params ss) (λ rest. pop_any rest) r e in
    let a = arguments_count s.params ss t.0 t.1 in
    let b = any_count t.0 r t.2 in
    omega (arith, a, b)

-- the stack before an instruction and the one after it
abbrev Counts : ℕ → ℕ → Stack → Stack → Type 0
Counts taken left ss r = (taken ≤ length ss) × (length r + taken ≡ length ss + left)

one_operand : (op : Op) (ss r : Stack) → push_sort (op_sort op) (pop_fitting (operand_sort op) ss) ≡ Some r → Counts 1 1 ss r
one_operand op ss r e =
    let t = push_some (op_sort op) (pop_fitting (operand_sort op) ss) r e in
    let a = fitting_count (operand_sort op) ss t.0 t.1 in
    let b : suc (length t.0) ≡ length r = ap (λ (q : Stack). length q) t.2 in
    (omega (arith, a), omega (arith, a, b))

two_operands : (op : Op) (ss r : Stack) → push_sort (op_sort op) (pop_fitting (operand_sort op) ss >>= λ rest. pop_fitting (operand_sort op) rest) ≡ Some r → Counts 2 1 ss r
two_operands op ss r e =
    let t = push_some (op_sort op) (pop_fitting (operand_sort op) ss >>= λ rest. pop_fitting (operand_sort op) rest) r e in
    let q = given_by (pop_fitting (operand_sort op) ss) (λ rest. pop_fitting (operand_sort op) rest) t.0 t.1 in
    let a = fitting_count (operand_sort op) ss q.0 q.1 in
    let b = fitting_count (operand_sort op) q.0 t.0 q.2 in
    let c : suc (length t.0) ≡ length r = ap (λ (q : Stack). length q) t.2 in
    (omega (arith, a, b), omega (arith, a, b, c))

alike_operands : (ss r : Stack) → push_sort BoolSort (pop_alike ss) ≡ Some r → Counts 2 1 ss r
alike_operands ss r e =
    let t = push_some BoolSort (pop_alike ss) r e in
    let a = alike_count ss t.0 t.1 in
    let b : suc (length t.0) ≡ length r = ap (λ (q : Stack). length q) t.2 in
    (omega (arith, a), omega (arith, a, b))

operator_counts : (op : Op) (ss r : Stack) → operated_sorts op ss ≡ Some r → Counts (arity op) 1 ss r
operator_counts O.Neg ss r e = one_operand O.Neg ss r e
operator_counts O.Not ss r e = one_operand O.Not ss r e
operator_counts O.Same ss r e = alike_operands ss r e
operator_counts O.Differs ss r e = alike_operands ss r e
operator_counts O.Add ss r e = two_operands O.Add ss r e
operator_counts O.Sub ss r e = two_operands O.Sub ss r e
operator_counts O.Mul ss r e = two_operands O.Mul ss r e
operator_counts O.Div ss r e = two_operands O.Div ss r e
operator_counts O.Rem ss r e = two_operands O.Rem ss r e
operator_counts O.Less ss r e = two_operands O.Less ss r e
operator_counts O.LessEq ss r e = two_operands O.LessEq ss r e
operator_counts O.More ss r e = two_operands O.More ss r e
operator_counts O.MoreEq ss r e = two_operands O.MoreEq ss r e
operator_counts O.And ss r e = two_operands O.And ss r e
operator_counts O.Or ss r e = two_operands O.Or ss r e

-- one more sort, or as many
one_more : (s : Sort) (ss r : Stack) → Some (s ∷ ss) ≡ Some r → Counts 0 1 ss r
one_more s ss r e = let b : suc (length ss) ≡ length r = ap (λ (q : Stack). length q) (same_some e) in (omega arith, omega (arith, b))

as_many : (ss r : Stack) → Some ss ≡ Some r → Counts 0 0 ss r
as_many ss r e = let b : length ss ≡ length r = ap (λ (q : Stack). length q) (same_some e) in (omega arith, omega (arith, b))

one_less : (ss r : Stack) → length ss ≡ suc (length r) → Counts 1 0 ss r
one_less ss r e = (omega (arith, e), omega (arith, e))

module _ (f : UnitFile) (shaped : IsShaped f) (good : IsVerified f) (j : ℕ) (k : Declared) (is_class : declared_at f j ≡ Some k) where
  call_counts : (m : NameId) (ss r : Stack) → (signature_named k m >>= λ s. push_sort (result_sort s.outcome) (pop_arguments s.params ss)) ≡ Some r
      → Counts (params_of (method_named (Some k.code) m)) 1 ss r
  call_counts m ss r e = by (method_named (Some k.code) m) refl
    where
      by : (o : Option Numbered) → method_named (Some k.code) m ≡ o → Counts (params_of (method_named (Some k.code) m)) 1 ss r
      by None q = absurd (let z : None ≡ Some r = rw q at e in cc)
      by (Some n) q =
          let s = given_by (signature_named k m) (λ s. push_sort (result_sort s.outcome) (pop_arguments s.params ss)) r e in
          let t = push_some (result_sort s.0.outcome) (pop_arguments s.0.params ss) r s.2 in
          let a = arguments_count s.0.params ss t.0 t.1 in
          let b : suc (length t.0) ≡ length r = ap (λ (q : Stack). length q) t.2 in
          let z = signature_is k m n s.0 q s.1 in
          let found = found_named k.code m n q in
          let d = kinds_of_method k.code.methods k.kinds.methods n.place n.code (class_shaped f shaped j k is_class).1 found in
          let h = ((good.headings j k is_class).methods n.place n.code z.0 found z.1).limits in
          let same : d.0 ≡ z.0 = same_some (sym d.1 ∙ z.1) in
          let long : n.code.params ≤ length d.0.temps = omega (arith, h.2, d.2) in
          let c : length s.0.params ≡ n.code.params =
          ap (λ (y : Signature). length y.params) (sym z.2) ∙ length_take n.code.params z.0.temps (subst (λ (y : MethodKinds). n.code.params ≤ length y.temps) same long) in
          subst (λ (o : Option Numbered). Counts (params_of o) 1 ss r) (sym q) (omega (arith, a, c), omega (arith, a, b, c))

  module _ (q : Option MethodKinds) where
    counts : (i : Instr) (ss r : Stack) → left_by (scope_by f k q) i ss ≡ Some r → Counts (takes (Some k.code) i) (leaves i) ss r
    counts (I.PushInt z) ss r e = one_more _ ss r e
    counts (I.PushBool b) ss r e = one_more _ ss r e
    counts I.PushNil ss r e = one_more _ ss r e
    counts (I.Jump a) ss r e = as_many ss r e
    counts (I.LoadI n) ss r e = let t = given_by (slice_get k.kinds.vars n) _ r e in one_more (kind_sort t.0) ss r t.2
    counts (I.LoadT n) ss r e = let t = given_by (slice_get (scope_by f k q).temps n) _ r e in one_more (kind_sort t.0) ss r t.2
    counts I.SelfRef ss r e = one_more _ ss r e
    counts (I.StoreI n) ss r e = let t = given_by (slice_get k.kinds.vars n) _ r e in one_less ss r (fitting_count (kind_sort t.0) ss r t.2)
    counts (I.StoreT n) ss r e = let t = given_by (slice_get (scope_by f k q).temps n) _ r e in one_less ss r (fitting_count (kind_sort t.0) ss r t.2)
    counts (I.Oper op) ss r e = operator_counts op ss r e
    counts I.Pop ss r e = one_less ss r (any_count ss r e)
    counts (I.Branch a) ss r e = one_less ss r (fitting_count BoolSort ss r e)
    counts I.Loop ss r e = as_many ss r e
    counts (I.Call m) ss r e = call_counts m ss r e
    counts I.Ret ss r e = let t = returned_count (value_by q) ss r e in (omega (arith, t.0), omega (arith, t.0, t.1))
    counts (I.New c) ss r e = let t = required (is_some _) (Some (ClassSort c.0 ∷ ss)) r e in one_more _ ss r t.1
    counts (I.Send m n) ss r e =
        let s = given_by (asked_of f (slice_get ss n) m n) (λ s. push_sort (result_sort s.outcome) (pop_sent ss s)) r e in
        let t = push_some (result_sort s.0.outcome) (pop_sent ss s.0) r s.2 in
        let a = sent_count ss t.0 s.0 t.1 in
        let b : suc (length t.0) ≡ length r = ap (λ (q : Stack). length q) t.2 in
        let c = (asks_class f (slice_get ss n) m n s.0 s.1).count in
        (omega (arith, a, c), omega (arith, a, b, c))
    counts (I.Async m n) ss r e =
        let s = given_by (asked_of f (slice_get ss n) m n) (λ s. pop_sent ss s) r e in
        let a = sent_count ss r s.0 s.2 in
        let c = (asks_class f (slice_get ss n) m n s.0 s.1).count in
        (omega (arith, a, c), omega (arith, a, c))
    counts I.Write ss r e = one_less ss r (value_count ss r e)
    counts (I.WriteText s) ss r e = as_many ss r e
    counts (I.Answer ms) ss r e = as_many ss r e
    counts (I.Select alts) ss r e =
        let a = arguments_count (replicate (length alts) D.Bool) ss r e in
        let c = length_replicate (length alts) D.Bool in
        (omega (arith, a, c), omega (arith, a, c))
    counts I.Halt ss r e = as_many ss r e
    counts I.Post ss r e =
        let a = given_by (pop_returned (value_by q) ss) (λ rest. Some ss) r e in
        let t = returned_count (value_by q) ss a.0 a.1 in
        let same : length ss ≡ length r = ap (λ (z : Stack). length z) (same_some a.2) in (omega (arith, t.0), omega (arith, t.0, same))

    module _ (words : ℕ) (c : List Instr) (w : IsWellSorted (scope_by f k q) words c) where
      -- a place that is reached with so many operands is reached with a stack of as many sorts
      stack_there : (n at held : ℕ) → P.ReachedBy (Some k.code) c n at held → (s : Stack) × ReachedBy (scope_by f k q) c n at s × (length s ≡ held)
      stack_there zero at held h = ([], (h.0, refl), sym h.1)
      stack_there (suc n) at held h = go (stack_there n h.0 h.1 h.3)
        where
          go : (s : Stack) × ReachedBy (scope_by f k q) c n h.0 s × (length s ≡ h.1) → (s : Stack) × ReachedBy (scope_by f k q) c (suc n) at s × (length s ≡ held)
          go s =
              let t = w.taken h.0 s.0 (n, s.1) in
              let same : t.2.0 ≡ h.2 = same_some (sym t.2.1 ∙ h.4) in
              let l = there (left_by (scope_by f k q) h.2 s.0) (subst (λ i. IsTrue (is_some (left_by (scope_by f k q) i s.0))) same t.2.2) in
              let k = counts h.2 s.0 l.0 l.1 in
              (l.0, (h.0, s.0, h.2, s.1, t.0, h.4, h.5, l.1), omega (arith, k.1, s.2, h.6))
            where
              there : {A : Type 0} (x : Option A) → IsTrue (is_some x) → (a : A) × (x ≡ Some a)
              there None z = absurd (let y : false ≡ true = z in cc)
              there (Some a) z = (a, refl)

      proper_of : IsProperCode f.unit (Some k.code) (length (scope_by f k q).temps) c
      proper_of = record {
        exists = λ at i e. (w.exists at i e).0;
        one_count = λ at m n g h.
            let a = stack_there g.0 at m g.1 in
            let b = stack_there h.0 at n h.1 in
            let s = w.one_stack at a.0 b.0 (g.0, a.1) (h.0, b.1) in
            sym a.2 ∙ ap (λ (z : Stack). length z) s ∙ b.2;
        suffices = λ at held h.
            let a = stack_there h.0 at held h.1 in
            let t = w.taken at a.0 (h.0, a.1) in
            let n = enough t.2.0 a.0 t.2.2 in
            (omega (arith, t.0, a.2), t.1, (t.2.0, t.2.1, omega (arith, n, a.2)));
        front = let t = w.taken 0 [] (0, (refl, refl)) in let h = slice_get_within c 0 t.2.0 t.2.1 in omega (arith, h);
        no_circle = w.no_circle;
      }
        where
          enough : (i : Instr) (s : Stack) → IsTrue (is_some (left_by (scope_by f k q) i s)) → takes (Some k.code) i ≤ length s
          enough i s h = by (left_by (scope_by f k q) i s) refl
            where
              by : (x : Option Stack) → left_by (scope_by f k q) i s ≡ x → takes (Some k.code) i ≤ length s
              by None e = absurd (let z : false ≡ true = subst (λ x. IsTrue (is_some x)) e h in cc)
              by (Some r) e = (counts i s r e).0

  proper_class : IsProperClass f.unit k.code
  proper_class =
      let h = good.headings j k is_class in
      let w = good.codes j k is_class in
      record {
        name = passes_below is_name_text f.unit.names k.code.name.0 h.name;
        limits = (h.limits.1, h.limits.2);
        body = proper_of None k.code.body.frame_words k.code.body.code w.body;
        no_ret = w.body.ends.1;
        methods = λ i m e. method i m e (kinds_of_method k.code.methods k.kinds.methods i m (class_shaped f shaped j k is_class).1 e);
      }
    where
      method : (i : ℕ) (m : MethodCode) → slice_get k.code.methods i ≡ Some m → (s : MethodKinds) × (slice_get k.kinds.methods i ≡ Some s) × (m.temps ≡ length s.temps)
          → (m.name.0 < length f.unit.names) × (m.params ≤ 8) × (m.temps ≤ 32) × (m.params ≤ m.temps) × IsProperCode f.unit (Some k.code) m.temps m.code
      method i m e s =
          let h = (good.headings j k is_class).methods i m s.0 e s.1 in (
            passes_below is_name_text f.unit.names m.name.0 h.name,
            h.limits.0,
            h.limits.1,
            h.limits.2,
            subst (λ n. IsProperCode f.unit (Some k.code) n m.code) (sym s.2) (proper_of (Some s.0) m.frame_words m.code ((good.codes j k is_class).methods i m s.0 e s.1)),
          )

-- the unit of a verified file is proper
pub verified_is_proper : (f : UnitFile) → IsShaped f → IsVerified f → IsProper f.unit
verified_is_proper f shaped good = record {
  classes = (good.some, few);
  each = λ j k e. let d = class_there f shaped j k e in subst (IsProperClass f.unit) d.2 (proper_class f shaped good j d.0 d.1);
}
  where
    few : length f.unit.classes ≤ 256
    few =
        let last = there_at f.unit.classes (length f.unit.classes - 1) (let s = good.some in omega (arith, s)) in
        let d = class_there f shaped (length f.unit.classes - 1) last.0 last.1 in
        let h = (good.headings (length f.unit.classes - 1) d.0 d.1).limits.0 in
        omega (arith, h)
