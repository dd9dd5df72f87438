-- Each name in the code of a program without class faults exists.
use Rattle.std.proofs.Common.{◌≡◌, refl, sym, ap, ◌∙◌, subst, IsTrue, ℕ, zero, suc, ◌+◌, ◌==◌, ◌<◌, ◌≤◌, List, [], ◌∷◌, ◌++◌, length, Option, Some, None, is_some, Bool, true, false, ◌&&◌, ◌||◌, inl, inr, arith}
use Rattle.std.specs.Prelude.{slice_get, map, not, if◌then◌else◌}
use Rattle.std.specs.List.{list_any}
use Rattle.std.proofs.lemmas.Option.{slice_get_cases}
use Rattle.run_types.specs.declared.types.Value.TheVariants as V
use Rattle.run_types.specs.declared.types.Op.{Op}
use Rattle.run_types.specs.declared.types.Op.TheVariants as O
use Rattle.run_types.specs.declared.types.Kind.{Kind}
use Rattle.pool_syntax.specs.declared.tree.Named.{Named}
use Rattle.pool_syntax.specs.declared.tree.Var.{Var}
use Rattle.text_scan.specs.Text.{Text}
use Rattle.pool_syntax.specs.Terms as T
use Rattle.pool_syntax.specs.Terms.{Expression, Expressions, Statement, Statements, Alternatives, MethodTree, ClassTree, ProgramTree}
use Rattle.pool_syntax.specs.Classes.{class_of, named_method}
use Rattle.text_scan.specs.Keywords.{text_passes, is_name}
use Rattle.pool_syntax.specs.Spelled.{are_answer_names, is_spelled_expression, are_spelled_expressions, is_spelled_statement, are_spelled_statements, are_spelled_alternatives}
use Rattle.run_types.specs.Sorts.{Sort, IntSort, BoolSort, ClassSort, NilSort, NoSort, BrokenSort, op_sort}
use Rattle.pool_syntax.specs.Typing.{Scope, kind_sort, outcome_sort, method_sort, var_sort, sort_of, var_of, vars_of_class, methods_of, methods_of_class, own_method, params_of, size, contains, is_broken_name, fault_if, limit_faults, needs, needs_any, position, method_faults, destination_faults, names_faults, answer_faults, expression_faults, arguments_faults, statement_faults, statements_faults}
use Rattle.pool_syntax.specs.Typing.{alternatives_faults}
use Rattle.pool_relation.proofs.Laws.{is_broken, AllKnown, OutcomeKnown, MethodKnown, Known}
use Rattle.code_semantics.specs.declared.unit.Instr.{Instr}
use Rattle.code_semantics.specs.declared.unit.Instr.TheVariants as I
use Rattle.code_semantics.specs.declared.unit.AltCode.{AltCode}
use Rattle.code_semantics.specs.declared.unit.ClassCode.{ClassCode}
use Rattle.code_semantics.specs.declared.unit.Unit.{Unit as Code}
use Rattle.code_semantics.specs.ReachedPlaces.{AreOwn, AnswerOwn, Exists, AltsExist}
use Rattle.code_semantics.specs.Step.{method_named, class_from}
use Rattle.pool_compile.specs.Code.{Numbering, name, push, load, store, number_of, names_of, answer_names, class_code, code, expression_code, expressions_code, guards_code, statement_code, statements_code, alternatives_code, alternatives_at}
use Rattle.pool_compile.proofs.PartCounts.{nil_left, nil_right, no_fault, two, three}
use Rattle.pool_compile.proofs.Heights.{Led, Fine}
use Rattle.pool_compile.proofs.NewObject.{class_found}
use Rattle.pool_compile.proofs.Methods.{code_found}

abbrev pub AltsOwn : Option ClassCode → List AltCode → Type 0
AltsOwn k [] = Unit {0}
AltsOwn k (a ∷ alts) = AnswerOwn k a.answer × AltsOwn k alts

-- what an instruction names but places; whether a method may end there
abbrev pub Fits : Type 0 → Code → Option ClassCode → ℕ → Instr → Type 0
Fits ret u k temps (I.Jump a) = Unit {0}
Fits ret u k temps (I.Branch a) = Unit {0}
Fits ret u k temps I.Ret = ret
Fits ret u k temps (I.Select alts) = AltsOwn k alts
Fits ret u k temps i = Exists u k temps [] i

alts_exist : (k : Option ClassCode) (c : List Instr) (q : ℕ) (i : Instr) (alts : List AltCode) → Led k c q i (map (λ a. a.at) alts) → AltsOwn k alts → AltsExist k c alts
alts_exist k c q i [] l a = tt {0}
alts_exist k c q i (x ∷ alts) l a = (a.0, l.1, alts_exist k c q i alts l.2 a.1)

-- places are there where the instruction is fine
pub exists_of : (ret : Type 0) (u : Code) (k : Option ClassCode) (temps : ℕ) (c : List Instr) (q : ℕ) (i : Instr) → Fine k c q i → Fits ret u k temps i → Exists u k temps c i
exists_of ret u k temps c q (I.Jump a) f x = f.2.1
exists_of ret u k temps c q (I.Branch a) f x = f.2.2.1
exists_of ret u k temps c q (I.Select alts) f x = alts_exist k c q (I.Select alts) alts f.2 x
exists_of ret u k temps c q I.Ret f x = tt {0}
exists_of ret u None temps c q (I.LoadI n) f x = x
exists_of ret u (Some k) temps c q (I.LoadI n) f x = x
exists_of ret u None temps c q (I.StoreI n) f x = x
exists_of ret u (Some k) temps c q (I.StoreI n) f x = x
exists_of ret u k temps c q (I.PushInt z) f x = x
exists_of ret u k temps c q (I.PushBool b) f x = x
exists_of ret u k temps c q I.PushNil f x = x
exists_of ret u k temps c q (I.LoadT n) f x = x
exists_of ret u k temps c q I.SelfRef f x = x
exists_of ret u k temps c q (I.StoreT n) f x = x
exists_of ret u k temps c q (I.Oper op) f x = x
exists_of ret u k temps c q I.Pop f x = x
exists_of ret u k temps c q I.Loop f x = x
exists_of ret u k temps c q (I.Call m) f x = x
exists_of ret u k temps c q (I.New n) f x = x
exists_of ret u k temps c q (I.Send m n) f x = x
exists_of ret u k temps c q (I.Async m n) f x = x
exists_of ret u k temps c q I.Write f x = x
exists_of ret u k temps c q (I.WriteText s) f x = x
exists_of ret u k temps c q (I.Answer ns) f x = x
exists_of ret u k temps c q I.Halt f x = x
exists_of ret u k temps c q I.Post f x = x

abbrev pub AllFit : Type 0 → Code → Option ClassCode → ℕ → List Instr → Type 0
AllFit ret u k temps [] = Unit {0}
AllFit ret u k temps (i ∷ is) = Fits ret u k temps i × AllFit ret u k temps is

pub fit_append : (ret : Type 0) (u : Code) (k : Option ClassCode) (temps : ℕ) (a b : List Instr) → AllFit ret u k temps a → AllFit ret u k temps b → AllFit ret u k temps (a ++ b)
fit_append ret u k temps [] b x y = y
fit_append ret u k temps (i ∷ a) b x y = (x.0, fit_append ret u k temps a b x.1 y)

pub fit_at : (ret : Type 0) (u : Code) (k : Option ClassCode) (temps : ℕ) (l : List Instr) (j : ℕ) (i : Instr) → AllFit ret u k temps l → slice_get l j ≡ Some i → Fits ret u k temps i
fit_at ret u k temps [] j i x e = absurd (grind (arith, e))
fit_at ret u k temps (d ∷ l) zero i x e = let f : d ≡ i = grind (arith, e) in subst (Fits ret u k temps) f x.0
fit_at ret u k temps (d ∷ l) (suc j) i x e = fit_at ret u k temps l j i x.1 e

-- a text that passes a test is there
pub text_there : (test : Text → Bool) (names : List Text) (n : ℕ) → text_passes test (slice_get names n) ≡ true → n < length names
text_there test names n h = elim (slice_get_cases names n).1 [ inl f ↦ f.1 | inr f ↦ absurd (let e : text_passes test (slice_get names n) ≡ false = ap (text_passes test) f.1 in cc) ]

-- a declared name has a number
var_there : (vs : List Var) (x : ℕ) → is_some (var_of vs x) ≡ contains (names_of vs) x
var_there [] x = refl
var_there (v ∷ vs) x = by (v.name.0 == x) refl (var_there vs x)
  where
    by : (b : Bool) → (v.name.0 == x) ≡ b → is_some (var_of vs x) ≡ contains (names_of vs) x → is_some (var_of (v ∷ vs) x) ≡ contains (names_of (v ∷ vs)) x
    by true e more = rw e refl
    by false e more = rw e more

number_there : (vs : List Var) (x : ℕ) → contains (names_of vs) x ≡ true → number_of (names_of vs) x < length vs
number_there [] x h = absurd (grind (arith, h))
number_there (v ∷ vs) x h = by (v.name.0 == x) refl (number_there vs x)
  where
    by : (b : Bool) → (v.name.0 == x) ≡ b → (contains (names_of vs) x ≡ true → number_of (names_of vs) x < length vs) → number_of (names_of (v ∷ vs)) x < length (v ∷ vs)
    by true e more = rw e (omega arith)
    by false e more = let m = more (rw e at h) in rw e (omega (arith, m))

or_true : (a b : Bool) → not (a || b) ≡ false → (a ≡ true → ⊥) → b ≡ true
or_true true b h n = absurd (n refl)
or_true false true h n = refl
or_true false false h n = absurd (grind (arith, h))

own_there : (vars : List ℕ) (kt : ClassTree) (m : ℕ) → is_some (named_method kt.methods m) ≡ true → IsTrue (is_some (method_named (Some (class_code kt)) (name m)))
own_there vars kt m h = by (named_method kt.methods m) refl h
  where
    by : (o : Option MethodTree) → named_method kt.methods m ≡ o → is_some o ≡ true → IsTrue (is_some (method_named (Some (class_code kt)) (name m)))
    by None e q = absurd (grind (arith, q))
    by (Some mt) e q = let c = code_found (names_of kt.vars) kt.methods 0 m mt e in rw (c.1) refl

class_there : (p : ProgramTree) (u : Code) (c : ℕ) → u.classes ≡ code p → is_some (class_of p c) ≡ true → IsTrue (is_some (class_from 0 u.classes (name c)))
class_there p u c same h = by (class_of p c) refl h
  where
    by : (o : Option ClassTree) → class_of p c ≡ o → is_some o ≡ true → IsTrue (is_some (class_from 0 u.classes (name c)))
    by None e q = absurd (grind (arith, q))
    by (Some kt) e q = let f = class_found p 0 c kt e in subst (λ ks. IsTrue (is_some (class_from 0 ks (name c)))) (sym same) (rw (f.1) refl)

method_is : (o : Option MethodTree) (n at : ℕ) → method_faults o n at ≡ [] → (mt : MethodTree) × (o ≡ Some mt) × (length mt.params ≡ n)
method_is None n at f = absurd (grind (arith, f))
method_is (Some mt) n at f =
    let q : not (length mt.params == n) ≡ false = no_fault (not (length mt.params == n)) at 8 f in
    (mt, refl, grind (arith, q))

pub op_whole : (op : Op) → is_broken (op_sort op) ≡ false
op_whole O.Add = refl
op_whole O.Sub = refl
op_whole O.Mul = refl
op_whole O.Div = refl
op_whole O.Rem = refl
op_whole O.Neg = refl
op_whole _ = refl

outcome_whole : (p : ProgramTree) (o : Option Kind) → OutcomeKnown p o → is_broken (outcome_sort p o) ≡ false
outcome_whole p None k = refl
outcome_whole p (Some q) k = k

method_whole : (p : ProgramTree) (m : Option MethodTree) (n at : ℕ) → MethodKnown p m → method_faults m n at ≡ [] → is_broken (method_sort p m) ≡ false
method_whole p None n at k f = absurd (grind (arith, f))
method_whole p (Some m) n at k f = outcome_whole p m.outcome k.2

found_whole : (p : ProgramTree) (vs : List Var) (x : ℕ) (v : Var) → AllKnown p vs → var_of vs x ≡ Some v → is_broken (kind_sort p v.kind) ≡ false
found_whole p [] x v k e = absurd (grind (arith, e))
found_whole p (w ∷ vs) x v k e = by (w.name.0 == x) refl (found_whole p vs x v k.1)
  where
    by : (b : Bool) → (w.name.0 == x) ≡ b → (var_of vs x ≡ Some v → is_broken (kind_sort p v.kind) ≡ false) → is_broken (kind_sort p v.kind) ≡ false
    by true q more =
        let is : Some w ≡ Some v = rw q at e in
        let same : w ≡ v = cc in
        ap (λ y. is_broken (kind_sort p y.kind)) (sym same) ∙ k.0
    by false q more = more (rw q at e)

name_whole : (p : ProgramTree) (ts vs : List Var) (x : ℕ) → AllKnown p ts → AllKnown p vs → not (is_some (var_of ts x) || is_some (var_of vs x)) ≡ false
    → is_broken (var_sort p (var_of ts x) (var_of vs x)) ≡ false
name_whole p ts vs x k l h = by (var_of ts x) (var_of vs x) refl refl h
  where
    by : (a b : Option Var) → var_of ts x ≡ a → var_of vs x ≡ b → not (is_some a || is_some b) ≡ false → is_broken (var_sort p a b) ≡ false
    by (Some v) b e f q = found_whole p ts x v k e
    by None (Some v) e f q = found_whole p vs x v l f
    by None None e f q = absurd (grind (arith, q))

-- a place in a program whose kinds are known
pub record Ground (g : Scope) : Type 0 where
  pub own : Known g.program g.own
  pub temps : AllKnown g.program g.temps
  pub all : (c : ℕ) → Known g.program (class_of g.program c)
  pub written : g.under_way ≡ false
  pub few : (c m : ℕ) (mt : MethodTree) → named_method (methods_of g.program c) m ≡ Some mt → length mt.params ≤ 8

-- the class and the method of a destination
sent_to : (g : Scope) (s : Sort) (m n at to : ℕ) → g.under_way ≡ false → is_broken s ≡ false → destination_faults g s m n at to ≡ []
    → (c : ℕ) × (mt : MethodTree) × (s ≡ ClassSort c) × (named_method (methods_of g.program c) m ≡ Some mt) × (length mt.params ≡ n)
sent_to g (ClassSort c) m n at to w b f = let i = method_is (named_method (methods_of g.program c) m) n at f in (c, i.0, refl, i.1, i.2)
sent_to g BrokenSort m n at to w b f = absurd (grind (arith, b))
sent_to g NoSort m n at to w b f = absurd (grind (arith, f))
sent_to g NilSort m n at to w b f = let q : not g.under_way ≡ false = no_fault (not g.under_way) to 9 f in absurd (grind (arith, q, w))
sent_to g IntSort m n at to w b f = absurd (grind (arith, f))
sent_to g BoolSort m n at to w b f = absurd (grind (arith, f))

module _ (names : List Text) (g : Scope) (ground : Ground g) where
  -- without faults no sort is broken
  whole : (e : Expression) (h : ℕ) → is_spelled_expression names e ≡ true → expression_faults g h e ≡ [] → is_broken (sort_of g e) ≡ false
  whole (T.Literal (V.Int z) p) h s f = refl
  whole (T.Literal (V.Bool b) p) h s f = refl
  whole (T.Literal (V.Ref n) p) h s f = absurd (grind (arith, s))
  whole (T.Literal V.Nil p) h s f = refl
  whole (T.Me p) h s f = refl
  whole (T.Variable x p) h s f =
      name_whole g.program g.temps (vars_of_class g.own) x ground.temps ground.own.vars (no_fault (is_broken_name g x) p 6 (nil_right (limit_faults h p) _ f))
  whole (T.Create c p) h s f =
      let q : not (is_some (class_of g.program c)) ≡ false = no_fault (not (is_some (class_of g.program c))) p 2 (nil_right (limit_faults h p) _ f) in
      let i : is_some (class_of g.program c) ≡ true = grind (arith, q) in
      rw i refl
  whole (T.Prefix op e p) h s f = op_whole op
  whole (T.Infix op l r p) h s f = op_whole op
  whole (T.Call m es p) h s f =
      method_whole g.program (own_method g m) (size es) p (ground.own.methods m) (nil_left (method_faults (own_method g m) (size es) p) _ (nil_right (limit_faults h p) _ f))
  whole (T.Send e m es p) h s f =
      let t = three (is_spelled_expression names e) (is_name names m) (are_spelled_expressions names es) s in
      let r = nil_right (limit_faults h p) _ f in
      let q = nil_left (destination_faults g (sort_of g e) m (size es) p (position e)) _ (nil_right (expression_faults g h e) _ r) in
      let d = sent_to g (sort_of g e) m (size es) p (position e) ground.written (whole e h t.0 (nil_left (expression_faults g h e) _ r)) q in
      rw (d.2, d.3) (outcome_whole g.program d.1.outcome (let k : MethodKnown g.program (Some d.1) = subst (MethodKnown g.program) d.3 ((ground.all d.0).methods m) in k.2))
  whole (T.Frame m t ss e qs) h s f = absurd (grind (arith, s))
  whole (T.Wait b m) h s f = absurd (grind (arith, s))

  -- a send has at most 8 arguments
  few_sent : (e : Expression) (h m n at : ℕ) → is_spelled_expression names e ≡ true → expression_faults g h e ≡ [] → destination_faults g (sort_of g e) m n at (position e) ≡ [] → n ≤ 8
  few_sent e h m n at s f q =
      let d = sent_to g (sort_of g e) m n at (position e) ground.written (whole e h s f) q in
      let l = ground.few d.0 m d.1 d.3 in
      omega (arith, l, d.4)

  module _ (u : Code) (kt : ClassTree) (ret : Type 0) (same : u.classes ≡ code g.program) (texts : u.names ≡ names) (own : g.own ≡ Some kt) where
    abbrev num : Numbering
    num = record { temps = names_of g.temps; vars = names_of kt.vars }

    abbrev Fit : List Instr → Type 0
    Fit l = AllFit ret u (Some (class_code kt)) (length g.temps) l

    both : (a b : List Instr) → Fit a → Fit b → Fit (a ++ b)
    both a b x y = fit_append ret u (Some (class_code kt)) (length g.temps) a b x y

    known : (n : ℕ) → n < length names → n < length u.names
    known n h = subst (λ l. n < length l) (sym texts) h

    declared : (x p n : ℕ) → fault_if (is_broken_name g x) p n ≡ [] → not (is_some (var_of g.temps x) || is_some (var_of kt.vars x)) ≡ false
    declared x p n f =
        subst (λ o. not (is_some (var_of g.temps x) || is_some (var_of (vars_of_class o) x)) ≡ false) own (no_fault (is_broken_name g x) p n f)

    vars_length : (vs : List Var) → length (map (λ (v : Var). v.name.0) vs) ≡ length vs
    vars_length [] = refl
    vars_length (v ∷ vs) = ap suc (vars_length vs)

    load_fits : (x p n : ℕ) → fault_if (is_broken_name g x) p n ≡ [] → Fit (load num x ∷ [])
    load_fits x p n f = by (contains num.temps x) refl
      where
        by : (b : Bool) → contains num.temps x ≡ b → Fit ((if b then I.LoadT (number_of num.temps x) else I.LoadI (number_of num.vars x)) ∷ [])
        by true e = (number_there g.temps x e, tt {0})
        by false e =
            let q = or_true (is_some (var_of g.temps x)) (is_some (var_of kt.vars x)) (declared x p n f) (λ i. absurd (let j = sym (var_there g.temps x) ∙ i in grind (arith, j, e))) in
            (number_there kt.vars x (sym (var_there kt.vars x) ∙ q), tt {0})

    store_fits : (x p n : ℕ) → fault_if (is_broken_name g x) p n ≡ [] → Fit (store num x ∷ [])
    store_fits x p n f = by (contains num.temps x) refl
      where
        by : (b : Bool) → contains num.temps x ≡ b → Fit ((if b then I.StoreT (number_of num.temps x) else I.StoreI (number_of num.vars x)) ∷ [])
        by true e = (number_there g.temps x e, tt {0})
        by false e =
            let q = or_true (is_some (var_of g.temps x)) (is_some (var_of kt.vars x)) (declared x p n f) (λ i. absurd (let j = sym (var_there g.temps x) ∙ i in grind (arith, j, e))) in
            (number_there kt.vars x (sym (var_there kt.vars x) ∙ q), tt {0})

    push_fits : (v : _) → Fit (push v ∷ [])
    push_fits (V.Int z) = (tt {0}, tt {0})
    push_fits (V.Bool b) = (tt {0}, tt {0})
    push_fits _ = (tt {0}, tt {0})

    own_fits : (m : ℕ) → is_some (own_method g m) ≡ true → AreOwn (Some (class_code kt)) (name m ∷ [])
    own_fits m h = (own_there num.vars kt m (subst (λ o. is_some (named_method (methods_of_class o) m) ≡ true) own h), tt {0})

    mutual
      pub expression_fits : (e : Expression) (h : ℕ) → is_spelled_expression names e ≡ true → expression_faults g h e ≡ [] → Fit (expression_code num e)
      expression_fits (T.Literal v p) h s f = push_fits v
      expression_fits (T.Me p) h s f = (tt {0}, tt {0})
      expression_fits (T.Variable x p) h s f = load_fits x p 6 (nil_right (limit_faults h p) _ f)
      expression_fits (T.Create c p) h s f =
          let q : not (is_some (class_of g.program c)) ≡ false = no_fault (not (is_some (class_of g.program c))) p 2 (nil_right (limit_faults h p) _ f) in
          let i : is_some (class_of g.program c) ≡ true = grind (arith, q) in
          (class_there g.program u c same i, tt {0})
      expression_fits (T.Prefix op e p) h s f =
          both (expression_code num e) (I.Oper op ∷ []) (expression_fits e h s (nil_left (expression_faults g h e) _ (nil_right (limit_faults h p) _ f))) (tt {0}, tt {0})
      expression_fits (T.Infix op l r p) h s f =
          let t = two (is_spelled_expression names l) (is_spelled_expression names r) s in
          let a = nil_right (limit_faults h p) _ f in
          let b = nil_right (expression_faults g h l) _ a in
          both (expression_code num l) (expression_code num r ++ I.Oper op ∷ []) (expression_fits l h t.0 (nil_left (expression_faults g h l) _ a))
          (both (expression_code num r) (I.Oper op ∷ []) (expression_fits r (h + 1) t.1 (nil_left (expression_faults g (h + 1) r) _ b)) (tt {0}, tt {0}))
      expression_fits (T.Call m es p) h s f =
          let t = two (is_name names m) (are_spelled_expressions names es) s in
          let a = nil_right (limit_faults h p) _ f in
          let i = method_is (own_method g m) (size es) p (nil_left (method_faults (own_method g m) (size es) p) _ a) in
          both (expressions_code num es) (I.Call (name m) ∷ []) (expressions_fit (params_of (own_method g m)) es h t.1 (nil_right (method_faults (own_method g m) (size es) p) _ a))
          (own_fits m (rw (i.1) refl), tt {0})
      expression_fits (T.Send e m es p) h s f =
          let t = three (is_spelled_expression names e) (is_name names m) (are_spelled_expressions names es) s in
          let a = nil_right (limit_faults h p) _ f in
          let x = nil_left (expression_faults g h e) _ a in
          let b = nil_right (expression_faults g h e) _ a in
          let d = nil_left (destination_faults g (sort_of g e) m (size es) p (position e)) _ b in
          both (expression_code num e) (expressions_code num es ++ I.Send (name m) (size es) ∷ []) (expression_fits e h t.0 x)
          (both (expressions_code num es) (I.Send (name m) (size es) ∷ [])
          (expressions_fit _ es (h + 1) t.2 (nil_right (destination_faults g (sort_of g e) m (size es) p (position e)) _ b))
          ((known m (text_there _ names m t.1), few_sent e h m (size es) p t.0 x d), tt {0}))
      expression_fits (T.Frame m t ss e qs) h s f = tt {0}
      expression_fits (T.Wait b m) h s f = tt {0}

      expressions_fit : (vs : List Var) (es : Expressions) (h : ℕ) → are_spelled_expressions names es ≡ true → arguments_faults g h vs es ≡ [] → Fit (expressions_code num es)
      expressions_fit vs T.NoArgs h s f = tt {0}
      expressions_fit [] (T.Arg e es) h s f =
          let t = two (is_spelled_expression names e) (are_spelled_expressions names es) s in
          let r = nil_right (needs_any g e) _ (nil_right (expression_faults g h e) _ f) in
          both (expression_code num e) (expressions_code num es) (expression_fits e h t.0 (nil_left (expression_faults g h e) _ f)) (expressions_fit [] es (h + 1) t.1 r)
      expressions_fit (v ∷ vs) (T.Arg e es) h s f =
          let t = two (is_spelled_expression names e) (are_spelled_expressions names es) s in
          let r = nil_right (needs g (kind_sort g.program v.kind) e) _ (nil_right (expression_faults g h e) _ f) in
          both (expression_code num e) (expressions_code num es) (expression_fits e h t.0 (nil_left (expression_faults g h e) _ f)) (expressions_fit vs es (h + 1) t.1 r)

    names_own : (before : List ℕ) (ns : List Named) → names_faults g before ns ≡ [] → AreOwn (Some (class_code kt)) (map (λ n. n.name) ns)
    names_own before [] f = tt {0}
    names_own before (n ∷ ns) f =
        let b = not (is_some (own_method g n.name.0)) || list_any (λ m. m == n.name.0) before in
        let q : b ≡ false = no_fault b n.pos 11 (nil_left (fault_if b n.pos 11) _ f) in
        let i : is_some (own_method g n.name.0) ≡ true = grind (arith, q) in
        ((own_fits n.name.0 i).0, names_own (n.name.0 ∷ before) ns (nil_right (fault_if b n.pos 11) _ f))

    answer_own : (ns : Option (List Named)) → answer_faults g ns ≡ [] → AnswerOwn (Some (class_code kt)) (answer_names ns)
    answer_own None f = tt {0}
    answer_own (Some ns) f = names_own [] ns f

    guards_fit : (alts : Alternatives) (i : ℕ) → are_spelled_alternatives names alts ≡ true → alternatives_faults g i alts ≡ [] → Fit (guards_code num alts)
    guards_fit T.NoAlts i s f = tt {0}
    guards_fit (T.Alt e ns ss alts) i s f =
        let t1 = two (is_spelled_expression names e && are_answer_names names ns && are_spelled_statements names ss) (are_spelled_alternatives names alts) s in
        let t = three (is_spelled_expression names e) (are_answer_names names ns) (are_spelled_statements names ss) t1.0 in
        let r = nil_right (statements_faults g ss) _ (nil_right (answer_faults g ns) _ (nil_right (needs g BoolSort e) _ (nil_right (expression_faults g i e) _ f))) in
        both (expression_code num e) (guards_code num alts) (expression_fits e i t.0 (nil_left (expression_faults g i e) _ f)) (guards_fit alts (i + 1) t1.1 r)

    targets_own : (alts : Alternatives) (i at : ℕ) → alternatives_faults g i alts ≡ [] → AltsOwn (Some (class_code kt)) (alternatives_at num at alts)
    targets_own T.NoAlts i at f = tt {0}
    targets_own (T.Alt e ns ss alts) i at f =
        let r = nil_right (needs g BoolSort e) _ (nil_right (expression_faults g i e) _ f) in (
          answer_own ns (nil_left (answer_faults g ns) _ r),
          targets_own alts (i + 1) _ (nil_right (statements_faults g ss) _ (nil_right (answer_faults g ns) _ r)),
        )

    mutual
      statement_fits : (st : Statement) (at : ℕ) → is_spelled_statement names st ≡ true → statement_faults g st ≡ [] → Fit (statement_code num at st)
      statement_fits (T.Assign x p e) at s f =
          let t = two (is_name names x) (is_spelled_expression names e) s in
          let r = nil_right (fault_if (is_broken_name g x) p 6) _ f in
          both (expression_code num e) (store num x ∷ []) (expression_fits e g.held t.1 (nil_left (expression_faults g g.held e) _ r)) (store_fits x p 6 (nil_left (fault_if (is_broken_name g x) p 6) _ f))
      statement_fits (T.Write e) at s f = both (expression_code num e) (I.Write ∷ []) (expression_fits e g.held s (nil_left (expression_faults g g.held e) _ f)) (tt {0}, tt {0})
      statement_fits (T.WriteText n) at s f = (known n (text_there _ names n s), tt {0})
      statement_fits (T.Do e) at s f = both (expression_code num e) (I.Pop ∷ []) (expression_fits e g.held s f) (tt {0}, tt {0})
      statement_fits (T.Async e m p es) at s f =
          let t = three (is_spelled_expression names e) (is_name names m) (are_spelled_expressions names es) s in
          let x = nil_left (expression_faults g g.held e) _ f in
          let b = nil_right (expression_faults g g.held e) _ f in
          let d = nil_left (destination_faults g (sort_of g e) m (size es) p (position e)) _ b in
          both (expression_code num e) (expressions_code num es ++ I.Async (name m) (size es) ∷ []) (expression_fits e g.held t.0 x)
          (both (expressions_code num es) (I.Async (name m) (size es) ∷ [])
          (expressions_fit _ es (g.held + 1) t.2 (nil_right (destination_faults g (sort_of g e) m (size es) p (position e)) _ b))
          ((known m (text_there _ names m t.1), few_sent e g.held m (size es) p t.0 x d), tt {0}))
      statement_fits (T.If e these those) at s f =
          let t = three (is_spelled_expression names e) (are_spelled_statements names these) (are_spelled_statements names those) s in
          let r = nil_right (needs g BoolSort e) _ (nil_right (expression_faults g g.held e) _ f) in
          let yes = suc (at + length (expression_code num e)) in
          let first = statements_code num yes these in
          let no = suc (yes + length first) in
          let second = statements_code num no those in
          both (expression_code num e) (I.Branch no ∷ (first ++ I.Jump (no + length second) ∷ second)) (expression_fits e g.held t.0 (nil_left (expression_faults g g.held e) _ f)) (
            tt {0},
            both first (I.Jump (no + length second) ∷ second) (statements_fit these yes t.1 (nil_left (statements_faults g these) _ r))
                (tt {0}, statements_fit those no t.2 (nil_right (statements_faults g these) _ r)),
          )
      statement_fits (T.While e ss) at s f =
          let t = two (is_spelled_expression names e) (are_spelled_statements names ss) s in
          let r = nil_right (needs g BoolSort e) _ (nil_right (expression_faults g g.held e) _ f) in
          let go = suc (suc at + length (expression_code num e)) in
          let turn = statements_code num go ss in (
            tt {0},
            both (expression_code num e) (I.Branch (suc (go + length turn)) ∷ (turn ++ I.Jump at ∷ [])) (expression_fits e g.held t.0 (nil_left (expression_faults g g.held e) _ f))
                (tt {0}, both turn (I.Jump at ∷ []) (statements_fit ss go t.1 r) (tt {0}, tt {0})),
          )
      statement_fits (T.Answer ns) at s f = (names_own [] ns f, tt {0})
      statement_fits (T.Select alts) at s f =
          let go = suc (at + length (guards_code num alts)) in
          let last = go + length (alternatives_code num go 0 alts) in
          both (guards_code num alts) (I.Select (alternatives_at num go alts) ∷ alternatives_code num go last alts) (guards_fit alts g.held s f)
          (targets_own alts g.held go f, works_fit alts g.held go last s f)
      statement_fits (T.Serve m c t ss e qs) at s f = tt {0}

      pub statements_fit : (ss : Statements) (at : ℕ) → are_spelled_statements names ss ≡ true → statements_faults g ss ≡ [] → Fit (statements_code num at ss)
      statements_fit T.Done at s f = tt {0}
      statements_fit (T.Then st ss) at s f =
          let t = two (is_spelled_statement names st) (are_spelled_statements names ss) s in
          both (statement_code num at st) (statements_code num (at + length (statement_code num at st)) ss) (statement_fits st at t.0 (nil_left (statement_faults g st) _ f))
          (statements_fit ss _ t.1 (nil_right (statement_faults g st) _ f))

      works_fit : (alts : Alternatives) (i at last : ℕ) → are_spelled_alternatives names alts ≡ true → alternatives_faults g i alts ≡ [] → Fit (alternatives_code num at last alts)
      works_fit T.NoAlts i at last s f = tt {0}
      works_fit (T.Alt e ns ss alts) i at last s f =
          let t1 = two (is_spelled_expression names e && are_answer_names names ns && are_spelled_statements names ss) (are_spelled_alternatives names alts) s in
          let t = three (is_spelled_expression names e) (are_answer_names names ns) (are_spelled_statements names ss) t1.0 in
          let r = nil_right (answer_faults g ns) _ (nil_right (needs g BoolSort e) _ (nil_right (expression_faults g i e) _ f)) in
          let w = statements_code num at ss in
          both w (I.Jump last ∷ alternatives_code num (suc (at + length w)) last alts) (statements_fit ss at t.2 (nil_left (statements_faults g ss) _ r))
          (tt {0}, works_fit alts (i + 1) _ last t1.1 (nil_right (statements_faults g ss) _ r))
