-- The file of a program without class faults is short if its table of names is short.
-- An answer has at most as many names as its class has methods, and a select at most as many alternatives as the operand stack may have operands.
-- All other lists are within the limits of the language.
use Rattle.std.proofs.Common.{◌≡◌, refl, sym, ◌∙◌, subst, ℕ, suc, ◌+◌, ◌≤◌, ◌==◌, List, [], ◌∷◌, ◌++◌, length, map, Option, Some, None, is_some, Bool, true, false, not, ◌||◌, arith}
use Rattle.std.specs.Prelude.{if◌then◌else◌, nat_eq, slice_get}
use Rattle.std.specs.List.{AllByRecursion as Each, IsDistinct, list_any}
use Rattle.std.proofs.lemmas.Cmp.{nat_eq_equiv}
use Rattle.std.proofs.lemmas.Map.Made.{length-le_from_is_member}
use Rattle.std.proofs.lemmas.List.{length-map}
use Rattle.run_types.proofs.Laws.{neither}
use Rattle.text_scan.specs.Text.{Text}
use Rattle.run_types.specs.declared.types.Value.{Value}
use Rattle.run_types.specs.declared.types.Value.TheVariants as V
use Rattle.pool_syntax.specs.declared.tree.Named.{Named}
use Rattle.pool_syntax.specs.declared.tree.Var.{Var}
use Rattle.pool_syntax.specs.Terms as T
use Rattle.pool_syntax.specs.Terms.{Expression, Expressions, Statement, Statements, Alternatives, MethodTree, ClassTree, ProgramTree}
use Rattle.pool_syntax.specs.Classes.{named_method}
use Rattle.pool_grammar.specs.Grammatical.{IsGrammatical}
use Rattle.pool_syntax.specs.Typing.{Scope, own_method, names_faults, answer_faults, statement_faults, statements_faults, alternatives_faults, expression_faults, needs, value_needs, vars_faults, too_many, outcome_faults, behind_value, method_scope, method_tree_faults, class_scope, methods_faults, classes_faults, faults, contains, size}
use Rattle.run_types.specs.Sorts.{BoolSort}
use Rattle.code_semantics.specs.declared.unit.Instr.{Instr}
use Rattle.code_semantics.specs.declared.unit.Instr.TheVariants as I
use Rattle.code_semantics.specs.declared.unit.ClassCode.{ClassCode}
use Rattle.code_semantics.specs.Proper.{IsProper}
use Rattle.code_semantics.specs.Shaped.{IsListOf, IsOptionOf, IsShortList, AlternativeIsShort, InstrIsShort, MethodIsShort, ClassIsShort, MethodKindsAreShort, ClassKindsAreShort, IsShort}
use Rattle.pool_compile.specs.Code.{Numbering, name, push, load, store, number_of, expression_code, expressions_code, guards_code, statement_code, statements_code, alternatives_code, alternatives_at, answer_names, more, expression_words, guards_words, statement_words, statements_words, works_words, names_of, post_code, method_code_of, class_code, code}
use Rattle.pool_compile.specs.Small.{AreShortMethods, AreShort, AreSmallMethods, IsSmall}
use Rattle.pool_compile.proofs.Laws.{nil_left, nil_right, no_fault, more_left, more_right, program_small, written, class_parts, method_parts}
use Rattle.compiler_correctness.specs.DeclaredKinds.{method_kinds, class_kinds, file_of}

-- tests and lists

or_later : (a b : Bool) → b ≡ true → (a || b) ≡ true
or_later true b h = refl
or_later false b h = h

there : (a : Bool) → not a ≡ false → a ≡ true
there true h = refl
there false h = absurd (let z : true ≡ false = h in cc)

each_append : {X : Type 0} (P : X → Type 0) (xs ys : List X) → Each P xs → Each P ys → Each P (xs ++ ys)
each_append P [] ys a b = b
each_append P (x ∷ xs) ys a b = (a.0, each_append P xs ys a.1 b)

-- the names of an answer list are different methods of the class

named_there : (ms : List MethodTree) (n : ℕ) → is_some (named_method ms n) ≡ true → list_any (nat_eq n) (map (λ m. m.name.name.0) ms) ≡ true
named_there [] n h = absurd (let z : false ≡ true = h in cc)
named_there (m ∷ ms) n h = by (m.name.name.0 == n) refl (named_there ms n)
  where
    by : (b : Bool) → (m.name.name.0 == n) ≡ b → (is_some (named_method ms n) ≡ true → list_any (nat_eq n) (map (λ m. m.name.name.0) ms) ≡ true)
        → list_any (nat_eq n) (map (λ m. m.name.name.0) (m ∷ ms)) ≡ true
    by true e more = let q : nat_eq n m.name.name.0 ≡ true = nat_eq_equiv.symm n m.name.name.0 ∙ e in rw q refl
    by false e more = or_later (nat_eq n m.name.name.0) _ (more (rw e at h))

none_among : (n : ℕ) (before : List ℕ) → list_any (λ m. m == n) before ≡ false → Each (λ m. nat_eq n m ≡ false) before
none_among n [] h = tt
none_among n (m ∷ before) h = let a = neither (m == n) (list_any (λ m. m == n) before) h in (nat_eq_equiv.symm n m ∙ a.0, none_among n before a.1)

all_among : (ys before : List ℕ) → Each (λ m. list_any (nat_eq m) ys ≡ true) before → (q : ℕ) → list_any (nat_eq q) before ≡ true → list_any (nat_eq q) ys ≡ true
all_among ys [] h q e = absurd (let z : false ≡ true = e in cc)
all_among ys (m ∷ before) h q e = by (nat_eq q m) refl e (all_among ys before h.1 q)
  where
    by : (b : Bool) → nat_eq q m ≡ b → (b || list_any (nat_eq q) before) ≡ true → (list_any (nat_eq q) before ≡ true → list_any (nat_eq q) ys ≡ true) → list_any (nat_eq q) ys ≡ true
    by true s f more = let z : q ≡ m = grind (arith, s) in subst (λ (x : ℕ). list_any (nat_eq x) ys ≡ true) (sym z) h.0
    by false s f more = more f

module _ (g : Scope) (k : ClassTree) (own : g.own ≡ Some k) where
  own_there : (n : ℕ) → is_some (own_method g n) ≡ true → list_any (nat_eq n) (map (λ m. m.name.name.0) k.methods) ≡ true
  own_there n h = named_there k.methods n (rw own at h)

  few_names : (before : List ℕ) (ns : List Named) → IsDistinct nat_eq before → Each (λ m. list_any (nat_eq m) (map (λ m. m.name.name.0) k.methods) ≡ true) before
      → names_faults g before ns ≡ [] → length before + length ns ≤ length k.methods
  unfolding IsDistinct
  few_names before [] d a h =
      let l = length-le_from_is_member nat_eq_equiv before (map (λ m. m.name.name.0) k.methods) d (all_among _ before a) in
      let s = length-map k.methods (λ (m : MethodTree). m.name.name.0) in
      omega (arith, l, s)
  few_names before (n ∷ ns) d a h =
      let f = neither (not (is_some (own_method g n.name.0))) (list_any (λ m. m == n.name.0) before) (no_fault _ n.pos 11 (nil_left _ (names_faults g (n.name.0 ∷ before) ns) h)) in
      let r = few_names (n.name.0 ∷ before) ns (none_among n.name.0 before f.1, d) (own_there n.name.0 (there _ f.0), a) (nil_right _ (names_faults g (n.name.0 ∷ before) ns) h) in
      omega (arith, r)

left_within : (m n k : ℕ) → more m n ≤ k → m ≤ k
left_within m n k h = let l = more_left m n in omega (arith, l, h)

right_within : (m n k : ℕ) → more m n ≤ k → n ≤ k
right_within m n k h = let l = more_right m n in omega (arith, l, h)

abbrev AreShortInstrs : List Instr → Type 0
AreShortInstrs c = Each InstrIsShort c

append_short : (a b : List Instr) → AreShortInstrs a → AreShortInstrs b → AreShortInstrs (a ++ b)
append_short a b x y = each_append InstrIsShort a b x y

-- expressions have neither answer lists nor choices

module _ (num : Numbering) where
  push_short : (v : Value) → AreShortInstrs (push v ∷ [])
  push_short (V.Int z) = (tt, tt)
  push_short (V.Bool b) = (tt, tt)
  push_short (V.Ref n) = (tt, tt)
  push_short V.Nil = (tt, tt)

  load_short : (x : ℕ) → AreShortInstrs (load num x ∷ [])
  load_short x = by (contains num.temps x)
    where
      by : (b : Bool) → AreShortInstrs ((if b then I.LoadT (number_of num.temps x) else I.LoadI (number_of num.vars x)) ∷ [])
      by true = (tt, tt)
      by false = (tt, tt)

  store_short : (x : ℕ) → AreShortInstrs (store num x ∷ [])
  store_short x = by (contains num.temps x)
    where
      by : (b : Bool) → AreShortInstrs ((if b then I.StoreT (number_of num.temps x) else I.StoreI (number_of num.vars x)) ∷ [])
      by true = (tt, tt)
      by false = (tt, tt)

  mutual
    expression_short : (e : Expression) → AreShortInstrs (expression_code num e)
    expression_short (T.Literal v p) = push_short v
    expression_short (T.Me p) = (tt, tt)
    expression_short (T.Variable x p) = load_short x
    expression_short (T.Create c p) = (tt, tt)
    expression_short (T.Prefix op e p) = append_short (expression_code num e) (I.Oper op ∷ []) (expression_short e) (tt, tt)
    expression_short (T.Infix op l r p) =
        append_short (expression_code num l) (expression_code num r ++ I.Oper op ∷ []) (expression_short l)
        (append_short (expression_code num r) (I.Oper op ∷ []) (expression_short r) (tt, tt))
    expression_short (T.Call m es p) = append_short (expressions_code num es) (I.Call (name m) ∷ []) (expressions_short es) (tt, tt)
    expression_short (T.Send e m es p) =
        append_short (expression_code num e) (expressions_code num es ++ I.Send (name m) (size es) ∷ []) (expression_short e)
        (append_short (expressions_code num es) (I.Send (name m) (size es) ∷ []) (expressions_short es) (tt, tt))
    expression_short (T.Frame m t ss e qs) = tt
    expression_short (T.Wait b m) = tt

    expressions_short : (es : Expressions) → AreShortInstrs (expressions_code num es)
    expressions_short T.NoArgs = tt
    expressions_short (T.Arg e es) = append_short (expression_code num e) (expressions_code num es) (expression_short e) (expressions_short es)

  guards_short : (alts : Alternatives) → AreShortInstrs (guards_code num alts)
  guards_short T.NoAlts = tt
  guards_short (T.Alt e n ss alts) = append_short (expression_code num e) (guards_code num alts) (expression_short e) (guards_short alts)

  -- the guards of a choice stand on the operands at once
  few_alternatives : (alts : Alternatives) (at : ℕ) → length (alternatives_at num at alts) ≤ guards_words alts
  few_alternatives T.NoAlts at = omega arith
  few_alternatives (T.Alt e n ss alts) at =
      let r = few_alternatives alts (suc (at + length (statements_code num at ss))) in
      let m = more_right (expression_words e) (suc (guards_words alts)) in
      omega (arith, r, m)

  module _ (k : ClassTree) (many : length k.methods ≤ 64) (g : Scope) (own : g.own ≡ Some k) where
    names_short : (ns : List Named) → names_faults g [] ns ≡ [] → IsShortList (map (λ n. n.name) ns)
    unfolding IsDistinct
    names_short ns h =
        let l = few_names g k own [] ns tt tt h in
        let s = length-map ns (λ (n : Named). n.name) in
        omega (arith, l, s, many)

    answer_short : (o : Option (List Named)) → answer_faults g o ≡ [] → IsOptionOf IsShortList (answer_names o)
    answer_short None h = tt
    answer_short (Some ns) h = names_short ns h

    alternatives_short : (alts : Alternatives) (at i : ℕ) → alternatives_faults g i alts ≡ [] → Each AlternativeIsShort (alternatives_at num at alts)
    alternatives_short T.NoAlts at i h = tt
    alternatives_short (T.Alt e ns ss alts) at i h =
        let b = nil_right (needs g BoolSort e) _ (nil_right (expression_faults g i e) _ h) in
        let c = nil_right (answer_faults g ns) _ b in (
          answer_short ns (nil_left (answer_faults g ns) _ b),
          alternatives_short alts (suc (at + length (statements_code num at ss))) (i + 1) (nil_right (statements_faults g ss) _ c),
        )

    mutual
      statement_short : (st : Statement) (at : ℕ) → statement_faults g st ≡ [] → statement_words st ≤ 64 → AreShortInstrs (statement_code num at st)
      statement_short (T.Assign x p e) at h w = append_short (expression_code num e) (store num x ∷ []) (expression_short e) (store_short x)
      statement_short (T.Write e) at h w = append_short (expression_code num e) (I.Write ∷ []) (expression_short e) (tt, tt)
      statement_short (T.WriteText n) at h w = (tt, tt)
      statement_short (T.Do e) at h w = append_short (expression_code num e) (I.Pop ∷ []) (expression_short e) (tt, tt)
      statement_short (T.Async e m p es) at h w =
          append_short (expression_code num e) (expressions_code num es ++ I.Async (name m) (size es) ∷ []) (expression_short e)
          (append_short (expressions_code num es) (I.Async (name m) (size es) ∷ []) (expressions_short es) (tt, tt))
      statement_short (T.If e these those) at h w =
          let b = nil_right (needs g BoolSort e) _ (nil_right (expression_faults g g.held e) _ h) in
          let v = right_within (expression_words e) (more (statements_words these) (statements_words those)) 64 w in
          let yes = suc (at + length (expression_code num e)) in
          let one = statements_code num yes these in
          let no = suc (yes + length one) in
          let two = statements_code num no those in
          append_short (expression_code num e) (I.Branch no ∷ (one ++ I.Jump (no + length two) ∷ two)) (expression_short e) (
            tt,
            append_short one (I.Jump (no + length two) ∷ two)
                (statements_short these yes (nil_left (statements_faults g these) _ b) (left_within (statements_words these) (statements_words those) 64 v))
                (tt, statements_short those no (nil_right (statements_faults g these) _ b) (right_within (statements_words these) (statements_words those) 64 v)),
          )
      statement_short (T.While e ss) at h w =
          let b = nil_right (needs g BoolSort e) _ (nil_right (expression_faults g g.held e) _ h) in
          let go = suc (suc at + length (expression_code num e)) in
          let turn = statements_code num go ss in (
            tt,
            append_short (expression_code num e) (I.Branch (suc (go + length turn)) ∷ (turn ++ I.Jump at ∷ [])) (expression_short e)
                (tt, append_short turn (I.Jump at ∷ []) (statements_short ss go b (right_within (expression_words e) (statements_words ss) 64 w)) (tt, tt)),
          )
      statement_short (T.Answer ns) at h w = (names_short ns h, tt)
      statement_short (T.Select alts) at h w =
          let go = suc (at + length (guards_code num alts)) in
          let last = go + length (alternatives_code num go 0 alts) in
          let n = few_alternatives alts go in
          let l = left_within (guards_words alts) (works_words alts) 64 w in
          append_short (guards_code num alts) (I.Select (alternatives_at num go alts) ∷ alternatives_code num go last alts) (guards_short alts) (
            (omega (arith, n, l), alternatives_short alts go g.held h),
            works_short alts go last g.held h (right_within (guards_words alts) (works_words alts) 64 w),
          )
      statement_short (T.Serve m c t ss e qs) at h w = tt

      statements_short : (ss : Statements) (at : ℕ) → statements_faults g ss ≡ [] → statements_words ss ≤ 64 → AreShortInstrs (statements_code num at ss)
      statements_short T.Done at h w = tt
      statements_short (T.Then st ss) at h w =
          append_short (statement_code num at st) (statements_code num (at + length (statement_code num at st)) ss)
          (statement_short st at (nil_left (statement_faults g st) _ h) (left_within (statement_words st) (statements_words ss) 64 w))
          (statements_short ss (at + length (statement_code num at st)) (nil_right (statement_faults g st) _ h) (right_within (statement_words st) (statements_words ss) 64 w))

      works_short : (alts : Alternatives) (at end i : ℕ) → alternatives_faults g i alts ≡ [] → works_words alts ≤ 64 → AreShortInstrs (alternatives_code num at end alts)
      works_short T.NoAlts at end i h w = tt
      works_short (T.Alt e ns ss alts) at end i h w =
          let b = nil_right (needs g BoolSort e) _ (nil_right (expression_faults g i e) _ h) in
          let c = nil_right (answer_faults g ns) _ b in
          let work = statements_code num at ss in
          append_short work (I.Jump end ∷ alternatives_code num (suc (at + length work)) end alts)
          (statements_short ss at (nil_left (statements_faults g ss) _ c) (left_within (statements_words ss) (works_words alts) 64 w))
          (tt, works_short alts (suc (at + length work)) end (i + 1) (nil_right (statements_faults g ss) _ c) (right_within (statements_words ss) (works_words alts) 64 w))

    post_short : (qs : Statements) (at : ℕ) → statements_faults g qs ≡ [] → statements_words qs ≤ 64 → AreShortInstrs (post_code num at qs)
    post_short T.Done at h w = (tt, tt)
    post_short (T.Then st qs) at h w =
        (tt, append_short (statements_code num (suc at) (T.Then st qs)) (I.Ret ∷ []) (statements_short (T.Then st qs) (suc at) h w) (tt, tt))

-- methods and classes

module _ (k : ClassTree) (many : length k.methods ≤ 64) (g : Scope) (own : g.own ≡ Some k) where
  method_short : (m : MethodTree) → method_tree_faults g m ≡ [] → more (statements_words m.body) (more (expression_words m.value) (suc (statements_words m.post))) ≤ 64
      → AreShortInstrs (method_code_of (names_of k.vars) m).code
  method_short m h w =
      let temps = m.params ++ m.locals in
      let num : Numbering = record { temps = names_of temps; vars = names_of k.vars } in
      let inner = method_scope g m in
      let a = nil_right (outcome_faults g.program m.outcome m.outcome_pos) _ (nil_right (too_many 32 temps) _ (nil_right (too_many 8 m.params) _ (nil_right (vars_faults g.program 5 [] temps) _ h))) in
      let b = nil_right (value_needs inner (Some m) m.value) _ (nil_right (expression_faults inner 0 m.value) _ (nil_right (statements_faults inner m.body) _ a)) in
      let body = statements_code num 0 m.body in
      let value = expression_code num m.value in
      let end = 0 + length body + length value in
      let v = right_within (expression_words m.value) (suc (statements_words m.post)) 64 (right_within (statements_words m.body) (more (expression_words m.value) (suc (statements_words m.post))) 64 w) in
      append_short body (value ++ post_code num end m.post)
      (statements_short num k many inner own m.body 0 (nil_left (statements_faults inner m.body) _ a) (left_within (statements_words m.body) (more (expression_words m.value) (suc (statements_words m.post))) 64 w))
      (append_short value (post_code num end m.post) (expression_short num m.value) (post_short num k many (behind_value inner) own m.post end b (omega (arith, v))))

  methods_short : (before : List ℕ) (ms : List MethodTree) → methods_faults g before ms ≡ [] → AreSmallMethods ms → AreShortMethods (map (method_code_of (names_of k.vars)) ms)
      → Each MethodIsShort (map (method_code_of (names_of k.vars)) ms) × Each MethodKindsAreShort (map method_kinds ms)
  methods_short before [] h small short = (tt, tt)
  methods_short before (m ∷ ms) h small short =
      let a = method_parts g before m ms h in
      let rest = methods_short (m.name.name.0 ∷ before) ms a.rest small.1 short.1 in
      let s = length-map (m.params ++ m.locals) (λ (v : Var). v.kind) in
      let few = small.0.0 in
      (((short.0, method_short m a.method small.0.1), rest.0), (omega (arith, s, few), rest.1))

abbrev FewMethods : ProgramTree → Type 0
FewMethods ks = (j : ℕ) (c : ClassCode) → slice_get (code ks) j ≡ Some c → length c.methods ≤ 64

classes_short : (p : ProgramTree) (before : List ℕ) (ks : ProgramTree) → classes_faults p before ks ≡ [] → IsSmall ks → AreShort (code ks) → FewMethods ks
    → Each ClassIsShort (code ks) × Each ClassKindsAreShort (map class_kinds ks)
classes_short p before [] h small short few = (tt, tt)
classes_short p before (k ∷ ks) h small short few =
    let a = class_parts p before k ks h in
    let rest = classes_short p (k.name.name.0 ∷ before) ks a.rest small.1 short.1 (λ j c e. few (suc j) c e) in
    let l = few 0 (class_code k) refl in
    let n = length-map k.methods (method_code_of (names_of k.vars)) in
    let o = length-map k.methods method_kinds in
    let s = length-map k.vars (λ (v : Var). v.kind) in
    let many : length k.methods ≤ 64 = omega (arith, l, n) in
    let g = class_scope p k in
    let methods = methods_short k many g refl [] k.methods a.methods small.0.2 short.0.1 in
    let num : Numbering = record { temps = []; vars = names_of k.vars } in
    let body = append_short (statements_code num 0 k.body) (I.Halt ∷ []) (statements_short num k many g refl k.body 0 a.body small.0.1) (tt, tt) in
    let v = small.0.0 in (
      (((omega (arith, l), methods.0), (short.0.0, body)), rest.0),
      ((omega (arith, s, v), (omega (arith, o, many), methods.1)), rest.1),
    )

pub file_is_short : (names : List Text) (p : ProgramTree) → ∥ IsGrammatical p ∥₁ → faults p ≡ [] → IsProper (file_of names p).unit → AreShort (code p) → IsListOf IsShortList names
    → IsShort (file_of names p)
file_is_short names p m none proper short few =
    let each = classes_short p [] p none (program_small p none (written p m)) short (λ j c e. (proper.each j c e).limits.1) in
    let n = length-map p class_code in
    let q = length-map p class_kinds in
    let c = proper.classes.1 in
    record { names = few; classes = (omega (arith, c), each.0); kinds = (omega (arith, c, n, q), each.1) }
