-- The code of an expression without class faults leaves one more operand, of its sort; the code of statements leaves the operands below it, at most one.
-- Also the greatest depth of their operand stack.
use Rattle.std.proofs.Common.{◌≡◌, ◌⊎◌, inl, inr, refl, sym, ap, subst, ◌∙◌, IsTrue, ℕ, zero, suc, ◌+◌, ◌==◌, ◌<◌, ◌≤◌, List, [], ◌∷◌, ◌++◌, length, Option, Some, None, is_some, Bool, true, false, not, ◌&&◌, ◌||◌, arith, length-append}
use Rattle.std.specs.Prelude.{slice_get, map, replicate, nat_le, if◌then◌else◌}
use Rattle.pool_compile.proofs.Laws.{op_whole, Has, front, back, works_length, count}
use Rattle.text_scan.specs.Text.{Text}
use Rattle.run_types.specs.declared.types.Value.{Value}
use Rattle.run_types.specs.declared.types.Value.TheVariants as V
use Rattle.run_types.specs.declared.types.Op.{Op}
use Rattle.run_types.specs.declared.types.Op.TheVariants as O
use Rattle.pool_syntax.specs.declared.tree.Var.{Var}
use Rattle.pool_syntax.specs.Terms as T
use Rattle.pool_syntax.specs.Terms.{Expression, Expressions, Statement, Statements, Alternatives, MethodTree, ClassTree, ProgramTree}
use Rattle.pool_syntax.specs.Classes.{class_of, named_method}
use Rattle.run_types.specs.Values.{is_prefix}
use Rattle.pool_syntax.specs.Typing as Typing
use Rattle.run_types.specs.Sorts.{Sort, IntSort, BoolSort, ClassSort, NilSort, NoSort, BrokenSort, op_sort, operand_sort}
use Rattle.pool_syntax.specs.Typing.{Scope, class_scope, sort_of, is_comparable, var_of, is_broken_name, name_sort, own_method, params_of, sent_method, methods_of, size, contains}
use Rattle.pool_relation.specs.Typed.{has_room}
use Rattle.pool_relation.proofs.Laws.{is_broken, Nothing, TypedExpression, TypedStatements, AllKnown, OutcomeKnown, MethodKnown, Known, Holds, past, has_no_sort, fits_need, fit_operands, takes, is_destination, TypedArguments, TypedStatement, TypedAlternatives}
use Rattle.run_types.proofs.Laws.{first, second, equal, equals, same_some}
use Rattle.run_types.specs.Partial.{◌>>=◌, ◌>>◌, require}
use Rattle.code_semantics.specs.declared.unit.Instr.{Instr}
use Rattle.code_semantics.specs.declared.unit.Instr.TheVariants as I
use Rattle.code_semantics.specs.declared.file.MethodKinds.{MethodKinds}
use Rattle.code_semantics.specs.declared.unit.AltCode.{AltCode}
use Rattle.run_types.specs.declared.types.Kind.TheVariants as K
use Rattle.pool_compile.specs.Code.{more, expression_words, expressions_words, guards_words, statement_words, statements_words, works_words, Numbering, name, push, load, store, number_of, names_of, class_code, expression_code, expressions_code, guards_code, statement_code, statements_code, alternatives_code, alternatives_at}
use Rattle.code_semantics.specs.ReachedPlaces.{nexts, IsAmong}
use Rattle.compiler_correctness.proofs.OperandDepth.{more_is, Comes, comes_stack, comes_next, AtMost, AllAtMost, more_at_most, join_at_most, AllCome, join_come, Met, Span, span_nil, span_seq, span_one, span_tail}
use Rattle.code_typing.specs.Sorts.{Stack, CodeScope, kind_sort, result_sort, temps_by, scope_by, has_value, fits_sort, is_alike, pop_fitting, pop_alike, pop_value, pop_arguments, pop_any, pop_sent, push_sort, asked_of, operated_sorts, is_comparison, left_by}
use Rattle.compiler_correctness.specs.DeclaredKinds.{kinds_of, file_of}
use Rattle.compiler_correctness.proofs.Stacks.{S, Led, AllFine, join, after_one, Good, good_seq, good_one, good_nil, good_as}
use Rattle.compiler_correctness.proofs.DeclarationLookup.{class_from_there, declared_of, signature_of_tree, declared_found, signature_found, var_found, var_missing, known_sort, known_outcome}

-- each select has an alternative
abbrev pub is_some_alternative : Alternatives → Bool
is_some_alternative T.NoAlts = false
is_some_alternative (T.Alt e n ss alts) = true

abbrev mutual
  pub has_choices : Statement → Bool
  has_choices (T.If e these those) = have_choices these && have_choices those
  has_choices (T.While e ss) = have_choices ss
  has_choices (T.Select alts) = is_some_alternative alts && works_have_choices alts
  has_choices _ = true

  pub have_choices : Statements → Bool
  have_choices T.Done = true
  have_choices (T.Then st ss) = has_choices st && have_choices ss

  pub works_have_choices : Alternatives → Bool
  works_have_choices T.NoAlts = true
  works_have_choices (T.Alt e n ss alts) = have_choices ss && works_have_choices alts

both_true : (a b : Bool) → IsTrue (a && b) → IsTrue a × IsTrue b
both_true a b h = (first a b h, second a b h)

-- nothing is under way in a part
past_nothing : (b : Bool) → past b Nothing ≡ Nothing
past_nothing true = refl
past_nothing false = refl

-- the tests of the class checker and of the verifier agree on sorts that are not broken
pub fits_of_need : (s need : Sort) → is_broken s ≡ false → is_broken need ≡ false → IsTrue (fits_need s need) → fits_sort s need ≡ true
unfolding fits_need has_no_sort
fits_of_need NilSort need a b h = refl
fits_of_need BrokenSort need a b h = absurd (let z : true ≡ false = a in cc)
fits_of_need NoSort need a b h = absurd (let z : false ≡ true = h in cc)
fits_of_need IntSort IntSort a b h = refl
fits_of_need BoolSort BoolSort a b h = refl
fits_of_need (ClassSort c) (ClassSort d) a b h = grind (arith, h)
fits_of_need s BrokenSort a b h = absurd (let z : true ≡ false = b in cc)
fits_of_need _ _ a b h = absurd (let z : false ≡ true = h in cc)

pub value_of_sort : (s : Sort) → is_broken s ≡ false → has_no_sort s ≡ false → has_value s ≡ true
unfolding has_no_sort
value_of_sort NoSort a h = absurd (let z : true ≡ false = h in cc)
value_of_sort IntSort a h = refl
value_of_sort BoolSort a h = refl
value_of_sort (ClassSort c) a h = refl
value_of_sort NilSort a h = refl
value_of_sort BrokenSort a h = refl

alike_of : (s t : Sort) → is_broken s ≡ false → is_broken t ≡ false → IsTrue (not (has_no_sort s) && not (has_no_sort t) && is_comparable s t) → is_alike s t ≡ true
unfolding has_no_sort
alike_of NoSort t a b h = absurd (let z : false ≡ true = h in cc)
alike_of BrokenSort t a b h = absurd (let z : true ≡ false = a in cc)
alike_of NilSort NoSort a b h = absurd (let z : false ≡ true = h in cc)
alike_of NilSort IntSort a b h = refl
alike_of NilSort BoolSort a b h = refl
alike_of NilSort (ClassSort d) a b h = refl
alike_of NilSort NilSort a b h = refl
alike_of IntSort IntSort a b h = refl
alike_of IntSort NilSort a b h = refl
alike_of BoolSort BoolSort a b h = refl
alike_of BoolSort NilSort a b h = refl
alike_of (ClassSort c) NilSort a b h = refl
alike_of (ClassSort c) (ClassSort d) a b h = grind (arith, h)
alike_of s BrokenSort a b h = absurd (let z : true ≡ false = b in cc)
alike_of _ _ a b h = absurd (let z : false ≡ true = h in cc)

pub room : (h : ℕ) → IsTrue (has_room h) → h < 64
room h q = by (nat_le 64 h) refl q
  where
    by : (b : Bool) → nat_le 64 h ≡ b → not b ≡ true → h < 64
    by true e i = absurd (grind (arith, i))
    by false e i = grind (arith, e)

operand_whole : (op : Op) → is_broken (operand_sort op) ≡ false
operand_whole O.And = refl
operand_whole O.Or = refl
operand_whole O.Not = refl
operand_whole _ = refl

-- sorts on top of a stack
abbrev pub onto : List Sort → Stack → Stack
onto [] s = s
onto (x ∷ xs) s = onto xs (x ∷ s)

pub onto_length : (xs : List Sort) (s : Stack) → length (onto xs s) ≡ length xs + length s
onto_length [] s = omega arith
onto_length (x ∷ xs) s = let l = onto_length xs (x ∷ s) in omega (arith, l)

onto_below : (xs : List Sort) (s : Stack) (n : ℕ) → slice_get (onto xs s) (length xs + n) ≡ slice_get s n
onto_below [] s n = ap (slice_get s) (let z : 0 + n ≡ n = omega arith in z)
onto_below (x ∷ xs) s n =
    ap (slice_get (onto xs (x ∷ s))) (let z : suc (length xs) + n ≡ length xs + suc n = omega arith in z) ∙ onto_below xs (x ∷ s) (suc n)

taken_is : (o : Option MethodTree) (n : ℕ) → IsTrue (takes o n) → (mt : MethodTree) × (o ≡ Some mt) × (length mt.params ≡ n)
unfolding takes
taken_is None n h = absurd (let z : false ≡ true = h in cc)
taken_is (Some mt) n h = (mt, refl, equal (length mt.params) n h)

destination_is : (g : Scope) (s : Sort) (m n : ℕ) → g.under_way ≡ false → is_broken s ≡ false → IsTrue (is_destination g s m n)
    → (c : ℕ) × (mt : MethodTree) × (s ≡ ClassSort c) × (named_method (methods_of g.program c) m ≡ Some mt) × (length mt.params ≡ n)
unfolding is_destination
destination_is g (ClassSort c) m n w b h = let i = taken_is (named_method (methods_of g.program c) m) n h in (c, i.0, refl, i.1, i.2)
destination_is g BrokenSort m n w b h = absurd (let z : true ≡ false = b in cc)
destination_is g NilSort m n w b h = absurd (let z : false ≡ true = sym w ∙ h in cc)
destination_is g NoSort m n w b h = absurd (let z : false ≡ true = h in cc)
destination_is g IntSort m n w b h = absurd (let z : false ≡ true = h in cc)
destination_is g BoolSort m n w b h = absurd (let z : false ≡ true = h in cc)

kinds_length : (vs : List Var) → length (kinds_of vs) ≡ length vs
kinds_length [] = refl
kinds_length (v ∷ vs) = ap suc (kinds_length vs)

module _ (names : List Text) (p : ProgramTree) (known : (c : ℕ) → Known p (class_of p c)) (kt : ClassTree) (own : Known p (Some kt)) (temps : List Var) (temps_known : AllKnown p temps)
    (q : Option MethodKinds) (same_temps : temps_by q ≡ kinds_of temps) (base : Stack) (small : length base ≤ 1) where
  -- where the source stands, with these operands below its statements, and where its code does
  abbrev pub G : Scope
  G = record (class_scope p kt) { temps = temps; held = length base }

  abbrev pub CG : CodeScope
  CG = scope_by (file_of names p) (declared_of kt) q

  abbrev pub num : Numbering
  num = record { temps = names_of temps; vars = names_of kt.vars }

  -- a known kind of a variable
  known_var : (vs : List Var) (x : ℕ) (v : Var) → AllKnown p vs → var_of vs x ≡ Some v → is_broken (Typing.kind_sort p v.kind) ≡ false
  known_var [] x v k e = absurd (let z : None ≡ Some v = e in cc)
  known_var (w ∷ vs) x v k e = by (w.name.0 == x) refl (known_var vs x v k.1)
    where
      by : (b : Bool) → (w.name.0 == x) ≡ b → (var_of vs x ≡ Some v → is_broken (Typing.kind_sort p v.kind) ≡ false) → is_broken (Typing.kind_sort p v.kind) ≡ false
      by true i more = ap (λ (y : Var). is_broken (Typing.kind_sort p y.kind)) (sym (same_some (rw i at e))) ∙ k.0
      by false i more = more (rw i at e)

  -- what a name stands for
  pub data IsFound (x : ℕ) : Type 0 where
    Temp : (v : Var) → contains (names_of temps) x ≡ true → slice_get (temps_by q) (number_of (names_of temps) x) ≡ Some v.kind
        → name_sort G x ≡ kind_sort v.kind → is_broken (name_sort G x) ≡ false → IsFound x
    Own : (v : Var) → contains (names_of temps) x ≡ false → slice_get (kinds_of kt.vars) (number_of (names_of kt.vars) x) ≡ Some v.kind
        → name_sort G x ≡ kind_sort v.kind → is_broken (name_sort G x) ≡ false → IsFound x

  pub name_found : (x : ℕ) → is_broken_name G x ≡ false → IsFound x
  name_found x h = by (var_of temps x) (var_of kt.vars x) refl refl h
    where
      by : (a b : Option Var) → var_of temps x ≡ a → var_of kt.vars x ≡ b → not (is_some a || is_some b) ≡ false → IsFound x
      by (Some v) b e i h =
          let f = var_found temps x v e in
          let k = known_var temps x v temps_known e in
          let s : name_sort G x ≡ Typing.kind_sort p v.kind = ap (λ a. Typing.var_sort p a (var_of kt.vars x)) e in
          Temp v f.0 (ap (λ ks. slice_get ks (number_of (names_of temps) x)) same_temps ∙ f.1) (s ∙ known_sort p v.kind k) (ap is_broken s ∙ k)
      by None (Some v) e i h =
          let f = var_found kt.vars x v i in
          let k = known_var kt.vars x v own.vars i in
          let s : name_sort G x ≡ Typing.kind_sort p v.kind = ap (λ a. Typing.var_sort p a (var_of kt.vars x)) e ∙ ap (λ b. Typing.var_sort p None b) i in
          Own v (var_missing temps x e) f.1 (s ∙ known_sort p v.kind k) (ap is_broken s ∙ k)
      by None None e i h = absurd (let z : true ≡ false = h in cc)

  pub found_whole : (x : ℕ) → IsFound x → is_broken (name_sort G x) ≡ false
  found_whole x (Temp v a b c w) = w
  found_whole x (Own v a b c w) = w

  outcome_whole : (o : Option MethodTree) (mt : MethodTree) → MethodKnown p o → o ≡ Some mt → is_broken (Typing.method_sort p o) ≡ false
  outcome_whole o mt k e = subst (λ (z : Option MethodTree). is_broken (Typing.method_sort p z) ≡ false) (sym e) (by mt.outcome (subst (MethodKnown p) e k).2)
    where
      by : (r : Option _) → OutcomeKnown p r → is_broken (Typing.outcome_sort p r) ≡ false
      by None h = refl
      by (Some r) h = h

  -- the result of a method is of its call's sort
  call_sort : (o : Option MethodTree) (mt : MethodTree) → MethodKnown p o → o ≡ Some mt → Typing.method_sort p o ≡ result_sort mt.outcome
  call_sort o mt k e = ap (Typing.method_sort p) e ∙ known_outcome p mt.outcome (subst (MethodKnown p) e k).2

  -- the class of a sort and its method
  class_tree : (c m : ℕ) (mt : MethodTree) → named_method (methods_of p c) m ≡ Some mt → (k : ClassTree) × (class_of p c ≡ Some k) × (named_method k.methods m ≡ Some mt)
  class_tree c m mt e = by (class_of p c) refl e
    where
      by : (o : Option ClassTree) → class_of p c ≡ o → named_method (Typing.methods_of_class o) m ≡ Some mt → (k : ClassTree) × (class_of p c ≡ Some k) × (named_method k.methods m ≡ Some mt)
      by None i h = absurd (let z : None ≡ Some mt = h in cc)
      by (Some k) i h = (k, i, h)

  -- no sort of an expression without faults is broken
  pub whole : (e : Expression) (h : ℕ) → TypedExpression Nothing G h e → is_broken (sort_of G e) ≡ false
  whole (T.Literal (V.Int z) o) h t = refl
  whole (T.Literal (V.Bool b) o) h t = refl
  whole (T.Literal (V.Ref n) o) h t = absurd (let z : true ≡ false = t.1 in cc)
  whole (T.Literal V.Nil o) h t = refl
  whole (T.Me o) h t = refl
  whole (T.Variable x o) h t = found_whole x (name_found x t.1)
  whole (T.Create c o) h t = rw (t.1) refl
  whole (T.Prefix op e o) h t = op_whole op
  whole (T.Infix op l r o) h t = op_whole op
  whole (T.Call m es o) h t = let i = taken_is (own_method G m) (size es) t.1 in outcome_whole (own_method G m) i.0 (own.methods m) i.1
  whole (T.Send e m es o) h t =
      let d = destination_is G (sort_of G e) m (size es) refl (whole e h t.1) t.2 in
      ap (λ s. is_broken (Typing.send_sort p s m)) d.2 ∙ outcome_whole (named_method (methods_of p d.0) m) d.1 ((known d.0).methods m) d.3
  whole (T.Frame m ts ss e qs) h t = absurd (let z : false ≡ true = t.0 in cc)
  whole (T.Wait b m) h t = absurd (let z : false ≡ true = t.0 in cc)

  -- the sorts of expressions
  abbrev pub sorts_of : Expressions → List Sort
  sorts_of T.NoArgs = []
  sorts_of (T.Arg e es) = sort_of G e ∷ sorts_of es

  sorts_length : (es : Expressions) → length (sorts_of es) ≡ size es
  sorts_length T.NoArgs = refl
  sorts_length (T.Arg e es) = ap suc (sorts_length es)

  -- arguments that fit are taken off
  pub arguments_fit : (vs : List Var) (es : Expressions) (h : ℕ) (s : Stack) → AllKnown p vs → length vs ≡ size es → TypedArguments Nothing G h vs es
      → pop_arguments (kinds_of vs) (onto (sorts_of es) s) ≡ Some s
  arguments_fit [] T.NoArgs h s k l t = refl
  arguments_fit [] (T.Arg e es) h s k l t = absurd (let z : 0 ≡ suc (size es) = l in omega (arith, z))
  arguments_fit (v ∷ vs) T.NoArgs h s k l t = absurd (let z : suc (length vs) ≡ 0 = l in omega (arith, z))
  arguments_fit (v ∷ vs) (T.Arg e es) h s k l t =
      let more = arguments_fit vs es (h + 1) (sort_of G e ∷ s) k.1 (let z : suc (length vs) ≡ suc (size es) = l in omega (arith, z)) (none_past (λ z. TypedArguments z G (h + 1) vs es) _ t.2) in
      let fit = fits_of_need (sort_of G e) (Typing.kind_sort p v.kind) (whole e h t.0) k.0 t.1 in
      ap (λ z. z >>= λ rest. pop_fitting (kind_sort v.kind) rest) more
      ∙ ap (λ b. if b then Some s else None) (ap (fits_sort (sort_of G e)) (sym (known_sort p v.kind k.0)) ∙ fit)
    where
      none_past : (P : Holds → Type 0) (b : Bool) → P (past b Nothing) → P Nothing
      none_past P b x = subst P (past_nothing b) x

  module _ (c : List Instr) where
    abbrev Gets : ℕ → List Instr → Stack → Stack → Type 0
    Gets at l s r = Good CG c at l s r

    push_good : (at h : ℕ) (s : Stack) (v : Value) → length s ≡ h → h < 64 → (Typing.is_dangling G v ≡ false) → Gets at (push v ∷ []) s (Typing.value_sort G v ∷ s)
    push_good at h s (V.Int z) l r d = good_one CG c at (I.PushInt z) s (IntSort ∷ s) (omega (arith, l, r)) refl refl
    push_good at h s (V.Bool b) l r d = good_one CG c at (I.PushBool b) s (BoolSort ∷ s) (omega (arith, l, r)) refl refl
    push_good at h s (V.Ref n) l r d = absurd (let z : true ≡ false = d in cc)
    push_good at h s V.Nil l r d = good_one CG c at I.PushNil s (NilSort ∷ s) (omega (arith, l, r)) refl refl

    load_good : (at x : ℕ) (s : Stack) → length s ≤ 64 → IsFound x → Gets at (load num x ∷ []) s (name_sort G x ∷ s)
    load_good at x s le (Temp v a b k w) =
        subst (λ (i : Instr). Gets at (i ∷ []) s (name_sort G x ∷ s)) (sym (ap (λ b. if b then I.LoadT (number_of num.temps x) else I.LoadI (number_of num.vars x)) a))
        (good_one CG c at (I.LoadT (number_of num.temps x)) s (name_sort G x ∷ s) le (ap (λ z. z >>= λ k. Some (kind_sort k ∷ s)) b ∙ ap (λ t. Some (t ∷ s)) (sym k)) refl)
    load_good at x s le (Own v a b k w) =
        subst (λ (i : Instr). Gets at (i ∷ []) s (name_sort G x ∷ s)) (sym (ap (λ b. if b then I.LoadT (number_of num.temps x) else I.LoadI (number_of num.vars x)) a))
        (good_one CG c at (I.LoadI (number_of num.vars x)) s (name_sort G x ∷ s) le (ap (λ z. z >>= λ k. Some (kind_sort k ∷ s)) b ∙ ap (λ t. Some (t ∷ s)) (sym k)) refl)

    pub store_good : (at x : ℕ) (t : Sort) (s : Stack) → length (t ∷ s) ≤ 64 → IsFound x → fits_sort t (name_sort G x) ≡ true → Gets at (store num x ∷ []) (t ∷ s) s
    store_good at x t s le (Temp v a b k w) fit =
        subst (λ (i : Instr). Gets at (i ∷ []) (t ∷ s) s) (sym (ap (λ b. if b then I.StoreT (number_of num.temps x) else I.StoreI (number_of num.vars x)) a))
        (good_one CG c at (I.StoreT (number_of num.temps x)) (t ∷ s) s le
        (ap (λ z. z >>= λ k. pop_fitting (kind_sort k) (t ∷ s)) b ∙ ap (λ b. if b then Some s else None) (ap (fits_sort t) (sym k) ∙ fit)) refl)
    store_good at x t s le (Own v a b k w) fit =
        subst (λ (i : Instr). Gets at (i ∷ []) (t ∷ s) s) (sym (ap (λ b. if b then I.StoreT (number_of num.temps x) else I.StoreI (number_of num.vars x)) a))
        (good_one CG c at (I.StoreI (number_of num.vars x)) (t ∷ s) s le
        (ap (λ z. z >>= λ k. pop_fitting (kind_sort k) (t ∷ s)) b ∙ ap (λ b. if b then Some s else None) (ap (fits_sort t) (sym k) ∙ fit)) refl)

    -- operators
    prefix_left : (op : Op) (t : Sort) (s : Stack) → is_prefix op ≡ true → fits_sort t (operand_sort op) ≡ true → operated_sorts op (t ∷ s) ≡ Some (op_sort op ∷ s)
    prefix_left op t s i fit =
        ap (λ b. if b then push_sort (op_sort op) (pop_fitting (operand_sort op) (t ∷ s)) else (if is_comparison op then push_sort BoolSort (pop_alike (t ∷ s))
        else push_sort (op_sort op) (pop_fitting (operand_sort op) (t ∷ s) >>= λ rest. pop_fitting (operand_sort op) rest))) i
        ∙ ap (λ b. push_sort (op_sort op) (if b then Some s else None)) fit

    two_left : (op : Op) (t r : Sort) (s : Stack) → is_prefix op ≡ false → is_comparison op ≡ false → fits_sort t (operand_sort op) ≡ true → fits_sort r (operand_sort op) ≡ true
        → operated_sorts op (r ∷ t ∷ s) ≡ Some (op_sort op ∷ s)
    two_left op t r s i j f g =
        ap (λ b. if b then push_sort (op_sort op) (pop_fitting (operand_sort op) (r ∷ t ∷ s)) else (if is_comparison op then push_sort BoolSort (pop_alike (r ∷ t ∷ s))
        else push_sort (op_sort op) (pop_fitting (operand_sort op) (r ∷ t ∷ s) >>= λ rest. pop_fitting (operand_sort op) rest))) i
        ∙ ap (λ b. if b then push_sort BoolSort (pop_alike (r ∷ t ∷ s)) else push_sort (op_sort op) (pop_fitting (operand_sort op) (r ∷ t ∷ s) >>= λ rest. pop_fitting (operand_sort op) rest)) j
        ∙ ap (λ b. push_sort (op_sort op) ((if b then Some (t ∷ s) else None) >>= λ rest. pop_fitting (operand_sort op) rest)) g
        ∙ ap (λ b. push_sort (op_sort op) (if b then Some s else None)) f

    both_need : (op : Op) (t r : Sort) → is_broken t ≡ false → is_broken r ≡ false → IsTrue (fits_need t (operand_sort op) && fits_need r (operand_sort op))
        → (fits_sort t (operand_sort op) ≡ true) × (fits_sort r (operand_sort op) ≡ true)
    both_need op t r a b h = (
      fits_of_need t (operand_sort op) a (operand_whole op) (first (fits_need t (operand_sort op)) (fits_need r (operand_sort op)) h),
      fits_of_need r (operand_sort op) b (operand_whole op) (second (fits_need t (operand_sort op)) (fits_need r (operand_sort op)) h),
    )

    plain_left : (op : Op) (t r : Sort) (s : Stack) → is_prefix op ≡ false → is_comparison op ≡ false → is_broken t ≡ false → is_broken r ≡ false
        → IsTrue (fits_need t (operand_sort op) && fits_need r (operand_sort op)) → operated_sorts op (r ∷ t ∷ s) ≡ Some (op_sort op ∷ s)
    plain_left op t r s i j a b h = let k = both_need op t r a b h in two_left op t r s i j k.0 k.1

    infix_left : (op : Op) (t r : Sort) (s : Stack) → is_prefix op ≡ false → is_broken t ≡ false → is_broken r ≡ false → IsTrue (fit_operands op t r)
        → operated_sorts op (r ∷ t ∷ s) ≡ Some (op_sort op ∷ s)
    unfolding fit_operands
    infix_left O.Same t r s i a b h = ap (λ b. push_sort BoolSort (if b then Some s else None)) (alike_of t r a b h)
    infix_left O.Differs t r s i a b h = ap (λ b. push_sort BoolSort (if b then Some s else None)) (alike_of t r a b h)
    infix_left O.Neg t r s i a b h = absurd (let z : true ≡ false = i in cc)
    infix_left O.Not t r s i a b h = absurd (let z : true ≡ false = i in cc)
    infix_left O.Add t r s i a b h = plain_left O.Add t r s refl refl a b h
    infix_left O.Sub t r s i a b h = plain_left O.Sub t r s refl refl a b h
    infix_left O.Mul t r s i a b h = plain_left O.Mul t r s refl refl a b h
    infix_left O.Div t r s i a b h = plain_left O.Div t r s refl refl a b h
    infix_left O.Rem t r s i a b h = plain_left O.Rem t r s refl refl a b h
    infix_left O.Less t r s i a b h = plain_left O.Less t r s refl refl a b h
    infix_left O.LessEq t r s i a b h = plain_left O.LessEq t r s refl refl a b h
    infix_left O.More t r s i a b h = plain_left O.More t r s refl refl a b h
    infix_left O.MoreEq t r s i a b h = plain_left O.MoreEq t r s refl refl a b h
    infix_left O.And t r s i a b h = plain_left O.And t r s refl refl a b h
    infix_left O.Or t r s i a b h = plain_left O.Or t r s refl refl a b h

    -- a send that fits
    pub asked_left : (e : Expression) (m : ℕ) (es : Expressions) (h i : ℕ) (s : Stack) → TypedExpression Nothing G h e → IsTrue (is_destination G (sort_of G e) m (size es))
        → TypedArguments Nothing G i (params_of (sent_method G (sort_of G e) m)) es
        → (mt : MethodTree) × (asked_of (file_of names p) (slice_get (onto (sorts_of es) (sort_of G e ∷ s)) (size es)) (name m) (size es) ≡ Some (signature_of_tree mt))
        × (pop_sent (onto (sorts_of es) (sort_of G e ∷ s)) (signature_of_tree mt) ≡ Some s) × (Typing.send_sort p (sort_of G e) m ≡ result_sort mt.outcome)
    asked_left e m es h i s t dest args =
        let d = destination_is G (sort_of G e) m (size es) refl (whole e h t) dest in
        let k = class_tree d.0 m d.1 d.3 in
        let at : slice_get (onto (sorts_of es) (sort_of G e ∷ s)) (size es) ≡ Some (ClassSort d.0) =
        ap (slice_get (onto (sorts_of es) (sort_of G e ∷ s))) (let l = sorts_length es in let z : size es ≡ length (sorts_of es) + 0 = omega (arith, l) in z)
        ∙ onto_below (sorts_of es) (sort_of G e ∷ s) 0 ∙ ap Some d.2 in
        let l : length (kinds_of d.1.params) ≡ size es = kinds_length d.1.params ∙ d.4 in
        let asked : asked_of (file_of names p) (Some (ClassSort d.0)) (name m) (size es) ≡ Some (signature_of_tree d.1) =
        rw (declared_found names p d.0 k.0 k.1, signature_found k.0 m d.1 k.2, l, equals (size es)) refl in
        let params : params_of (sent_method G (sort_of G e) m) ≡ d.1.params = ap (λ z. params_of (sent_method G z m)) d.2 ∙ ap params_of d.3 in
        let kn = (known d.0).methods m in
        let pk = (subst (MethodKnown p) d.3 kn).0 in
        let fit = arguments_fit d.1.params es i (sort_of G e ∷ s) pk d.4 (subst (λ vs. TypedArguments Nothing G i vs es) params args) in (
          d.1,
          ap (λ z. asked_of (file_of names p) z (name m) (size es)) at ∙ asked,
          ap (λ z. z >>= λ rest. pop_any rest) fit,
          ap (λ z. Typing.send_sort p z m) d.2 ∙ call_sort (named_method (methods_of p d.0) m) d.1 kn d.3,
        )

    pub first_room : (e : Expression) (h : ℕ) → TypedExpression Nothing G h e → IsTrue (has_room h)
    first_room (T.Literal v o) h t = t.0
    first_room (T.Me o) h t = t
    first_room (T.Variable x o) h t = t.0
    first_room (T.Create k o) h t = t.0
    first_room (T.Prefix op e o) h t = t.0
    first_room (T.Infix op a b o) h t = t.0
    first_room (T.Call m es o) h t = t.0
    first_room (T.Send e m es o) h t = t.0
    first_room (T.Frame m ts ss e qs) h t = absurd (let z : false ≡ true = t.0 in cc)
    first_room (T.Wait b m) h t = absurd (let z : false ≡ true = t.0 in cc)

    pub none_is : (P : Holds → Type 0) (b : Bool) → P (past b Nothing) → P Nothing
    none_is P b x = subst P (past_nothing b) x

    mutual
      pub expression_good : (e : Expression) (at h : ℕ) (s : Stack) → length s ≡ h → TypedExpression Nothing G h e → Gets at (expression_code num e) s (sort_of G e ∷ s)
      expression_good (T.Literal v o) at h s l t = push_good at h s v l (room h t.0) t.1
      expression_good (T.Me o) at h s l t = let r = room h t in good_one CG c at I.SelfRef s (ClassSort kt.name.name.0 ∷ s) (omega (arith, l, r)) refl refl
      expression_good (T.Variable x o) at h s l t = let r = room h t.0 in load_good at x s (omega (arith, l, r)) (name_found x t.1)
      expression_good (T.Create k o) at h s l t =
          let r = room h t.0 in
          good_as CG c at (I.New (name k) ∷ []) s (ClassSort k ∷ s) (sort_of G (T.Create k o) ∷ s) (ap (λ b. (if b then ClassSort k else BrokenSort) ∷ s) (sym t.1))
          (good_one CG c at (I.New (name k)) s (ClassSort k ∷ s) (omega (arith, l, r)) (ap (λ b. require b >> Some (ClassSort k ∷ s)) (class_from_there p k t.1)) refl)
      expression_good (T.Prefix op e o) at h s l t =
          let r = room h t.0 in
          let f = fits_of_need (sort_of G e) (operand_sort op) (whole e h t.2) (operand_whole op) t.3 in
          good_seq CG c at (expression_code num e) (I.Oper op ∷ []) s (sort_of G e ∷ s) (op_sort op ∷ s) (expression_good e at h s l t.2)
          (good_one CG c _ (I.Oper op) (sort_of G e ∷ s) (op_sort op ∷ s) (omega (arith, l, r)) (prefix_left op (sort_of G e) s t.1 f) refl)
      expression_good (T.Infix op a b o) at h s l t =
          let tr = none_is (λ z. TypedExpression z G (h + 1) b) _ t.3 in
          let r = room h t.0 in
          good_seq CG c at (expression_code num a) (expression_code num b ++ I.Oper op ∷ []) s (sort_of G a ∷ s) (op_sort op ∷ s) (expression_good a at h s l t.2)
          (good_seq CG c _ (expression_code num b) (I.Oper op ∷ []) (sort_of G a ∷ s) (sort_of G b ∷ sort_of G a ∷ s) (op_sort op ∷ s)
          (expression_good b _ (h + 1) (sort_of G a ∷ s) (omega (arith, l)) tr)
          (good_one CG c _ (I.Oper op) (sort_of G b ∷ sort_of G a ∷ s) (op_sort op ∷ s) (let n = room (h + 1) (first_room b (h + 1) tr) in omega (arith, l, n))
          (infix_left op (sort_of G a) (sort_of G b) s t.1 (whole a h t.2) (whole b (h + 1) tr) t.4) refl))
      expression_good (T.Call m es o) at h s l t =
          let i = taken_is (own_method G m) (size es) t.1 in
          let kn = own.methods m in
          let args = subst (λ (z : Option MethodTree). TypedArguments Nothing G h (params_of z) es) i.1 t.2 in
          let a = expressions_good i.0.params es at h s l args in
          let fit = arguments_fit i.0.params es h s (subst (MethodKnown p) i.1 kn).0 i.2 args in
          let r = room h t.0 in
          let n = a.1 (omega (arith, r)) in
          let z = onto_length (sorts_of es) s in
          let y = sorts_length es in
          good_seq CG c at (expressions_code num es) (I.Call (name m) ∷ []) s (onto (sorts_of es) s) (Typing.own_sort G m ∷ s) a.0
          (good_one CG c _ (I.Call (name m)) (onto (sorts_of es) s) (Typing.own_sort G m ∷ s) (omega (arith, n, z, y, l))
          (ap (λ z. z >>= λ s1. push_sort (result_sort s1.outcome) (pop_arguments s1.params (onto (sorts_of es) s))) (signature_found kt m i.0 i.1)
          ∙ ap (push_sort (result_sort i.0.outcome)) fit ∙ ap (λ z. Some (z ∷ s)) (sym (call_sort (own_method G m) i.0 kn i.1))) refl)
      expression_good (T.Send e m es o) at h s l t =
          let args = none_is (λ z. TypedArguments z G (h + 1) (params_of (sent_method G (sort_of G e) m)) es) _ t.3 in
          let d = asked_left e m es h (h + 1) s t.1 t.2 args in
          let a = expressions_good (params_of (sent_method G (sort_of G e) m)) es (at + length (expression_code num e)) (h + 1) (sort_of G e ∷ s) (omega (arith, l)) args in
          let r = room h t.0 in
          let n = a.1 (omega (arith, r)) in
          let z = onto_length (sorts_of es) (sort_of G e ∷ s) in
          let y = sorts_length es in
          good_seq CG c at (expression_code num e) (expressions_code num es ++ I.Send (name m) (size es) ∷ []) s (sort_of G e ∷ s) (Typing.send_sort p (sort_of G e) m ∷ s) (expression_good e at h s l t.1)
          (good_seq CG c _ (expressions_code num es) (I.Send (name m) (size es) ∷ []) (sort_of G e ∷ s) (onto (sorts_of es) (sort_of G e ∷ s)) (Typing.send_sort p (sort_of G e) m ∷ s) a.0
          (good_one CG c _ (I.Send (name m) (size es)) (onto (sorts_of es) (sort_of G e ∷ s)) (Typing.send_sort p (sort_of G e) m ∷ s) (omega (arith, n, z, y, l))
          (ap (λ z. z >>= λ s1. push_sort (result_sort s1.outcome) (pop_sent (onto (sorts_of es) (sort_of G e ∷ s)) s1)) d.1
          ∙ ap (push_sort (result_sort d.0.outcome)) d.2 ∙ ap (λ z. Some (z ∷ s)) (sym d.3)) refl))
      expression_good (T.Frame m ts ss e qs) at h s l t = absurd (let z : false ≡ true = t.0 in cc)
      expression_good (T.Wait b m) at h s l t = absurd (let z : false ≡ true = t.0 in cc)

      pub expressions_good : (vs : List Var) (es : Expressions) (at h : ℕ) (s : Stack) → length s ≡ h → TypedArguments Nothing G h vs es
          → Gets at (expressions_code num es) s (onto (sorts_of es) s) × (h ≤ 64 → h + size es ≤ 64)
      expressions_good vs T.NoArgs at h s l t = (good_nil CG c at s, λ le. omega (arith, le))
      expressions_good [] (T.Arg e es) at h s l t =
          let r = room h (first_room e h t.0) in
          let a = expressions_good [] es (at + length (expression_code num e)) (h + 1) (sort_of G e ∷ s) (omega (arith, l)) (none_is (λ z. TypedArguments z G (h + 1) [] es) _ t.2) in
          let b = a.1 (omega (arith, r)) in
          (good_seq CG c at (expression_code num e) (expressions_code num es) s (sort_of G e ∷ s) (onto (sorts_of es) (sort_of G e ∷ s)) (expression_good e at h s l t.0) a.0, λ le. omega (arith, b))
      expressions_good (v ∷ vs) (T.Arg e es) at h s l t =
          let r = room h (first_room e h t.0) in
          let a = expressions_good vs es (at + length (expression_code num e)) (h + 1) (sort_of G e ∷ s) (omega (arith, l)) (none_is (λ z. TypedArguments z G (h + 1) vs es) _ t.2) in
          let b = a.1 (omega (arith, r)) in
          (good_seq CG c at (expression_code num e) (expressions_code num es) s (sort_of G e ∷ s) (onto (sorts_of es) (sort_of G e ∷ s)) (expression_good e at h s l t.0) a.0, λ le. omega (arith, b))

    -- the guards of a select
    abbrev guards_sorts : Alternatives → List Sort
    guards_sorts T.NoAlts = []
    guards_sorts (T.Alt e n ss alts) = sort_of G e ∷ guards_sorts alts

    guards_count : (alts : Alternatives) → length (guards_sorts alts) ≡ count alts
    guards_count T.NoAlts = refl
    guards_count (T.Alt e n ss alts) = ap suc (guards_count alts)

    guards_good : (alts : Alternatives) (at h : ℕ) (s : Stack) → length s ≡ h → TypedAlternatives Nothing G h alts
        → Gets at (guards_code num alts) s (onto (guards_sorts alts) s) × (h ≤ 64 → h + count alts ≤ 64)
    guards_good T.NoAlts at h s l t = (good_nil CG c at s, λ le. omega (arith, le))
    guards_good (T.Alt e n ss alts) at h s l t =
        let r = room h (first_room e h t.0) in
        let a = guards_good alts (at + length (expression_code num e)) (h + 1) (sort_of G e ∷ s) (omega (arith, l)) (none_is (λ z. TypedAlternatives z G (h + 1) alts) _ t.4) in
        let b = a.1 (omega (arith, r)) in (
          good_seq CG c at (expression_code num e) (guards_code num alts) s (sort_of G e ∷ s) (onto (guards_sorts alts) (sort_of G e ∷ s)) (expression_good e at h s l t.0) a.0,
          λ le. omega (arith, b),
        )

    guards_fit : (alts : Alternatives) (h : ℕ) (s : Stack) → TypedAlternatives Nothing G h alts → pop_arguments (replicate (count alts) K.Bool) (onto (guards_sorts alts) s) ≡ Some s
    guards_fit T.NoAlts h s t = refl
    guards_fit (T.Alt e n ss alts) h s t =
        let more = guards_fit alts (h + 1) (sort_of G e ∷ s) (none_is (λ z. TypedAlternatives z G (h + 1) alts) _ t.4) in
        let fit = fits_of_need (sort_of G e) BoolSort (whole e h t.0) refl t.1 in
        ap (λ z. z >>= λ rest. pop_fitting BoolSort rest) more ∙ ap (λ b. if b then Some s else None) fit

    count_at : (alts : Alternatives) (at : ℕ) → length (alternatives_at num at alts) ≡ count alts
    count_at T.NoAlts at = refl
    count_at (T.Alt e n ss alts) at = ap suc (count_at alts _)

    -- places with these operands alone
    abbrev Bare : List AltCode → Type 0
    Bare [] = Unit {0}
    Bare (a ∷ alts) = (S CG c a.at ≡ Some base) × (a.at < length c) × Bare alts

    led_bare : (alts : List AltCode) → Bare alts → Led CG c base (map (λ a. a.at) alts)
    led_bare [] z = tt
    led_bare (a ∷ alts) z = (z.0, z.1, led_bare alts z.2)

    bool_left : (t : Sort) → fits_sort t BoolSort ≡ true → pop_fitting BoolSort (t ∷ base) ≡ Some base
    bool_left t f = ap (λ b. if b then Some base else None) f

    value_left : (t : Sort) → has_value t ≡ true → pop_value (t ∷ base) ≡ Some base
    value_left t f = ap (λ b. if b then Some base else None) f

    -- the places of works, from the typing of alternatives
    mutual
      statement_good : (st : Statement) (at : ℕ) → TypedStatement Nothing G st → Gets at (statement_code num at st) base base
      statement_good (T.Assign x o e) at t =
          let n = name_found x t.0 in
          good_seq CG c at (expression_code num e) (store num x ∷ []) base (sort_of G e ∷ base) base (expression_good e at (length base) base refl t.1)
          (store_good _ x (sort_of G e) base (omega (arith, small)) n (fits_of_need (sort_of G e) (name_sort G x) (whole e (length base) t.1) (found_whole x n) t.2))
      statement_good (T.Write e) at t =
          good_seq CG c at (expression_code num e) (I.Write ∷ []) base (sort_of G e ∷ base) base (expression_good e at (length base) base refl t.0)
          (good_one CG c _ I.Write (sort_of G e ∷ base) base (omega (arith, small)) (value_left (sort_of G e) (value_of_sort (sort_of G e) (whole e (length base) t.0) t.1)) refl)
      statement_good (T.WriteText n) at t = good_one CG c at (I.WriteText (name n)) base base (omega (arith, small)) refl refl
      statement_good (T.Do e) at t =
          good_seq CG c at (expression_code num e) (I.Pop ∷ []) base (sort_of G e ∷ base) base (expression_good e at (length base) base refl t) (good_one CG c _ I.Pop (sort_of G e ∷ base) base (omega (arith, small)) refl refl)
      statement_good (T.Async e m o es) at t =
          let args = none_is (λ z. TypedArguments z G (length base + 1) (params_of (sent_method G (sort_of G e) m)) es) _ t.2 in
          let d = asked_left e m es (length base) (length base + 1) base t.0 t.1 args in
          let a = expressions_good (params_of (sent_method G (sort_of G e) m)) es (at + length (expression_code num e)) (length base + 1) (sort_of G e ∷ base) (omega arith) args in
          let n = a.1 (omega (arith, small)) in
          let z = onto_length (sorts_of es) (sort_of G e ∷ base) in
          let y = sorts_length es in
          good_seq CG c at (expression_code num e) (expressions_code num es ++ I.Async (name m) (size es) ∷ []) base (sort_of G e ∷ base) base (expression_good e at (length base) base refl t.0)
          (good_seq CG c _ (expressions_code num es) (I.Async (name m) (size es) ∷ []) (sort_of G e ∷ base) (onto (sorts_of es) (sort_of G e ∷ base)) base a.0
          (good_one CG c _ (I.Async (name m) (size es)) (onto (sorts_of es) (sort_of G e ∷ base)) base (omega (arith, n, z, y, small))
          (ap (λ z. z >>= λ s1. pop_sent (onto (sorts_of es) (sort_of G e ∷ base)) s1) d.1 ∙ d.2) refl))
      statement_good (T.If e these those) at t = λ has z lt.
          let test = expression_code num e in
          let m = at + length test in
          let yes = suc m in
          let first = statements_code num yes these in
          let j = yes + length first in
          let other = suc j in
          let second = statements_code num other those in
          let branch = I.Branch other in
          let jump = I.Jump (other + length second) in
          let l1 = length-append test (branch ∷ (first ++ jump ∷ second)) in
          let l2 = length-append first (jump ∷ second) in
          let b = back c at test (branch ∷ (first ++ jump ∷ second)) has in
          let d = back c yes first (jump ∷ second) b.1 in
          let x = expression_good e at (length base) base refl t.0 (front c at test (branch ∷ (first ++ jump ∷ second)) has) z (omega (arith, lt, l1)) in
          let pop = bool_left (sort_of G e) (fits_of_need (sort_of G e) BoolSort (whole e (length base) t.0) refl t.1) in
          let zy = after_one CG c m branch (sort_of G e ∷ base) base b.0 x.1 pop in
          let f = statements_good these yes t.2 (front c yes first (jump ∷ second) b.1) zy (omega (arith, lt, l1, l2)) in
          let zo = after_one CG c j jump base base d.0 f.1 refl in
          let s = statements_good those other t.3 d.1 zo (omega (arith, lt, l1, l2)) in (
            join CG c at test (branch ∷ (first ++ jump ∷ second)) x.0 (
              record { before = sort_of G e ∷ base; is_before = x.1; few = omega (arith, small); after = base; is_after = pop; led = (zy, omega (arith, lt, l1, l2), (zo, omega (arith, lt, l1, l2), tt)) },
              join CG c yes first (jump ∷ second) f.0
                  (record { before = base; is_before = f.1; few = omega (arith, small); after = base; is_after = refl; led = (s.1, omega (arith, lt, l1, l2), tt) }, s.0),
            ),
            ap (S CG c) (let w : at + length (test ++ branch ∷ (first ++ jump ∷ second)) ≡ other + length second = omega (arith, l1, l2) in w) ∙ s.1,
          )
      statement_good (T.While e ss) at t = λ has z lt.
          let test = expression_code num e in
          let m = suc at + length test in
          let go = suc m in
          let turn = statements_code num go ss in
          let j = go + length turn in
          let branch = I.Branch (suc j) in
          let jump = I.Jump at in
          let l1 = length-append test (branch ∷ (turn ++ jump ∷ [])) in
          let l2 = length-append turn (jump ∷ []) in
          let b = back c (suc at) test (branch ∷ (turn ++ jump ∷ [])) has.1 in
          let d = back c go turn (jump ∷ []) b.1 in
          let z1 = after_one CG c at I.Loop base base has.0 z refl in
          let x = expression_good e (suc at) (length base) base refl t.0 (front c (suc at) test (branch ∷ (turn ++ jump ∷ [])) has.1) z1 (omega (arith, lt, l1)) in
          let pop = bool_left (sort_of G e) (fits_of_need (sort_of G e) BoolSort (whole e (length base) t.0) refl t.1) in
          let zg = after_one CG c m branch (sort_of G e ∷ base) base b.0 x.1 pop in
          let f = statements_good ss go t.2 (front c go turn (jump ∷ []) b.1) zg (omega (arith, lt, l1, l2)) in
          let zj = after_one CG c j jump base base d.0 f.1 refl in (
            (
              record { before = base; is_before = z; few = omega (arith, small); after = base; is_after = refl; led = (z1, omega (arith, lt, l1), tt) },
              join CG c (suc at) test (branch ∷ (turn ++ jump ∷ [])) x.0 (
                record { before = sort_of G e ∷ base; is_before = x.1; few = omega (arith, small); after = base; is_after = pop; led = (zg, omega (arith, lt, l1, l2), (zj, omega (arith, lt, l1, l2), tt)) },
                join CG c go turn (jump ∷ []) f.0
                    (record { before = base; is_before = f.1; few = omega (arith, small); after = base; is_after = refl; led = (z, omega (arith, lt, l1, l2), tt) }, tt),
              ),
            ),
            ap (S CG c) (let w : at + length (I.Loop ∷ (test ++ branch ∷ (turn ++ jump ∷ []))) ≡ suc j = omega (arith, l1, l2) in w) ∙ zj,
          )
      statement_good (T.Answer ns) at t = good_one CG c at (I.Answer (map (λ n. n.name) ns)) base base (omega (arith, small)) refl refl
      statement_good (T.Select alts) at t = λ has z lt.
          let gs = guards_code num alts in
          let m = at + length gs in
          let go = suc m in
          let last = go + length (alternatives_code num go 0 alts) in
          let works = alternatives_code num go last alts in
          let targets = alternatives_at num go alts in
          let i = I.Select targets in
          let l1 = length-append gs (i ∷ works) in
          let l2 = works_length (Some (class_code kt)) c num alts go 0 last in
          let b = back c at gs (i ∷ works) has in
          let a = guards_good alts at (length base) base refl t in
          let s = a.0 (front c at gs (i ∷ works) has) z (omega (arith, lt, l1)) in
          let n = count_at alts go in
          let bound = a.1 (omega (arith, small)) in
          let size_is = onto_length (guards_sorts alts) base in
          let size_too = guards_count alts in
          let pop : left_by CG i (onto (guards_sorts alts) base) ≡ Some base = ap (λ n. pop_arguments (replicate n K.Bool) (onto (guards_sorts alts) base)) n ∙ guards_fit alts (length base) base t in
          let zg = after_one CG c m i (onto (guards_sorts alts) base) base b.0 s.1 pop in
          let e : S CG c last ≡ Some base =
          ap (S CG c) (let w : last ≡ go + length works = omega (arith, l2) in w) ∙ works_end alts (length base) go last t b.1 zg (omega (arith, lt, l1)) in
          let w = works_good alts (length base) go last t b.1 zg (omega (arith, lt, l1)) e (omega (arith, lt, l1, l2)) in (
            join CG c at gs (i ∷ works) s.0
                (record { before = onto (guards_sorts alts) base; is_before = s.1; few = omega (arith, bound, size_is, size_too); after = base; is_after = pop; led = led_bare targets w.1 }, w.0),
            ap (S CG c) (let v : at + length (gs ++ i ∷ works) ≡ last = omega (arith, l1, l2) in v) ∙ e,
          )
      statement_good (T.Serve m w ts ss e qs) at t = absurd (let z : false ≡ true = t.0 in cc)

      pub statements_good : (ss : Statements) (at : ℕ) → TypedStatements Nothing G ss → Gets at (statements_code num at ss) base base
      statements_good T.Done at t = good_nil CG c at base
      statements_good (T.Then st ss) at t =
          good_seq CG c at (statement_code num at st) (statements_code num (at + length (statement_code num at st)) ss) base base base
          (statement_good st at t.0) (statements_good ss (at + length (statement_code num at st)) t.1)

      -- after the lists the operands below are left
      works_end : (alts : Alternatives) (h at last : ℕ) → TypedAlternatives Nothing G h alts → Has c at (alternatives_code num at last alts) → S CG c at ≡ Some base
          → at + length (alternatives_code num at last alts) < length c → S CG c (at + length (alternatives_code num at last alts)) ≡ Some base
      works_end T.NoAlts h at last t has z lt = ap (S CG c) (let w : at + 0 ≡ at = omega (arith, small) in w) ∙ z
      works_end (T.Alt e n ss alts) h at last t has z lt =
          let w = statements_code num at ss in
          let j = at + length w in
          let rest = alternatives_code num (suc j) last alts in
          let l1 = length-append w (I.Jump last ∷ rest) in
          let b = back c at w (I.Jump last ∷ rest) has in
          let f = statements_good ss at t.3 (front c at w (I.Jump last ∷ rest) has) z (omega (arith, lt, l1)) in
          let zj = after_one CG c j (I.Jump last) base base b.0 f.1 refl in
          ap (S CG c) (let v : at + length (w ++ I.Jump last ∷ rest) ≡ suc j + length rest = omega (arith, l1) in v)
          ∙ works_end alts (h + 1) (suc j) last (none_is (λ z. TypedAlternatives z G (h + 1) alts) _ t.4) b.1 zj (omega (arith, lt, l1))

      works_good : (alts : Alternatives) (h at last : ℕ) → TypedAlternatives Nothing G h alts → Has c at (alternatives_code num at last alts) → S CG c at ≡ Some base
          → at + length (alternatives_code num at last alts) < length c → S CG c last ≡ Some base → last < length c
          → AllFine CG c at (alternatives_code num at last alts) × Bare (alternatives_at num at alts)
      works_good T.NoAlts h at last t has z lt e in_range = (tt, tt)
      works_good (T.Alt a n ss alts) h at last t has z lt e in_range =
          let w = statements_code num at ss in
          let j = at + length w in
          let rest = alternatives_code num (suc j) last alts in
          let l1 = length-append w (I.Jump last ∷ rest) in
          let b = back c at w (I.Jump last ∷ rest) has in
          let f = statements_good ss at t.3 (front c at w (I.Jump last ∷ rest) has) z (omega (arith, lt, l1)) in
          let zj = after_one CG c j (I.Jump last) base base b.0 f.1 refl in
          let r = works_good alts (h + 1) (suc j) last (none_is (λ z. TypedAlternatives z G (h + 1) alts) _ t.4) b.1 zj (omega (arith, lt, l1)) e in_range in (
            join CG c at w (I.Jump last ∷ rest) f.0
                (record { before = base; is_before = f.1; few = omega (arith, small); after = base; is_after = refl; led = (e, in_range, tt) }, r.0),
            (z, omega (arith, lt), r.1),
          )

    push_next : (at : ℕ) (v : Value) → nexts at (push v) ≡ suc at ∷ []
    push_next at (V.Int z) = refl
    push_next at (V.Bool b) = refl
    push_next at (V.Ref n) = refl
    push_next at V.Nil = refl

    load_next : (at x : ℕ) → nexts at (load num x) ≡ suc at ∷ []
    load_next at x = by (contains num.temps x)
      where
        by : (b : Bool) → nexts at (if b then I.LoadT (number_of num.temps x) else I.LoadI (number_of num.vars x)) ≡ suc at ∷ []
        by true = refl
        by false = refl

    store_next : (at x : ℕ) → nexts at (store num x) ≡ suc at ∷ []
    store_next at x = by (contains num.temps x)
      where
        by : (b : Bool) → nexts at (if b then I.StoreT (number_of num.temps x) else I.StoreI (number_of num.vars x)) ≡ suc at ∷ []
        by true = refl
        by false = refl

    -- the most operands that stand at once
    module _ (ok : AllFine CG c 0 c) (some : 0 < length c) where
      abbrev Spans : ℕ → List Instr → ℕ → Type 0
      Spans at l n = Span CG c ok some at l n

      abbrev Arrives : ℕ → Type 0
      Arrives at = Comes CG c ok some at

      -- one operand more
      one_span : (at h : ℕ) (i : Instr) (s : Stack) (t : Sort) → length s ≡ h → slice_get c at ≡ Some i → nexts at i ≡ suc at ∷ [] → S CG c at ≡ Some s → S CG c (at + 1) ≡ Some (t ∷ s)
          → Arrives at → Spans at (i ∷ []) (h + 1)
      one_span at h i s t l e next z after a =
          span_one CG c ok some at i s (t ∷ s) (h + 1) e next z (ap (S CG c) (let w : suc at ≡ at + 1 = omega arith in w) ∙ after) a (omega (arith, l)) (omega (arith, l))
          (inr (let w : h + 1 ≡ suc (length s) = omega (arith, l) in w))

      most_of : (h m n : ℕ) → (h + more m n ≡ h + m) ⊎ (h + more m n ≡ h + n)
      most_of h m n = by (more_is m n).2
        where
          by : (more m n ≡ m) ⊎ (more m n ≡ n) → (h + more m n ≡ h + m) ⊎ (h + more m n ≡ h + n)
          by (inl e) = inl (ap (λ k. h + k) e)
          by (inr e) = inr (ap (λ k. h + k) e)

      -- two pieces, of which the second begins with d operands more
      two_spans : (at h m d n : ℕ) (a b : List Instr) → Spans at a (h + m) → Spans (at + length a) b (h + d + n) → Spans at (a ++ b) (h + more m (d + n))
      two_spans at h m d n a b x y =
          let k = more_is m (d + n) in
          span_seq CG c ok some at a b (h + m) (h + d + n) (h + more m (d + n)) x y (let u = k.0 in omega (arith, u)) (let u = k.1 in omega (arith, u)) (by (most_of h m (d + n)))
        where
          by : (h + more m (d + n) ≡ h + m) ⊎ (h + more m (d + n) ≡ h + (d + n)) → (h + more m (d + n) ≡ h + m) ⊎ (h + more m (d + n) ≡ h + d + n)
          by (inl e) = inl e
          by (inr e) = inr (e ∙ (let w : h + (d + n) ≡ h + d + n = omega arith in w))

      as_span : (at : ℕ) (l : List Instr) (m n : ℕ) → m ≡ n → Spans at l m → Spans at l n
      as_span at l m n e x = subst (Spans at l) e x

      -- what an own call adds to its arguments
      call_span : (at h w k : ℕ) (a : List Instr) (i : Instr) (s t : Stack) (r : Sort) → length s ≡ h → length t ≡ h + k → (k ≡ 0 → w ≡ 0) → Spans at a (h + w) → S CG c (at + length a) ≡ Some t
          → slice_get c (at + length a) ≡ Some i → nexts (at + length a) i ≡ suc (at + length a) ∷ [] → S CG c (at + length (a ++ i ∷ [])) ≡ Some (r ∷ s) → Spans at (a ++ i ∷ []) (h + more 1 w)
      call_span at h w zero a i s t r l m none x z e next after =
          let len = length-append a (i ∷ []) in
          let w0 = none refl in
          let y : Spans (at + length a) (i ∷ []) (h + 1) =
          span_one CG c ok some (at + length a) i t (r ∷ s) (h + 1) e next z (ap (S CG c) (let u : suc (at + length a) ≡ at + length (a ++ i ∷ []) = omega (arith, len) in u) ∙ after) x.ends
          (omega (arith, m)) (omega (arith, l)) (inr (let u : h + 1 ≡ suc (length s) = omega (arith, l) in u)) in
          as_span at (a ++ i ∷ []) (h + 1) (h + more 1 w) (ap (λ n. h + more 1 n) (sym w0))
          (span_seq CG c ok some at a (i ∷ []) (h + w) (h + 1) (h + 1) x y (omega (arith, w0)) (omega arith) (inr refl))
      call_span at h w (suc k) a i s t r l m none x z e next after =
          let le = x.last t z in
          let big : 1 ≤ w = omega (arith, le, m) in
          as_span at (a ++ i ∷ []) (h + w) (h + more 1 w) (ap (λ n. h + n) (sym (grows w big)))
          (span_tail CG c ok some at a i (h + w) (r ∷ s) x e next after (omega (arith, l, big)))
        where
          grows : (w : ℕ) → 1 ≤ w → more 1 w ≡ w
          grows w b = by (nat_le 1 w) refl
            where
              by : (q : Bool) → nat_le 1 w ≡ q → (if q then w else 1) ≡ w
              by true e = refl
              by false e = absurd (grind (arith, e, b))

      no_words : (es : Expressions) → size es ≡ 0 → expressions_words es ≡ 0
      no_words T.NoArgs e = refl
      no_words (T.Arg e es) i = absurd (let z : suc (size es) ≡ 0 = i in omega (arith, z))

      arg_join : (e : Expression) (es : Expressions) (at h : ℕ) → Spans at (expression_code num e) (h + expression_words e)
          → Spans (at + length (expression_code num e)) (expressions_code num es) (h + 1 + expressions_words es)
          → Spans at (expression_code num e ++ expressions_code num es) (h + more (expression_words e) (suc (expressions_words es)))
      arg_join e es at h x y =
          as_span at (expression_code num e ++ expressions_code num es) (h + more (expression_words e) (1 + expressions_words es)) (h + more (expression_words e) (suc (expressions_words es)))
          (ap (λ k. h + more (expression_words e) k) (let u : 1 + expressions_words es ≡ suc (expressions_words es) = omega arith in u))
          (two_spans at h (expression_words e) 1 (expressions_words es) (expression_code num e) (expressions_code num es) x y)

      mutual
        pub expression_span : (e : Expression) (at h : ℕ) (s : Stack) → length s ≡ h → TypedExpression Nothing G h e → Has c at (expression_code num e) → S CG c at ≡ Some s
            → at + length (expression_code num e) < length c → Arrives at → Spans at (expression_code num e) (h + expression_words e)
        expression_span (T.Literal v o) at h s l t has z lt a =
            one_span at h (push v) s (Typing.value_sort G v) l has.0 (push_next at v) z (expression_good (T.Literal v o) at h s l t has z lt).1 a
        expression_span (T.Me o) at h s l t has z lt a = one_span at h I.SelfRef s (ClassSort kt.name.name.0) l has.0 refl z (expression_good (T.Me o) at h s l t has z lt).1 a
        expression_span (T.Variable x o) at h s l t has z lt a = one_span at h (load num x) s (name_sort G x) l has.0 (load_next at x) z (expression_good (T.Variable x o) at h s l t has z lt).1 a
        expression_span (T.Create k o) at h s l t has z lt a =
            one_span at h (I.New (name k)) s (sort_of G (T.Create k o)) l has.0 refl z (expression_good (T.Create k o) at h s l t has z lt).1 a
        expression_span (T.Prefix op e o) at h s l t has z lt a =
            let code = expression_code num e in
            let n = length-append code (I.Oper op ∷ []) in
            let f = front c at code (I.Oper op ∷ []) has in
            let b = back c at code (I.Oper op ∷ []) has in
            let x = expression_span e at h s l t.2 f z (omega (arith, lt, n)) a in
            let y = (expression_good e at h s l t.2 f z (omega (arith, lt, n))).1 in
            let le = x.last (sort_of G e ∷ s) y in
            span_tail CG c ok some at code (I.Oper op) (h + expression_words e) (op_sort op ∷ s) x b.0 refl (expression_good (T.Prefix op e o) at h s l t has z lt).1 (omega (arith, le, l))
        expression_span (T.Infix op d e o) at h s l t has z lt a =
            let tr = none_is (λ z. TypedExpression z G (h + 1) e) _ t.3 in
            let dc = expression_code num d in
            let ec = expression_code num e in
            let n1 = length-append dc (ec ++ I.Oper op ∷ []) in
            let n2 = length-append ec (I.Oper op ∷ []) in
            let f = front c at dc (ec ++ I.Oper op ∷ []) has in
            let b = back c at dc (ec ++ I.Oper op ∷ []) has in
            let f2 = front c (at + length dc) ec (I.Oper op ∷ []) b in
            let b2 = back c (at + length dc) ec (I.Oper op ∷ []) b in
            let x = expression_span d at h s l t.2 f z (omega (arith, lt, n1)) a in
            let zx = (expression_good d at h s l t.2 f z (omega (arith, lt, n1))).1 in
            let y = expression_span e (at + length dc) (h + 1) (sort_of G d ∷ s) (omega (arith, l)) tr f2 zx (omega (arith, lt, n1, n2)) x.ends in
            let after = ap (S CG c) (let u : at + length dc + length (ec ++ I.Oper op ∷ []) ≡ at + length (dc ++ (ec ++ I.Oper op ∷ [])) = omega (arith, n1) in u)
            ∙ (expression_good (T.Infix op d e o) at h s l t has z lt).1 in
            let w = span_tail CG c ok some (at + length dc) ec (I.Oper op) (h + 1 + expression_words e) (op_sort op ∷ s) y b2.0 refl after (omega (arith, l)) in
            as_span at (dc ++ (ec ++ I.Oper op ∷ [])) (h + more (expression_words d) (1 + expression_words e)) (h + more (expression_words d) (suc (expression_words e)))
            (ap (λ k. h + more (expression_words d) k) (let u : 1 + expression_words e ≡ suc (expression_words e) = omega arith in u))
            (two_spans at h (expression_words d) 1 (expression_words e) dc (ec ++ I.Oper op ∷ []) x w)
        expression_span (T.Call m es o) at h s l t has z lt a =
            let i = taken_is (own_method G m) (size es) t.1 in
            let args = subst (λ (z : Option MethodTree). TypedArguments Nothing G h (params_of z) es) i.1 t.2 in
            let ec = expressions_code num es in
            let n = length-append ec (I.Call (name m) ∷ []) in
            let f = front c at ec (I.Call (name m) ∷ []) has in
            let b = back c at ec (I.Call (name m) ∷ []) has in
            let x = expressions_span i.0.params es at h s l args f z (omega (arith, lt, n)) a in
            let zx = ((expressions_good i.0.params es at h s l args).0 f z (omega (arith, lt, n))).1 in
            let ol = onto_length (sorts_of es) s in
            let sl = sorts_length es in
            call_span at h (expressions_words es) (size es) ec (I.Call (name m)) s (onto (sorts_of es) s) (Typing.own_sort G m) l (omega (arith, ol, sl, l)) (no_words es) x zx b.0 refl
            (expression_good (T.Call m es o) at h s l t has z lt).1
        expression_span (T.Send e m es o) at h s l t has z lt a =
            let args = none_is (λ z. TypedArguments z G (h + 1) (params_of (sent_method G (sort_of G e) m)) es) _ t.3 in
            let vs = params_of (sent_method G (sort_of G e) m) in
            let dc = expression_code num e in
            let ec = expressions_code num es in
            let i = I.Send (name m) (size es) in
            let n1 = length-append dc (ec ++ i ∷ []) in
            let n2 = length-append ec (i ∷ []) in
            let f = front c at dc (ec ++ i ∷ []) has in
            let b = back c at dc (ec ++ i ∷ []) has in
            let f2 = front c (at + length dc) ec (i ∷ []) b in
            let b2 = back c (at + length dc) ec (i ∷ []) b in
            let x = expression_span e at h s l t.1 f z (omega (arith, lt, n1)) a in
            let zx = (expression_good e at h s l t.1 f z (omega (arith, lt, n1))).1 in
            let y = expressions_span vs es (at + length dc) (h + 1) (sort_of G e ∷ s) (omega (arith, l)) args f2 zx (omega (arith, lt, n1, n2)) x.ends in
            let after = ap (S CG c) (let u : at + length dc + length (ec ++ i ∷ []) ≡ at + length (dc ++ (ec ++ i ∷ [])) = omega (arith, n1) in u)
            ∙ (expression_good (T.Send e m es o) at h s l t has z lt).1 in
            let w = span_tail CG c ok some (at + length dc) ec i (h + 1 + expressions_words es) (Typing.send_sort p (sort_of G e) m ∷ s) y b2.0 refl after (omega (arith, l)) in
            as_span at (dc ++ (ec ++ i ∷ [])) (h + more (expression_words e) (1 + expressions_words es)) (h + more (expression_words e) (suc (expressions_words es)))
            (ap (λ k. h + more (expression_words e) k) (let u : 1 + expressions_words es ≡ suc (expressions_words es) = omega arith in u))
            (two_spans at h (expression_words e) 1 (expressions_words es) dc (ec ++ i ∷ []) x w)
        expression_span (T.Frame m ts ss e qs) at h s l t has z lt a = absurd (let z : false ≡ true = t.0 in cc)
        expression_span (T.Wait b m) at h s l t has z lt a = absurd (let z : false ≡ true = t.0 in cc)

        pub expressions_span : (vs : List Var) (es : Expressions) (at h : ℕ) (s : Stack) → length s ≡ h → TypedArguments Nothing G h vs es → Has c at (expressions_code num es) → S CG c at ≡ Some s
            → at + length (expressions_code num es) < length c → Arrives at → Spans at (expressions_code num es) (h + expressions_words es)
        expressions_span vs T.NoArgs at h s l t has z lt a =
            as_span at [] (length a.0) (h + 0)
            (ap (λ (y : Stack). length y) (same_some (sym (comes_stack CG c ok some at a) ∙ z)) ∙ (let u : length s ≡ h + 0 = omega (arith, l) in u)) (span_nil CG c ok some at a)
        expressions_span [] (T.Arg e es) at h s l t has z lt a =
            let dc = expression_code num e in
            let ec = expressions_code num es in
            let n1 = length-append dc ec in
            let args = none_is (λ z. TypedArguments z G (h + 1) [] es) _ t.2 in
            let f = front c at dc ec has in
            let b = back c at dc ec has in
            let x = expression_span e at h s l t.0 f z (omega (arith, lt, n1)) a in
            let zx = (expression_good e at h s l t.0 f z (omega (arith, lt, n1))).1 in
            arg_join e es at h x (expressions_span [] es (at + length dc) (h + 1) (sort_of G e ∷ s) (omega (arith, l)) args b zx (omega (arith, lt, n1)) x.ends)
        expressions_span (v ∷ vs) (T.Arg e es) at h s l t has z lt a =
            let dc = expression_code num e in
            let ec = expressions_code num es in
            let n1 = length-append dc ec in
            let args = none_is (λ z. TypedArguments z G (h + 1) vs es) _ t.2 in
            let f = front c at dc ec has in
            let b = back c at dc ec has in
            let x = expression_span e at h s l t.0 f z (omega (arith, lt, n1)) a in
            let zx = (expression_good e at h s l t.0 f z (omega (arith, lt, n1))).1 in
            arg_join e es at h x (expressions_span vs es (at + length dc) (h + 1) (sort_of G e ∷ s) (omega (arith, l)) args b zx (omega (arith, lt, n1)) x.ends)

      -- an expression and an instruction that takes its value
      taking_span : (e : Expression) (at : ℕ) (i : Instr) → TypedExpression Nothing G (length base) e → nexts (at + length (expression_code num e)) i ≡ suc (at + length (expression_code num e)) ∷ []
          → Gets at (expression_code num e ++ i ∷ []) base base → Has c at (expression_code num e ++ i ∷ []) → S CG c at ≡ Some base → at + length (expression_code num e ++ i ∷ []) < length c → Arrives at
          → Spans at (expression_code num e ++ i ∷ []) (length base + expression_words e)
      taking_span e at i t next good has z lt a =
          let code = expression_code num e in
          let n = length-append code (i ∷ []) in
          let x = expression_span e at (length base) base refl t (front c at code (i ∷ []) has) z (omega (arith, lt, n)) a in
          span_tail CG c ok some at code i (length base + expression_words e) base x (back c at code (i ∷ []) has).0 next (good has z lt).1 (omega arith)

      bare_span : (at : ℕ) (i : Instr) → slice_get c at ≡ Some i → nexts at i ≡ suc at ∷ [] → S CG c at ≡ Some base → S CG c (at + 1) ≡ Some base → Arrives at → Spans at (i ∷ []) (length base + 0)
      bare_span at i e next z after a =
          span_one CG c ok some at i base base (length base + 0) e next z (ap (S CG c) (let w : suc at ≡ at + 1 = omega arith in w) ∙ after) a (omega arith) (omega arith) (inl (let w : length base + 0 ≡ length base = omega arith in w))

      -- at a place with the operands below alone
      base_at : (n q : ℕ) → S CG c q ≡ Some base → AtMost CG c ok some (length base + n) q
      base_at n q z t e = let y : length base ≡ length t = ap (λ (x : Stack). length x) (same_some (sym z ∙ e)) in omega (arith, y)

      guards_span : (alts : Alternatives) (at h : ℕ) (s : Stack) → length s ≡ h → TypedAlternatives Nothing G h alts → Has c at (guards_code num alts) → S CG c at ≡ Some s
          → at + length (guards_code num alts) < length c → Arrives at → Spans at (guards_code num alts) (h + guards_words alts)
      guards_span T.NoAlts at h s l t has z lt a =
          as_span at [] (length a.0) (h + 0)
          (ap (λ (y : Stack). length y) (same_some (sym (comes_stack CG c ok some at a) ∙ z)) ∙ (let u : length s ≡ h + 0 = omega (arith, l) in u)) (span_nil CG c ok some at a)
      guards_span (T.Alt e n ss alts) at h s l t has z lt a =
          let dc = expression_code num e in
          let ec = guards_code num alts in
          let n1 = length-append dc ec in
          let f = front c at dc ec has in
          let b = back c at dc ec has in
          let x = expression_span e at h s l t.0 f z (omega (arith, lt, n1)) a in
          let zx = (expression_good e at h s l t.0 f z (omega (arith, lt, n1))).1 in
          let y = guards_span alts (at + length dc) (h + 1) (sort_of G e ∷ s) (omega (arith, l)) (none_is (λ z. TypedAlternatives z G (h + 1) alts) _ t.4) b zx (omega (arith, lt, n1)) x.ends in
          as_span at (dc ++ ec) (h + more (expression_words e) (1 + guards_words alts)) (h + more (expression_words e) (suc (guards_words alts)))
          (ap (λ k. h + more (expression_words e) k) (let u : 1 + guards_words alts ≡ suc (guards_words alts) = omega arith in u))
          (two_spans at h (expression_words e) 1 (guards_words alts) dc ec x y)

      -- the greater of two is met where both are
      met_more : (m n : ℕ) → Met CG c ok some (length base + m) → Met CG c ok some (length base + n) → Met CG c ok some (length base + more m n)
      met_more m n x y = by (most_of (length base) m n)
        where
          by : (length base + more m n ≡ length base + m) ⊎ (length base + more m n ≡ length base + n) → Met CG c ok some (length base + more m n)
          by (inl e) = subst (Met CG c ok some) (sym e) x
          by (inr e) = subst (Met CG c ok some) (sym e) y

      abbrev Works : ℕ → Alternatives → Type 0
      Works last T.NoAlts = Unit {0}
      Works last (T.Alt e n ss alts) = Met CG c ok some (length base + works_words (T.Alt e n ss alts)) × Arrives last

      at_least : (alts : Alternatives) (last : ℕ) → IsTrue (is_some_alternative alts) → Works last alts → Met CG c ok some (length base + works_words alts) × Arrives last
      at_least T.NoAlts last k w = absurd (let z : false ≡ true = k in cc)
      at_least (T.Alt e n ss alts) last k w = w

      work_met : (w last : ℕ) (alts : Alternatives) → Met CG c ok some (length base + w) → Works last alts → Met CG c ok some (length base + more w (works_words alts))
      work_met w last T.NoAlts x y = by (more_is w 0).2
        where
          by : (more w 0 ≡ w) ⊎ (more w 0 ≡ 0) → Met CG c ok some (length base + more w 0)
          by (inl e) = subst (Met CG c ok some) (ap (λ k. length base + k) (sym e)) x
          by (inr e) = let k = (more_is w 0).0 in subst (Met CG c ok some) (let u : length base + w ≡ length base + more w 0 = omega (arith, k, e) in u) x
      work_met w last (T.Alt e n ss alts) x y = met_more w (works_words (T.Alt e n ss alts)) x y.0

      mutual
        statement_span : (st : Statement) (at : ℕ) → TypedStatement Nothing G st → IsTrue (has_choices st) → Has c at (statement_code num at st) → S CG c at ≡ Some base
            → at + length (statement_code num at st) < length c → Arrives at → Spans at (statement_code num at st) (length base + statement_words st)
        statement_span (T.Assign x o e) at t k has z lt a = taking_span e at (store num x) t.1 (store_next _ x) (statement_good (T.Assign x o e) at t) has z lt a
        statement_span (T.Write e) at t k has z lt a = taking_span e at I.Write t.0 refl (statement_good (T.Write e) at t) has z lt a
        statement_span (T.WriteText n) at t k has z lt a = bare_span at (I.WriteText (name n)) has.0 refl z (statement_good (T.WriteText n) at t has z lt).1 a
        statement_span (T.Do e) at t k has z lt a = taking_span e at I.Pop t refl (statement_good (T.Do e) at t) has z lt a
        statement_span (T.Async e m o es) at t k has z lt a =
            let args = none_is (λ z. TypedArguments z G (length base + 1) (params_of (sent_method G (sort_of G e) m)) es) _ t.2 in
            let vs = params_of (sent_method G (sort_of G e) m) in
            let dc = expression_code num e in
            let ec = expressions_code num es in
            let i = I.Async (name m) (size es) in
            let n1 = length-append dc (ec ++ i ∷ []) in
            let n2 = length-append ec (i ∷ []) in
            let f = front c at dc (ec ++ i ∷ []) has in
            let b = back c at dc (ec ++ i ∷ []) has in
            let f2 = front c (at + length dc) ec (i ∷ []) b in
            let b2 = back c (at + length dc) ec (i ∷ []) b in
            let x = expression_span e at (length base) base refl t.0 f z (omega (arith, lt, n1)) a in
            let zx = (expression_good e at (length base) base refl t.0 f z (omega (arith, lt, n1))).1 in
            let y = expressions_span vs es (at + length dc) (length base + 1) (sort_of G e ∷ base) (omega arith) args f2 zx (omega (arith, lt, n1, n2)) x.ends in
            let after = ap (S CG c) (let u : at + length dc + length (ec ++ i ∷ []) ≡ at + length (dc ++ (ec ++ i ∷ [])) = omega (arith, n1) in u)
            ∙ (statement_good (T.Async e m o es) at t has z lt).1 in
            let w = span_tail CG c ok some (at + length dc) ec i (length base + 1 + expressions_words es) base y b2.0 refl after (omega arith) in
            as_span at (dc ++ (ec ++ i ∷ [])) (length base + more (expression_words e) (1 + expressions_words es)) (length base + more (expression_words e) (suc (expressions_words es)))
            (ap (λ k. length base + more (expression_words e) k) (let u : 1 + expressions_words es ≡ suc (expressions_words es) = omega arith in u))
            (two_spans at (length base) (expression_words e) 1 (expressions_words es) dc (ec ++ i ∷ []) x w)
        statement_span (T.If e these those) at t k has z lt a =
            let test = expression_code num e in
            let m = at + length test in
            let yes = suc m in
            let first = statements_code num yes these in
            let j = yes + length first in
            let other = suc j in
            let second = statements_code num other those in
            let branch = I.Branch other in
            let jump = I.Jump (other + length second) in
            let l1 = length-append test (branch ∷ (first ++ jump ∷ second)) in
            let l2 = length-append first (jump ∷ second) in
            let b = back c at test (branch ∷ (first ++ jump ∷ second)) has in
            let d = back c yes first (jump ∷ second) b.1 in
            let fx = front c at test (branch ∷ (first ++ jump ∷ second)) has in
            let g = expression_good e at (length base) base refl t.0 fx z (omega (arith, lt, l1)) in
            let x = expression_span e at (length base) base refl t.0 fx z (omega (arith, lt, l1)) a in
            let pop = bool_left (sort_of G e) (fits_of_need (sort_of G e) BoolSort (whole e (length base) t.0) refl t.1) in
            let zy = after_one CG c m branch (sort_of G e ∷ base) base b.0 g.1 pop in
            let cy : Comes CG c ok some yes = comes_next CG c ok some m branch yes x.ends b.0 (inl refl) in
            let co : Comes CG c ok some other = comes_next CG c ok some m branch other x.ends b.0 (inr (inl refl)) in
            let ff = front c yes first (jump ∷ second) b.1 in
            let k2 = both_true (have_choices these) (have_choices those) k in
            let f = statements_span these yes t.2 k2.0 ff zy (omega (arith, lt, l1, l2)) cy in
            let gf = statements_good these yes t.2 ff zy (omega (arith, lt, l1, l2)) in
            let zo = after_one CG c j jump base base d.0 gf.1 refl in
            let s = statements_span those other t.3 k2.1 d.1 zo (omega (arith, lt, l1, l2)) co in
            let inner = more_is (statements_words these) (statements_words those) in
            let outer = more_is (expression_words e) (more (statements_words these) (statements_words those)) in
            let n = more (expression_words e) (more (statements_words these) (statements_words those)) in
            let i0 = inner.0 in
            let i1 = inner.1 in
            let o1 = outer.1 in
            let end : other + length second ≡ at + length (test ++ branch ∷ (first ++ jump ∷ second)) = omega (arith, l1, l2) in
            record {
              within = join_at_most CG c ok some (length base + n) at test (branch ∷ (first ++ jump ∷ second)) (more_at_most CG c ok some (length base + expression_words e) (length base + n) at test (let o = outer.0 in omega (arith, o)) x.within) (
                λ u v. let y = x.last u v in let o = outer.0 in omega (arith, y, o),
                join_at_most CG c ok some (length base + n) yes first (jump ∷ second) (more_at_most CG c ok some (length base + statements_words these) (length base + n) yes first (omega (arith, i0, o1)) f.within)
                    (base_at n j gf.1, more_at_most CG c ok some (length base + statements_words those) (length base + n) other second (omega (arith, i1, o1)) s.within),
              );
              each = join_come CG c ok some at test (branch ∷ (first ++ jump ∷ second)) x.each (x.ends, join_come CG c ok some yes first (jump ∷ second) f.each (f.ends, s.each));
              last = subst (AtMost CG c ok some (length base + n)) end (λ u v. let y = s.last u v in omega (arith, y, i1, o1));
              ends = subst (Comes CG c ok some) end s.ends;
              met = met_more (expression_words e) (more (statements_words these) (statements_words those)) x.met (met_more (statements_words these) (statements_words those) f.met s.met);
            }
        statement_span (T.While e ss) at t k has z lt a =
            let test = expression_code num e in
            let m = suc at + length test in
            let go = suc m in
            let turn = statements_code num go ss in
            let j = go + length turn in
            let branch = I.Branch (suc j) in
            let jump = I.Jump at in
            let l1 = length-append test (branch ∷ (turn ++ jump ∷ [])) in
            let l2 = length-append turn (jump ∷ []) in
            let b = back c (suc at) test (branch ∷ (turn ++ jump ∷ [])) has.1 in
            let d = back c go turn (jump ∷ []) b.1 in
            let z1 = after_one CG c at I.Loop base base has.0 z refl in
            let c1 : Comes CG c ok some (suc at) = comes_next CG c ok some at I.Loop (suc at) a has.0 (inl refl) in
            let fx = front c (suc at) test (branch ∷ (turn ++ jump ∷ [])) has.1 in
            let g = expression_good e (suc at) (length base) base refl t.0 fx z1 (omega (arith, lt, l1)) in
            let x = expression_span e (suc at) (length base) base refl t.0 fx z1 (omega (arith, lt, l1)) c1 in
            let pop = bool_left (sort_of G e) (fits_of_need (sort_of G e) BoolSort (whole e (length base) t.0) refl t.1) in
            let zg = after_one CG c m branch (sort_of G e ∷ base) base b.0 g.1 pop in
            let cg : Comes CG c ok some go = comes_next CG c ok some m branch go x.ends b.0 (inl refl) in
            let cj : Comes CG c ok some (suc j) = comes_next CG c ok some m branch (suc j) x.ends b.0 (inr (inl refl)) in
            let ff = front c go turn (jump ∷ []) b.1 in
            let f = statements_span ss go t.2 k ff zg (omega (arith, lt, l1, l2)) cg in
            let gf = statements_good ss go t.2 ff zg (omega (arith, lt, l1, l2)) in
            let outer = more_is (expression_words e) (statements_words ss) in
            let n = more (expression_words e) (statements_words ss) in
            let end : suc j ≡ at + length (I.Loop ∷ (test ++ branch ∷ (turn ++ jump ∷ []))) = omega (arith, l1, l2) in
            record {
              within = (
                base_at n at z,
                join_at_most CG c ok some (length base + n) (suc at) test (branch ∷ (turn ++ jump ∷ [])) (more_at_most CG c ok some (length base + expression_words e) (length base + n) (suc at) test (let o = outer.0 in omega (arith, o)) x.within) (
                  λ u v. let y = x.last u v in let o = outer.0 in omega (arith, y, o),
                  join_at_most CG c ok some (length base + n) go turn (jump ∷ []) (more_at_most CG c ok some (length base + statements_words ss) (length base + n) go turn (let o = outer.1 in omega (arith, o)) f.within) (base_at n j gf.1, tt),
                ),
              );
              each = (a, join_come CG c ok some (suc at) test (branch ∷ (turn ++ jump ∷ [])) x.each (x.ends, join_come CG c ok some go turn (jump ∷ []) f.each (f.ends, tt)));
              last = λ u v. base_at n (at + length (I.Loop ∷ (test ++ branch ∷ (turn ++ jump ∷ [])))) (statement_good (T.While e ss) at t has z lt).1 u v;
              ends = subst (Comes CG c ok some) end cj;
              met = met_more (expression_words e) (statements_words ss) x.met f.met;
            }
        statement_span (T.Answer ns) at t k has z lt a = bare_span at (I.Answer (map (λ n. n.name) ns)) has.0 refl z (statement_good (T.Answer ns) at t has z lt).1 a
        statement_span (T.Select alts) at t k has z lt a =
            let gs = guards_code num alts in
            let m = at + length gs in
            let go = suc m in
            let last = go + length (alternatives_code num go 0 alts) in
            let works = alternatives_code num go last alts in
            let targets = alternatives_at num go alts in
            let i = I.Select targets in
            let l1 = length-append gs (i ∷ works) in
            let l2 = works_length (Some (class_code kt)) c num alts go 0 last in
            let b = back c at gs (i ∷ works) has in
            let fg = front c at gs (i ∷ works) has in
            let gg = (guards_good alts at (length base) base refl t).0 fg z (omega (arith, lt, l1)) in
            let x = guards_span alts at (length base) base refl t fg z (omega (arith, lt, l1)) a in
            let pop : left_by CG i (onto (guards_sorts alts) base) ≡ Some base = ap (λ n. pop_arguments (replicate n K.Bool) (onto (guards_sorts alts) base)) (count_at alts go) ∙ guards_fit alts (length base) base t in
            let zg = after_one CG c m i (onto (guards_sorts alts) base) base b.0 gg.1 pop in
            let k2 = both_true (is_some_alternative alts) (works_have_choices alts) k in
            let w = works_span alts (length base) go last t k2.1 b.1 zg (omega (arith, lt, l1)) (λ to h. comes_next CG c ok some m i to x.ends b.0 h) in
            let outer = more_is (guards_words alts) (works_words alts) in
            let n = more (guards_words alts) (works_words alts) in
            let some_work = at_least alts last k2.0 w.1 in
            let end : last ≡ at + length (gs ++ i ∷ works) = omega (arith, l1, l2) in
            record {
              within = join_at_most CG c ok some (length base + n) at gs (i ∷ works) (more_at_most CG c ok some (length base + guards_words alts) (length base + n) at gs (let o = outer.0 in omega (arith, o)) x.within)
                  (λ u v. let y = x.last u v in let o = outer.0 in omega (arith, y, o), more_at_most CG c ok some (length base + works_words alts) (length base + n) go works (let o = outer.1 in omega (arith, o)) w.0);
              each = join_come CG c ok some at gs (i ∷ works) x.each (x.ends, w.2);
              last = λ u v. base_at n (at + length (gs ++ i ∷ works)) (statement_good (T.Select alts) at t has z lt).1 u v;
              ends = subst (Comes CG c ok some) end some_work.1;
              met = met_more (guards_words alts) (works_words alts) x.met some_work.0;
            }
        statement_span (T.Serve m w ts ss e qs) at t k has z lt a = absurd (let z : false ≡ true = t.0 in cc)

        pub statements_span : (ss : Statements) (at : ℕ) → TypedStatements Nothing G ss → IsTrue (have_choices ss) → Has c at (statements_code num at ss) → S CG c at ≡ Some base
            → at + length (statements_code num at ss) < length c → Arrives at → Spans at (statements_code num at ss) (length base + statements_words ss)
        statements_span T.Done at t k has z lt a =
            as_span at [] (length a.0) (length base + 0)
            (ap (λ (y : Stack). length y) (same_some (sym (comes_stack CG c ok some at a) ∙ z)) ∙ (let u : length base ≡ length base + 0 = omega arith in u)) (span_nil CG c ok some at a)
        statements_span (T.Then st ss) at t k has z lt a =
            let dc = statement_code num at st in
            let ec = statements_code num (at + length dc) ss in
            let n1 = length-append dc ec in
            let f = front c at dc ec has in
            let b = back c at dc ec has in
            let k2 = both_true (has_choices st) (have_choices ss) k in
            let x = statement_span st at t.0 k2.0 f z (omega (arith, lt, n1)) a in
            let zx = (statement_good st at t.0 f z (omega (arith, lt, n1))).1 in
            let y = statements_span ss (at + length dc) t.1 k2.1 b zx (omega (arith, lt, n1)) x.ends in
            let o = more_is (statement_words st) (statements_words ss) in
            span_seq CG c ok some at dc ec (length base + statement_words st) (length base + statements_words ss) (length base + more (statement_words st) (statements_words ss)) x y
            (let u = o.0 in omega (arith, u)) (let u = o.1 in omega (arith, u)) (most_of (length base) (statement_words st) (statements_words ss))

        works_span : (alts : Alternatives) (h at last : ℕ) → TypedAlternatives Nothing G h alts → IsTrue (works_have_choices alts) → Has c at (alternatives_code num at last alts) → S CG c at ≡ Some base
            → at + length (alternatives_code num at last alts) < length c → ((to : ℕ) → IsAmong to (map (λ a. a.at) (alternatives_at num at alts)) → Arrives to)
            → AllAtMost CG c ok some (length base + works_words alts) at (alternatives_code num at last alts) × Works last alts × AllCome CG c ok some at (alternatives_code num at last alts)
        works_span T.NoAlts h at last t k has z lt come = (tt, tt, tt)
        works_span (T.Alt e n ss alts) h at last t k has z lt come =
            let w = statements_code num at ss in
            let j = at + length w in
            let rest = alternatives_code num (suc j) last alts in
            let l1 = length-append w (I.Jump last ∷ rest) in
            let b = back c at w (I.Jump last ∷ rest) has in
            let ff = front c at w (I.Jump last ∷ rest) has in
            let k2 = both_true (have_choices ss) (works_have_choices alts) k in
            let f = statements_span ss at t.3 k2.0 ff z (omega (arith, lt, l1)) (come at (inl refl)) in
            let gf = statements_good ss at t.3 ff z (omega (arith, lt, l1)) in
            let zj = after_one CG c j (I.Jump last) base base b.0 gf.1 refl in
            let r = works_span alts (h + 1) (suc j) last (none_is (λ z. TypedAlternatives z G (h + 1) alts) _ t.4) k2.1 b.1 zj (omega (arith, lt, l1)) (λ to x. come to (inr x)) in
            let o = more_is (statements_words ss) (works_words alts) in
            let n = more (statements_words ss) (works_words alts) in (
              join_at_most CG c ok some (length base + n) at w (I.Jump last ∷ rest) (more_at_most CG c ok some (length base + statements_words ss) (length base + n) at w (let u = o.0 in omega (arith, u)) f.within)
                  (base_at n j gf.1, more_at_most CG c ok some (length base + works_words alts) (length base + n) (suc j) rest (let u = o.1 in omega (arith, u)) r.0),
              (work_met (statements_words ss) last alts f.met r.1, comes_next CG c ok some j (I.Jump last) last f.ends b.0 (inl refl)),
              join_come CG c ok some at w (I.Jump last ∷ rest) f.each (f.ends, r.2),
            )
