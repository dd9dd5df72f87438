-- The code of a program without class faults is proper.
use Rattle.std.proofs.Common.{◌≡◌, ◌≢◌, refl, sym, ap, ◌∙◌, subst, IsTrue, ℕ, zero, suc, ◌+◌, ◌==◌, ◌<◌, ◌≤◌, ◌^◌, List, [], ◌∷◌, ◌++◌, length, Option, Some, None, Bool, true, false, arith, length-append}
use Rattle.std.specs.Prelude.{slice_get, map}
use Rattle.std.proofs.lemmas.List.{length-map}
use Rattle.pool_syntax.specs.declared.tree.Var.{Var}
use Rattle.pool_syntax.specs.Terms.{MethodTree, ClassTree, ProgramTree, Statements, Done, Then}
use Rattle.pool_syntax.specs.Classes.{class_of, named_method}
use Rattle.text_scan.specs.Keywords.{is_name}
use Rattle.pool_syntax.specs.Spelled.{is_outcome, are_variables, is_spelled_expression, are_spelled_statements, are_spelled_methods, is_spelled}
use Rattle.pool_syntax.specs.Typing.{Scope, fault_if, vars_faults, methods_of_class, method_tree_faults, methods_faults, statements_faults, class_scope, classes_faults, faults}
use Rattle.run_types.proofs.Laws.{first, second}
use Rattle.pool_syntax.specs.Written.{are_written, is_written}
use Rattle.pool_syntax.specs.SourceParts.{is_source, are_source_statements, is_value_for}
use Rattle.pool_relation.proofs.Laws.{vars_known, methods_checked, class_known, AllKnown, MethodKnown, Known, classes_few as few_classes}
use Rattle.code_semantics.specs.declared.unit.Instr.TheVariants as I
use Rattle.code_semantics.specs.declared.unit.MethodCode.{MethodCode}
use Rattle.code_semantics.specs.declared.unit.ClassCode.{ClassCode}
use Rattle.code_semantics.specs.declared.unit.Unit.{Unit as Code}
use Rattle.code_semantics.specs.Proper.{IsProperCode, IsProperClass, IsProper}
use Rattle.pool_compile.specs.Code.{Numbering, names_of, statements_code, expression_code, method_instrs, body_instrs, method_code_of, class_code, code, post_code}
use Rattle.pool_compile.specs.Small.{AreShortMethods, IsShortClass, AreShort}
use Rattle.pool_compile.proofs.PartCounts.{counted_statements}
use Rattle.pool_compile.proofs.NamesExist.{AllFit, fit_append, fit_at, exists_of, text_there, Ground, expression_fits, statements_fit}
use Rattle.pool_compile.proofs.Limits.{class_parts, method_parts, method_within, no_more}
use Rattle.pool_compile.proofs.ProperLaws.{fine_here, body_fine, method_fine, body_proper, method_proper}

-- a part of a list whose parts are functions of others
at_map : {A B : Type 0} (f : A → B) (x : A) (xs : List A) (y : B) → slice_get (map f (x ∷ xs)) 0 ≡ Some y → f x ≡ y
at_map f x xs y e = grind (arith, e)

-- a method of a class has at most 8 parameters
few_of_class : (p : ProgramTree) (c m : ℕ) (mt : MethodTree) → faults p ≡ [] → named_method (methods_of_class (class_of p c)) m ≡ Some mt → length mt.params ≤ 8
few_of_class p c m mt h e = by (class_of p c) refl e
  where
    by : (o : Option ClassTree) → class_of p c ≡ o → named_method (methods_of_class o) m ≡ Some mt → length mt.params ≤ 8
    by None i f = absurd (grind (arith, f))
    by (Some k) i f = few_classes p [] p c m k mt h i f

-- the kinds of a class without faults are known
class_kinds : (p : ProgramTree) (k : ClassTree) → vars_faults p 3 [] k.vars ≡ [] → methods_faults (class_scope p k) [] k.methods ≡ [] → IsTrue (are_written k.methods) → Known p (Some k)
class_kinds p k v f w = record { vars = vars_known p 3 [] k.vars v; methods = λ m. by m (named_method k.methods m) refl }
  where
    by : (m : ℕ) (o : Option MethodTree) → named_method k.methods m ≡ o → MethodKnown p o
    by m None e = tt {0}
    by m (Some mt) e = let c = methods_checked (class_scope p k) [] k.methods m mt f w e in (c.0.params, c.0.locals, c.0.outcome)

module _ (p : ProgramTree) (u : Code) (same : u.classes ≡ code p) (h : faults p ≡ []) (w : IsTrue (is_written p)) where
  module _ (k : ClassTree) (kinds : Known p (Some k)) where
    scope : List Var → Scope
    scope temps = record (class_scope p k) { temps = temps }

    ground : (temps : List Var) → AllKnown p temps → Ground (record (class_scope p k) { temps = temps })
    ground temps known = record {
      own = kinds;
      temps = known;
      all = λ c. class_known p c h w;
      written = refl;
      few = λ c m mt e. few_of_class p c m mt h e;
    }

    -- the code of a body
    body_is_proper : are_spelled_statements u.names k.body ≡ true → statements_faults (class_scope p k) k.body ≡ [] → IsTrue (are_source_statements k.body)
        → length (class_code k).body.code < 2 ^ 32 → IsProperCode u (Some (class_code k)) 0 (class_code k).body.code × ((at : ℕ) → slice_get (class_code k).body.code at ≢ Some I.Ret)
    body_is_proper s f t short =
        let num : Numbering = record { temps = []; vars = names_of k.vars } in
        let c = body_instrs num k.body in
        let kc = Some (class_code k) in
        let counted = counted_statements k (class_scope p k) refl k.body t f in
        let fit : AllFit ⊥ u kc 0 c =
        fit_append ⊥ u kc 0 (statements_code num 0 k.body) (I.Halt ∷ []) (statements_fit u.names (class_scope p k) (ground [] (tt {0})) u k ⊥ same refl refl k.body 0 s f) (tt {0}, tt {0}) in (
          body_proper u kc num k.body counted (omega (arith, short)) (λ at i e. exists_of ⊥ u kc 0 c at i (fine_here kc c at i (body_fine kc num k.body counted) e) (fit_at ⊥ u kc 0 c at i fit e)),
          λ at e. fit_at ⊥ u kc 0 c at I.Ret fit e,
        )

    -- what stands behind the value of a method
    post_fits : (temps : List Var) → AllKnown p temps → (at : ℕ) (qs : Statements) → are_spelled_statements u.names qs ≡ true
        → statements_faults (record (class_scope p k) { temps = temps; held = 1 }) qs ≡ []
        → AllFit (Unit {0}) u (Some (class_code k)) (length temps) (post_code (record { temps = names_of temps; vars = names_of k.vars }) at qs)
    post_fits temps known at Done s f = (tt {0}, tt {0})
    post_fits temps known at (Then st qs) s f =
        let g : Scope = record (class_scope p k) { temps = temps; held = 1 } in
        let q = ground temps known in
        let num : Numbering = record { temps = names_of temps; vars = names_of k.vars } in
        let behind : Ground g = record { own = q.own; temps = q.temps; all = q.all; written = q.written; few = q.few } in (
          tt {0},
          fit_append (Unit {0}) u (Some (class_code k)) (length temps) (statements_code num (suc at) (Then st qs)) (I.Ret ∷ [])
              (statements_fit u.names g behind u k (Unit {0}) same refl refl (Then st qs) (suc at) s f) (tt {0}, tt {0}),
        )

    method_is_proper : (m : MethodTree) → are_spelled_statements u.names m.body ≡ true → is_spelled_expression u.names m.value ≡ true → are_spelled_statements u.names m.post ≡ true → method_tree_faults (class_scope p k) m ≡ []
        → IsTrue (are_source_statements m.body) → IsTrue (is_source m.value) → IsTrue (are_source_statements m.post) → length (method_code_of (names_of k.vars) m).code < 2 ^ 32
        → IsProperCode u (Some (class_code k)) (length (m.params ++ m.locals)) (method_code_of (names_of k.vars) m).code
    method_is_proper m s v w f t i z short =
        let temps = m.params ++ m.locals in
        let g = record (class_scope p k) { temps = temps } in
        let num : Numbering = record { temps = names_of temps; vars = names_of k.vars } in
        let c = method_instrs num m.body m.value m.post in
        let end = 0 + length (statements_code num 0 m.body) + length (expression_code num m.value) in
        let kc = Some (class_code k) in
        let fine = method_within k (class_scope p k) m refl f t i z in
        let q = ground temps (vars_known p 5 [] temps fine.names) in
        let n = length temps in
        let fit : AllFit (Unit {0}) u kc n c =
        fit_append (Unit {0}) u kc n (statements_code num 0 m.body) (expression_code num m.value ++ post_code num end m.post) (statements_fit u.names g q u k (Unit {0}) same refl refl m.body 0 s fine.statements)
        (fit_append (Unit {0}) u kc n (expression_code num m.value) (post_code num end m.post) (expression_fits u.names g q u k (Unit {0}) same refl refl m.value 0 v fine.expression)
        (post_fits temps (vars_known p 5 [] temps fine.names) end m.post w fine.post_statements)) in
        method_proper u kc num n m.body m.value m.post fine.body fine.value fine.post (omega (arith, short))
        (λ at x e. exists_of (Unit {0}) u kc n c at x (fine_here kc c at x (method_fine kc num m.body m.value m.post fine.body fine.value fine.post) e) (fit_at (Unit {0}) u kc n c at x fit e))

    abbrev ProperMethod : MethodCode → Type 0
    ProperMethod m = (m.name.0 < length u.names) × (m.params ≤ 8) × (m.temps ≤ 32) × (m.params ≤ m.temps) × IsProperCode u (Some (class_code k)) m.temps m.code

    methods_proper : (before : List ℕ) (ms : List MethodTree) → methods_faults (class_scope p k) before ms ≡ [] → IsTrue (are_written ms) → are_spelled_methods u.names ms ≡ true
        → AreShortMethods (map (method_code_of (names_of k.vars)) ms) → (j : ℕ) (m : MethodCode) → slice_get (map (method_code_of (names_of k.vars)) ms) j ≡ Some m → ProperMethod m
    methods_proper before [] f r s short j m e = absurd (grind (arith, e))
    methods_proper before (x ∷ ms) f r s short zero m e =
        let a = method_parts (class_scope p k) before x ms f in
        let r4 = first _ (are_written ms) r in
        let r3 = first _ (are_source_statements x.post) r4 in
        let r2 = first _ (is_value_for x.outcome x.value) r3 in
        let later = second _ (are_source_statements x.post) r4 in
        let body = first (are_source_statements x.body) (is_source x.value) r2 in
        let value = second (are_source_statements x.body) (is_source x.value) r2 in
        let s0 = first _ (are_spelled_methods u.names ms) s in
        let s1 = first _ (are_spelled_statements u.names x.post) s0 in
        let s2 = first _ (is_spelled_expression u.names x.value) s1 in
        let s3 = first _ (are_spelled_statements u.names x.body) s2 in
        let s4 = first _ (is_outcome u.names x.outcome) s3 in
        let s5 = first _ (are_variables u.names x.locals) s4 in
        let s6 = first (is_name u.names x.name.name.0) (are_variables u.names x.params) s5 in
        let fine = method_within k (class_scope p k) x refl a.method body value later in
        subst ProperMethod (at_map (method_code_of (names_of k.vars)) x ms m e) (
          text_there _ u.names x.name.name.0 s6,
          fine.params,
          fine.temps,
          omega (arith, length-append x.params x.locals),
          method_is_proper x (second _ (are_spelled_statements u.names x.body) s2) (second _ (is_spelled_expression u.names x.value) s1) (second _ (are_spelled_statements u.names x.post) s0) a.method body value later short.0,
        )
    methods_proper before (x ∷ ms) f r s short (suc j) m e =
        methods_proper (x.name.name.0 ∷ before) ms (method_parts (class_scope p k) before x ms f).rest (second _ (are_written ms) r) (second _ (are_spelled_methods u.names ms) s) short.1 j m e

    methods_few : (before : List ℕ) (ms : List MethodTree) → methods_faults (class_scope p k) before ms ≡ [] → length before ≤ 64 → length before + length ms ≤ 64
    methods_few before [] f le = omega (arith, le)
    methods_few before (x ∷ ms) f le =
        let a = method_parts (class_scope p k) before x ms f in
        by (length before == 64) refl a.many (λ lt. methods_few (x.name.name.0 ∷ before) ms a.rest (omega (arith, lt)))
      where
        by : (b : Bool) → (length before == 64) ≡ b → fault_if b x.name.pos 12 ≡ [] → (length before < 64 → suc (length before) + length ms ≤ 64) → length before + suc (length ms) ≤ 64
        by true q f more = absurd (grind (arith, f))
        by false q f more =
            let ne : length before < 64 = grind (arith, q, le) in
            let m = more ne in
            omega (arith, m)

  class_proper : (k : ClassTree) (before : List ℕ) (ks : List ClassTree) → classes_faults p before (k ∷ ks) ≡ [] → IsTrue (is_written (k ∷ ks)) → is_spelled u.names (k ∷ ks) ≡ true
      → IsShortClass (class_code k) → IsProperClass u (class_code k)
  class_proper k before ks f r s short =
      let a = class_parts p before k ks f in
      let r3 = first _ (is_written ks) r in
      let body = first (are_source_statements k.body) (are_written k.methods) r3 in
      let methods = second (are_source_statements k.body) (are_written k.methods) r3 in
      let s1 = first _ (is_spelled u.names ks) s in
      let s2 = first _ (are_spelled_statements u.names k.body) s1 in
      let s3 = first _ (are_spelled_methods u.names k.methods) s2 in
      let s4 = first (is_name u.names k.name.name.0) (are_variables u.names k.vars) s3 in
      let kinds = class_kinds p k a.vars a.methods methods in
      let made = body_is_proper k kinds (second _ (are_spelled_statements u.names k.body) s1) a.body body short.0 in
      let few = methods_few k kinds [] k.methods a.methods (omega arith) in
      record {
        name = text_there _ u.names k.name.name.0 s4;
        limits = (no_more 64 k.vars a.few_vars, omega (arith, few, length-map k.methods (method_code_of (names_of k.vars))));
        body = made.0;
        no_ret = made.1;
        methods = methods_proper k kinds [] k.methods a.methods methods (second _ (are_spelled_methods u.names k.methods) s2) short.1;
      }

  classes_proper : (before : List ℕ) (ks : List ClassTree) → classes_faults p before ks ≡ [] → IsTrue (is_written ks) → is_spelled u.names ks ≡ true → AreShort (code ks)
      → (j : ℕ) (k : ClassCode) → slice_get (code ks) j ≡ Some k → IsProperClass u k
  classes_proper before [] f r s short j k e = absurd (grind (arith, e))
  classes_proper before (x ∷ ks) f r s short zero k e = subst (IsProperClass u) (at_map class_code x ks k e) (class_proper x before ks f r s short.0)
  classes_proper before (x ∷ ks) f r s short (suc j) k e =
      let a = class_parts p before x ks f in
      classes_proper (x.name.name.0 ∷ before) ks a.rest (second _ (is_written ks) r) (second _ (is_spelled u.names ks) s) short.1 j k e

  classes_few : (before : List ℕ) (ks : List ClassTree) → classes_faults p before ks ≡ [] → length before ≤ 256 → length before + length ks ≤ 256
  classes_few before [] f le = omega (arith, le)
  classes_few before (x ∷ ks) f le =
      let a = class_parts p before x ks f in
      by (length before == 256) refl a.many (λ lt. classes_few (x.name.name.0 ∷ before) ks a.rest (omega (arith, lt)))
    where
      by : (b : Bool) → (length before == 256) ≡ b → fault_if b x.name.pos 12 ≡ [] → (length before < 256 → suc (length before) + length ks ≤ 256) → length before + suc (length ks) ≤ 256
      by true q f more = absurd (grind (arith, f))
      by false q f more =
          let ne : length before < 256 = grind (arith, q, le) in
          let m = more ne in
          omega (arith, m)

  pub program_proper : p ≢ [] → is_spelled u.names p ≡ true → AreShort u.classes → IsProper u
  program_proper some s short =
      let n : length u.classes ≡ length p = ap length same ∙ length-map p class_code in
      let few = classes_few [] p h (omega arith) in
      let more : 0 < length p = by p some in
      record {
        classes = (omega (arith, n, more), omega (arith, n, few));
        each = λ j k e. classes_proper [] p h w s (subst AreShort same short) j k (ap (λ l. slice_get l j) (sym same) ∙ e);
      }
    where
      by : (ks : ProgramTree) → ks ≢ [] → 0 < length ks
      by [] n = absurd (n refl)
      by (x ∷ ks) n = omega arith
