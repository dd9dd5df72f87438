-- A program without class faults is small.
use Rattle.std.proofs.Common.{◌≡◌, ◌≢◌, refl, IsTrue, ℕ, zero, suc, ◌+◌, ◌-◌, ◌≤◌, ◌==◌, List, [], ◌∷◌, ◌++◌, length, Option, Some, true, arith, subst}
use Rattle.std.specs.Prelude.{map}
use Rattle.std.proofs.Math.Logic.{∥∥₁_elim}
use denote.Struct.Props.{props}
use Rattle.pool_syntax.specs.declared.tree.Var.{Var}
use Rattle.pool_grammar.specs.Grammatical.{IsGrammatical}
use Rattle.pool_syntax.specs.Terms as T
use Rattle.pool_syntax.specs.Terms.{Expression, Expressions, Statement, Statements, Alternatives, MethodTree, ClassTree, ProgramTree}
use Rattle.pool_syntax.specs.Typing.{Scope, expression_faults, statements_faults, contains, fault_if, vars_faults, too_many, methods_faults, method_tree_faults, classes_faults, class_scope, faults, behind_value, method_scope}
use Rattle.run_types.proofs.Laws.{first, second}
use Rattle.pool_relation.specs.Typed.{has_room}
use Rattle.pool_syntax.specs.Written.{are_written, is_written}
use Rattle.pool_syntax.specs.SourceParts.{is_source, are_source_statements, is_value_for}
use Rattle.class_check.proofs.Laws.{grammatical_written, has_a_class}
use Rattle.pool_relation.proofs.Laws.{none2, none4}
use Rattle.code_semantics.specs.declared.unit.ClassCode.{ClassCode}
use Rattle.pool_compile.specs.Code.{more, expression_words, expressions_words, guards_words, statement_words, statements_words, works_words, names_of, method_code_of, class_code, code}
use Rattle.pool_compile.specs.Small.{FramesAreSmall, HaveSmallFrames, AreSmallMethods, IsSmall}
use Rattle.pool_compile.proofs.PartCounts.{counted, counted_statements, nil_left, nil_right}
use Rattle.pool_compile.proofs.Greater.{more_within}
use Rattle.pool_compile.proofs.Heights.{is_counted, are_counted, is_counted_statement, are_counted_statements, are_counted_guards, are_counted_works, first_room, room}

-- behind h operands
behind : (h m n : ℕ) → h + m ≤ 64 → h + n ≤ 64 → h + more m n ≤ 64
behind h m n a b = let w = more_within m n (64 - h) (omega arith) (omega arith) in omega (arith, w)

module _ (k : Option ClassCode) where
  roomy : (h : ℕ) → has_room h ≡ true → h + 1 ≤ 64
  roomy h q = let r = room k [] h q in omega (arith, r)

  mutual
    pub words_few : (e : Expression) (h : ℕ) → is_counted k h e ≡ true → h + expression_words e ≤ 64
    words_few (T.Literal v p) h q = roomy h q
    words_few (T.Me p) h q = roomy h q
    words_few (T.Variable x p) h q = roomy h q
    words_few (T.Create n p) h q = roomy h q
    words_few (T.Prefix op e p) h q = words_few e h (grind (arith, q))
    words_few (T.Infix op l r p) h q =
        let b = words_few r (suc h) (grind (arith, q)) in
        behind h (expression_words l) (suc (expression_words r)) (words_few l h (grind (arith, q))) (omega (arith, b))
    words_few (T.Call m es p) h q =
        let r = roomy h (grind (arith, q)) in
        behind h 1 (expressions_words es) r (all_few es h (grind (arith, q)) (omega (arith, r)))
    words_few (T.Send e m es p) h q =
        let r = roomy h (grind (arith, q)) in
        let b = all_few es (suc h) (grind (arith, q)) (omega (arith, r)) in
        behind h (expression_words e) (suc (expressions_words es)) (words_few e h (grind (arith, q))) (omega (arith, b))
    words_few (T.Frame m t ss e qs) h q = absurd (grind (arith, q))
    words_few (T.Wait b m) h q = absurd (grind (arith, q))

    pub all_few : (es : Expressions) (h : ℕ) → are_counted k h es ≡ true → h ≤ 64 → h + expressions_words es ≤ 64
    all_few T.NoArgs h q le = omega (arith, le)
    all_few (T.Arg e es) h q le =
        let r = roomy h (first_room k [] e h (grind (arith, q))) in
        let b = all_few es (suc h) (grind (arith, q)) (omega (arith, r)) in
        behind h (expression_words e) (suc (expressions_words es)) (words_few e h (grind (arith, q))) (omega (arith, b))

  guards_few : (alts : Alternatives) (h : ℕ) → are_counted_guards k h alts ≡ true → h ≤ 64 → h + guards_words alts ≤ 64
  guards_few T.NoAlts h q le = omega (arith, le)
  guards_few (T.Alt e ns ss alts) h q le =
      let r = roomy h (first_room k [] e h (grind (arith, q))) in
      let b = guards_few alts (suc h) (grind (arith, q)) (omega (arith, r)) in
      behind h (expression_words e) (suc (guards_words alts)) (words_few e h (grind (arith, q))) (omega (arith, b))

  one : (b : ℕ) (e : Expression) → is_counted k b e ≡ true → expression_words e ≤ 64 - b
  one b e q = let w = words_few e b q in omega (arith, w)

  sent : (b : ℕ) (e : Expression) (es : Expressions) → b ≤ 1 → is_counted k b e ≡ true → are_counted k (suc b) es ≡ true → more (expression_words e) (suc (expressions_words es)) ≤ 64 - b
  sent b e es le q r =
      let a = all_few es (suc b) r (omega (arith, le)) in
      more_within (expression_words e) (suc (expressions_words es)) (64 - b) (one b e q) (omega (arith, a, le))

  module _ (b : ℕ) (few : b ≤ 1) where
    mutual
      statement_few : (s : Statement) → is_counted_statement k b s ≡ true → statement_words s ≤ 64 - b
      statement_few (T.Assign x p e) q = one b e q
      statement_few (T.Write e) q = one b e q
      statement_few (T.WriteText t) q = omega (arith, few)
      statement_few (T.Do e) q = one b e q
      statement_few (T.Async e m p es) q = sent b e es few (grind (arith, q)) (grind (arith, q))
      statement_few (T.If e these those) q =
          more_within (expression_words e) (more (statements_words these) (statements_words those)) (64 - b) (one b e (grind (arith, q)))
          (more_within (statements_words these) (statements_words those) (64 - b) (statements_few these (grind (arith, q))) (statements_few those (grind (arith, q))))
      statement_few (T.While e ss) q = more_within (expression_words e) (statements_words ss) (64 - b) (one b e (grind (arith, q))) (statements_few ss (grind (arith, q)))
      statement_few (T.Answer ns) q = omega (arith, few)
      statement_few (T.Select alts) q =
          let g = guards_few alts b (grind (arith, q)) (omega (arith, few)) in
          more_within (guards_words alts) (works_words alts) (64 - b) (omega (arith, few, g)) (works_few alts (grind (arith, q)))
      statement_few (T.Serve m c t ss e qs) q = absurd (grind (arith, q))

      pub statements_few : (ss : Statements) → are_counted_statements k b ss ≡ true → statements_words ss ≤ 64 - b
      statements_few T.Done q = omega (arith, few)
      statements_few (T.Then s ss) q = more_within (statement_words s) (statements_words ss) (64 - b) (statement_few s (grind (arith, q))) (statements_few ss (grind (arith, q)))

      works_few : (alts : Alternatives) → are_counted_works k b alts ≡ true → works_words alts ≤ 64 - b
      works_few T.NoAlts q = omega (arith, few)
      works_few (T.Alt e ns ss alts) q = more_within (statements_words ss) (works_words alts) (64 - b) (statements_few ss (grind (arith, q))) (works_few alts (grind (arith, q)))

pub no_more : (n : ℕ) (vs : List Var) → too_many n vs ≡ [] → length vs ≤ n
no_more n [] h = omega arith
no_more zero (v ∷ vs) h = absurd (grind (arith, h))
no_more (suc n) (v ∷ vs) h = let r = no_more n vs h in omega (arith, r)

-- what a method without faults has
pub record MethodFine (kt : ClassTree) (g : Scope) (m : MethodTree) : Type 0 where
  pub names : vars_faults g.program 5 [] (m.params ++ m.locals) ≡ []
  pub statements : statements_faults (record g { temps = m.params ++ m.locals }) m.body ≡ []
  pub expression : expression_faults (record g { temps = m.params ++ m.locals }) 0 m.value ≡ []
  pub params : length m.params ≤ 8
  pub temps : length (m.params ++ m.locals) ≤ 32
  pub body : are_counted_statements (Some (class_code kt)) g.held m.body ≡ true
  pub post_statements : statements_faults (behind_value (method_scope g m)) m.post ≡ []
  pub post : are_counted_statements (Some (class_code kt)) 1 m.post ≡ true
  pub value : is_counted (Some (class_code kt)) 0 m.value ≡ true

pub method_within : (kt : ClassTree) (g : Scope) (m : MethodTree) → g.own ≡ Some kt → method_tree_faults g m ≡ [] → IsTrue (are_source_statements m.body) → IsTrue (is_source m.value)
    → IsTrue (are_source_statements m.post) → MethodFine kt g m
method_within kt g m own h s t q =
    let a = none4 h in
    let b = none2 a.3 in
    let c = none4 b.1 in
    let inner : Scope = record g { temps = m.params ++ m.locals } in
    record {
      names = a.0;
      statements = c.0;
      expression = c.1;
      params = no_more 8 m.params a.1;
      temps = no_more 32 (m.params ++ m.locals) a.2;
      body = counted_statements kt inner own m.body s c.0;
      value = counted kt inner own 0 m.value t c.1;
      post_statements = c.3;
      post = counted_statements kt (behind_value (method_scope g m)) own m.post q c.3;
    }

-- the faults of methods, part by part
pub record MethodParts (g : Scope) (before : List ℕ) (m : MethodTree) (ms : List MethodTree) : Type 0 where
  pub many : fault_if (length before == 64) m.name.pos 12 ≡ []
  pub params : too_many 8 m.params ≡ []
  pub method : method_tree_faults g m ≡ []
  pub rest : methods_faults g (m.name.name.0 ∷ before) ms ≡ []

pub method_parts : (g : Scope) (before : List ℕ) (m : MethodTree) (ms : List MethodTree) → methods_faults g before (m ∷ ms) ≡ [] → MethodParts g before m ms
method_parts g before m ms h =
    let a = none4 {xs = fault_if (contains before m.name.name.0) m.name.pos 4} {ys = fault_if (length before == 64) m.name.pos 12} {zs = method_tree_faults g m} h in
    let b = nil_left (too_many 8 m.params) _ (nil_right (vars_faults g.program 5 [] (m.params ++ m.locals)) _ a.2) in
    record { many = a.1; params = b; method = a.2; rest = a.3 }

-- the faults of classes, part by part
pub record ClassParts (p : ProgramTree) (before : List ℕ) (k : ClassTree) (ks : List ClassTree) : Type 0 where
  pub many : fault_if (length before == 256) k.name.pos 12 ≡ []
  pub vars : vars_faults p 3 [] k.vars ≡ []
  pub few_vars : too_many 64 k.vars ≡ []
  pub methods : methods_faults (class_scope p k) [] k.methods ≡ []
  pub body : statements_faults (class_scope p k) k.body ≡ []
  pub rest : classes_faults p (k.name.name.0 ∷ before) ks ≡ []

pub class_parts : (p : ProgramTree) (before : List ℕ) (k : ClassTree) (ks : List ClassTree) → classes_faults p before (k ∷ ks) ≡ [] → ClassParts p before k ks
class_parts p before k ks h =
    let a = none4 {xs = fault_if (contains before k.name.name.0) k.name.pos 1} {ys = fault_if (length before == 256) k.name.pos 12} {zs = vars_faults p 3 [] k.vars} h in
    let b = nil_right (too_many 64 k.vars) _ a.3 in
    let d = nil_right (methods_faults (class_scope p k) [] k.methods) _ b in
    record {
      many = a.1;
      vars = a.2;
      few_vars = nil_left (too_many 64 k.vars) _ a.3;
      methods = nil_left (methods_faults (class_scope p k) [] k.methods) _ b;
      body = nil_left (statements_faults (class_scope p k) k.body) _ d;
      rest = nil_right (statements_faults (class_scope p k) k.body) _ d;
    }

methods_small : (kt : ClassTree) (g : Scope) (before : List ℕ) (ms : List MethodTree) → g.own ≡ Some kt → g.held ≡ 0 → methods_faults g before ms ≡ [] → IsTrue (are_written ms) → AreSmallMethods ms
methods_small kt g before [] own low h w = tt {0}
methods_small kt g before (m ∷ ms) own low h w =
    let a = method_parts g before m ms h in
    let w4 = first _ (are_written ms) w in
    let w3 = first _ (are_source_statements m.post) w4 in
    let w2 = first _ (is_value_for m.outcome m.value) w3 in
    let f = method_within kt g m own a.method (first (are_source_statements m.body) (is_source m.value) w2) (second (are_source_statements m.body) (is_source m.value) w2) (second _ (are_source_statements m.post) w4) in
    let k = Some (class_code kt) in
    let x = statements_few k 0 (omega arith) m.body (subst (λ b. are_counted_statements k b m.body ≡ true) low f.body) in
    let y = one k 0 m.value f.value in
    let z = statements_few k 1 (omega arith) m.post f.post in (
      (
        f.temps,
        more_within (statements_words m.body) (more (expression_words m.value) (suc (statements_words m.post))) 64 (omega (arith, x))
            (more_within (expression_words m.value) (suc (statements_words m.post)) 64 (omega (arith, y)) (omega (arith, z))),
      ),
      methods_small kt g (m.name.name.0 ∷ before) ms own low a.rest (second _ (are_written ms) w),
    )

classes_small : (p : ProgramTree) (before : List ℕ) (ks : List ClassTree) → classes_faults p before ks ≡ [] → IsTrue (is_written ks) → IsSmall ks
classes_small p before [] h w = tt {0}
classes_small p before (k ∷ ks) h w =
    let f = class_parts p before k ks h in
    let w3 = first _ (is_written ks) w in
    let w2 = first (are_source_statements k.body) (are_written k.methods) w3 in (
      (
        no_more 64 k.vars f.few_vars,
        (let x = statements_few (Some (class_code k)) 0 (omega arith) k.body (counted_statements k (class_scope p k) refl k.body w2 f.body) in omega (arith, x)),
        methods_small k (class_scope p k) [] k.methods refl refl f.methods (second (are_source_statements k.body) (are_written k.methods) w3),
      ),
      classes_small p (k.name.name.0 ∷ before) ks f.rest (second _ (is_written ks) w),
    )

pub program_small : (p : ProgramTree) → faults p ≡ [] → IsTrue (is_written p) → IsSmall p
program_small p h w = classes_small p [] p h w

-- a program of the grammar is written
pub written : (p : ProgramTree) → ∥ IsGrammatical p ∥₁ → IsTrue (is_written p)
written p m = ∥∥₁_elim m (hlevel props) (λ g. grammatical_written p g)

pub some_class : (p : ProgramTree) → ∥ IsGrammatical p ∥₁ → p ≢ []
some_class p m e = ∥∥₁_elim m (λ x y. absurd x) (λ g. has_a_class p g e)

methods_frames : (vars : List ℕ) (ms : List MethodTree) → AreSmallMethods ms → HaveSmallFrames (map (method_code_of vars) ms)
methods_frames vars [] s = tt {0}
methods_frames vars (m ∷ ms) s = (omega (arith, s.0.0, s.0.1), methods_frames vars ms s.1)

-- the frames of a small program have at most 96 words
pub frames_small : (p : ProgramTree) → IsSmall p → FramesAreSmall (code p)
frames_small [] s = tt {0}
frames_small (k ∷ ks) s = (omega (arith, s.0.1), methods_frames (names_of k.vars) k.methods s.0.2, frames_small ks s.1)
