-- The file of a program without class faults is verified.
use Rattle.std.proofs.Common.{◌≡◌, ◌≢◌, refl, sym, ap, subst, ◌∙◌, IsTrue, ℕ, zero, suc, ◌+◌, ◌==◌, ◌<◌, List, [], ◌∷◌, ◌++◌, length, map, Option, Some, None, is_some, Bool, true, false, ◌&&◌, ◌||◌, arith}
use Rattle.std.specs.Prelude.{slice_get, ◌^◌}
use Rattle.std.proofs.lemmas.Option.{slice_get_within}
use Rattle.std.proofs.lemmas.List.{length-map}
use Rattle.text_scan.specs.Text.{Text}
use Rattle.pool_syntax.specs.declared.tree.Var.{Var}
use Rattle.run_types.specs.declared.types.Kind.{Kind}
use Rattle.run_types.specs.declared.types.Kind.TheVariants as K
use Rattle.pool_syntax.specs.Terms.{MethodTree, ClassTree, ProgramTree}
use Rattle.pool_syntax.specs.Classes.{class_of, named_method}
use Rattle.text_scan.specs.Keywords.{is_name}
use Rattle.pool_syntax.specs.Spelled.{is_outcome, are_variables, is_spelled_expression, are_spelled_statements, are_spelled_methods, is_spelled}
use Rattle.pool_syntax.specs.Typing as Typing
use Rattle.pool_syntax.specs.Typing.{Scope, contains, fault_if, classes_faults, methods_faults, class_scope, faults}
use Rattle.run_types.proofs.Laws.{first, second, equals, same_some}
use Rattle.run_types.specs.Tables.{Each}
use Rattle.pool_syntax.specs.Written.{is_written}
use Rattle.pool_relation.proofs.Laws.{is_broken, AllKnown, OutcomeKnown, Known, class_known, CheckedMethod, CheckedClass, class_checked}
use Rattle.code_semantics.specs.declared.unit.MethodCode.{MethodCode}
use Rattle.code_semantics.specs.declared.file.MethodKinds.{MethodKinds}
use Rattle.code_semantics.specs.Proper.{IsProperClass, IsProper}
use Rattle.code_semantics.specs.Shaped.{AreShapedMethods, AreShapedClasses, IsShaped}
use Rattle.code_semantics.specs.Step.{method_from, class_from}
use Rattle.pool_compile.specs.Code.{names_of, method_code_of, class_code, code}
use Rattle.pool_compile.specs.Small.{AreShortMethods, IsShortClass, AreShort}
use Rattle.pool_compile.proofs.Laws.{program_proper, nil_left, no_fault, method_parts, class_parts as parts_of_class}
use Rattle.code_typing.specs.Sorts.{Declared, declared_at, scope_by}
use Rattle.code_typing.specs.Verified.{KindExists, ResultExists, IsMethodHeading, IsHeading, HasWellSorted, IsWellSorted, IsVerified}
use Rattle.compiler_correctness.specs.ReachedCode.{EachIsReached, IsReachedWhole}
use Rattle.compiler_correctness.specs.DeclaredKinds.{kinds_of, method_kinds, class_kinds, file_of}
use Rattle.compiler_correctness.proofs.ShapedKinds.{class_parts}
use Rattle.compiler_correctness.proofs.DeclarationLookup.{map_at, map_back, declared_of, class_from_there}
use Rattle.compiler_correctness.proofs.CompiledStacks.{have_choices}
use Rattle.compiler_correctness.proofs.CompiledCode.{body_sorted, method_sorted}

-- each select of the program has an alternative
abbrev pub methods_have_choices : List MethodTree → Bool
methods_have_choices [] = true
methods_have_choices (m ∷ ms) = have_choices m.body && have_choices m.post && methods_have_choices ms

abbrev pub program_has_choices : ProgramTree → Bool
program_has_choices [] = true
program_has_choices (k ∷ ks) = have_choices k.body && methods_have_choices k.methods && program_has_choices ks

-- the file is shaped
kinds_length : (vs : List Var) → length vs ≡ length (kinds_of vs)
kinds_length [] = refl
kinds_length (v ∷ vs) = ap suc (kinds_length vs)

shaped_methods : (vars : List ℕ) (ms : List MethodTree) → AreShapedMethods (map (method_code_of vars) ms) (map method_kinds ms)
shaped_methods vars [] = tt
shaped_methods vars (m ∷ ms) = (kinds_length (m.params ++ m.locals), shaped_methods vars ms)

shaped_classes : (ks : ProgramTree) → AreShapedClasses (map class_code ks) (map class_kinds ks)
shaped_classes [] = tt
shaped_classes (k ∷ ks) = (kinds_length k.vars, shaped_methods (names_of k.vars) k.methods, shaped_classes ks)

pub file_is_shaped : (names : List Text) (p : ProgramTree) → IsShaped (file_of names p)
file_is_shaped names p = shaped_classes p

not_first : (x y : ℕ) (before : List ℕ) → contains (x ∷ before) y ≡ false → ((x == y) ≡ false) × (contains before y ≡ false)
not_first x y before h = by (x == y) refl
  where
    by : (b : Bool) → (x == y) ≡ b → ((x == y) ≡ false) × (contains before y ≡ false)
    by true e = absurd (let z : true ≡ false = sym (ap (λ b. b || contains before y) e) ∙ h in cc)
    by false e = (e, sym (ap (λ b. b || contains before y) e) ∙ h)

-- a class at its place is the first of its name
abbrev ClassFirst : ProgramTree → ℕ → ℕ → ClassTree → Type 0
ClassFirst ks n j k = (class_from n (code ks) k.name.name ≡ Some (n + j)) × (class_of ks k.name.name.0 ≡ Some k)

classes_first : (p : ProgramTree) (before : List ℕ) (ks : ProgramTree) (n j : ℕ) (k : ClassTree) → classes_faults p before ks ≡ [] → slice_get ks j ≡ Some k
    → (contains before k.name.name.0 ≡ false) × ClassFirst ks n j k
classes_first p before [] n j k h e = absurd (let z : None ≡ Some k = e in cc)
classes_first p before (x ∷ ks) n zero k h e =
    let z : n ≡ n + 0 = omega arith in
    let c : contains before x.name.name.0 ≡ false = no_fault (contains before x.name.name.0) x.name.pos 1 (nil_left (fault_if (contains before x.name.name.0) x.name.pos 1) _ h) in
    subst (λ (y : ClassTree). (contains before y.name.name.0 ≡ false) × ClassFirst (x ∷ ks) n 0 y) (same_some e)
    (c, (rw (equals x.name.name.0) (ap Some z), rw (equals x.name.name.0) refl))
classes_first p before (x ∷ ks) n (suc j) k h e =
    let r = classes_first p (x.name.name.0 ∷ before) ks (suc n) j k (parts_of_class p before x ks h).rest e in
    let m = not_first x.name.name.0 k.name.name.0 before r.0 in
    let z : suc n + j ≡ n + suc j = omega arith in
    (m.1, (rw (m.0) (r.1.0 ∙ ap Some z), rw (m.0) r.1.1))

-- a method too
abbrev MethodFirst : List ℕ → List MethodTree → ℕ → ℕ → MethodTree → Type 0
MethodFirst vars ms n j m =
    (method_from n (map (method_code_of vars) ms) m.name.name ≡ Some (record { place = n + j; code = method_code_of vars m })) × (named_method ms m.name.name.0 ≡ Some m)

methods_first : (g : Scope) (vars : List ℕ) (before : List ℕ) (ms : List MethodTree) (n j : ℕ) (m : MethodTree) → methods_faults g before ms ≡ [] → slice_get ms j ≡ Some m
    → (contains before m.name.name.0 ≡ false) × MethodFirst vars ms n j m
methods_first g vars before [] n j m h e = absurd (let z : None ≡ Some m = e in cc)
methods_first g vars before (x ∷ ms) n zero m h e =
    let z : n ≡ n + 0 = omega arith in
    let c : contains before x.name.name.0 ≡ false = no_fault (contains before x.name.name.0) x.name.pos 4 (nil_left (fault_if (contains before x.name.name.0) x.name.pos 4) _ h) in
    subst (λ (y : MethodTree). (contains before y.name.name.0 ≡ false) × MethodFirst vars (x ∷ ms) n 0 y) (same_some e)
    (c, (rw (equals x.name.name.0) (ap (λ i. Some (record { place = i; code = method_code_of vars x })) z), rw (equals x.name.name.0) refl))
methods_first g vars before (x ∷ ms) n (suc j) m h e =
    let r = methods_first g vars (x.name.name.0 ∷ before) ms (suc n) j m (method_parts g before x ms h).rest e in
    let q = not_first x.name.name.0 m.name.name.0 before r.0 in
    let z : suc n + j ≡ n + suc j = omega arith in
    (q.1, (rw (q.0) (r.1.0 ∙ ap (λ i. Some (record { place = i; code = method_code_of vars m })) z), rw (q.0) r.1.1))

-- the class faults of a class at its place
class_faultless : (p : ProgramTree) (before : List ℕ) (ks : ProgramTree) (j : ℕ) (k : ClassTree) → classes_faults p before ks ≡ [] → slice_get ks j ≡ Some k
    → methods_faults (class_scope p k) [] k.methods ≡ []
class_faultless p before [] j k h e = absurd (let z : None ≡ Some k = e in cc)
class_faultless p before (x ∷ ks) zero k h e =
    subst (λ (y : ClassTree). methods_faults (class_scope p y) [] y.methods ≡ []) (same_some e) (parts_of_class p before x ks h).methods
class_faultless p before (x ∷ ks) (suc j) k h e = class_faultless p (x.name.name.0 ∷ before) ks j k (parts_of_class p before x ks h).rest e

-- what is spelled, short and has choices, at a place
pub record SpelledClass (names : List Text) (k : ClassTree) : Type 0 where
  pub name : is_name names k.name.name.0 ≡ true
  pub methods : are_spelled_methods names k.methods ≡ true
  pub body : are_spelled_statements names k.body ≡ true

spelled_at : (names : List Text) (ks : ProgramTree) (j : ℕ) (k : ClassTree) → is_spelled names ks ≡ true → slice_get ks j ≡ Some k → SpelledClass names k
spelled_at names [] j k h e = absurd (let z : None ≡ Some k = e in cc)
spelled_at names (x ∷ ks) zero k h e =
    let s1 = first _ (is_spelled names ks) h in
    let s2 = first _ (are_spelled_statements names x.body) s1 in
    let s3 = first _ (are_spelled_methods names x.methods) s2 in
    subst (SpelledClass names) (same_some e)
    (record {
      name = first (is_name names x.name.name.0) (are_variables names x.vars) s3;
      methods = second _ (are_spelled_methods names x.methods) s2;
      body = second _ (are_spelled_statements names x.body) s1;
    })
spelled_at names (x ∷ ks) (suc j) k h e = spelled_at names ks j k (second _ (is_spelled names ks) h) e

spelled_method_at : (names : List Text) (ms : List MethodTree) (j : ℕ) (m : MethodTree) → are_spelled_methods names ms ≡ true → slice_get ms j ≡ Some m
    → (is_name names m.name.name.0 ≡ true) × (are_spelled_statements names m.body ≡ true) × (are_spelled_statements names m.post ≡ true)
spelled_method_at names [] j m h e = absurd (let z : None ≡ Some m = e in cc)
spelled_method_at names (x ∷ ms) zero m h e =
    let s0 = first _ (are_spelled_methods names ms) h in
    let s1 = first _ (are_spelled_statements names x.post) s0 in
    let s2 = first _ (is_spelled_expression names x.value) s1 in
    let s3 = first _ (are_spelled_statements names x.body) s2 in
    let s4 = first _ (is_outcome names x.outcome) s3 in
    let s5 = first _ (are_variables names x.locals) s4 in
    subst (λ (y : MethodTree). (is_name names y.name.name.0 ≡ true) × (are_spelled_statements names y.body ≡ true) × (are_spelled_statements names y.post ≡ true)) (same_some e)
    (first (is_name names x.name.name.0) (are_variables names x.params) s5, second _ (are_spelled_statements names x.body) s2, second _ (are_spelled_statements names x.post) s0)
spelled_method_at names (x ∷ ms) (suc j) m h e = spelled_method_at names ms j m (second _ (are_spelled_methods names ms) h) e

short_at : (ks : ProgramTree) (j : ℕ) (k : ClassTree) → AreShort (code ks) → slice_get ks j ≡ Some k → IsShortClass (class_code k)
short_at [] j k h e = absurd (let z : None ≡ Some k = e in cc)
short_at (x ∷ ks) zero k h e = subst (λ (y : ClassTree). IsShortClass (class_code y)) (same_some e) h.0
short_at (x ∷ ks) (suc j) k h e = short_at ks j k h.1 e

short_method_at : (vars : List ℕ) (ms : List MethodTree) (j : ℕ) (m : MethodTree) → AreShortMethods (map (method_code_of vars) ms) → slice_get ms j ≡ Some m → length (method_code_of vars m).code < 2 ^ 32
short_method_at vars [] j m h e = absurd (let z : None ≡ Some m = e in cc)
short_method_at vars (x ∷ ms) zero m h e = subst (λ (y : MethodTree). length (method_code_of vars y).code < 2 ^ 32) (same_some e) h.0
short_method_at vars (x ∷ ms) (suc j) m h e = short_method_at vars ms j m h.1 e

chosen_at : (ks : ProgramTree) (j : ℕ) (k : ClassTree) → program_has_choices ks ≡ true → slice_get ks j ≡ Some k → (have_choices k.body ≡ true) × (methods_have_choices k.methods ≡ true)
chosen_at [] j k h e = absurd (let z : None ≡ Some k = e in cc)
chosen_at (x ∷ ks) zero k h e =
    let a = first _ (program_has_choices ks) h in
    subst (λ (y : ClassTree). (have_choices y.body ≡ true) × (methods_have_choices y.methods ≡ true)) (same_some e)
    (first (have_choices x.body) (methods_have_choices x.methods) a, second (have_choices x.body) (methods_have_choices x.methods) a)
chosen_at (x ∷ ks) (suc j) k h e = chosen_at ks j k (second _ (program_has_choices ks) h) e

chosen_method_at : (ms : List MethodTree) (j : ℕ) (m : MethodTree) → methods_have_choices ms ≡ true → slice_get ms j ≡ Some m → (have_choices m.body ≡ true) × (have_choices m.post ≡ true)
chosen_method_at [] j m h e = absurd (let z : None ≡ Some m = e in cc)
chosen_method_at (x ∷ ms) zero m h e =
    let a = first _ (methods_have_choices ms) h in
    subst (λ (y : MethodTree). (have_choices y.body ≡ true) × (have_choices y.post ≡ true)) (same_some e) (first (have_choices x.body) (have_choices x.post) a, second (have_choices x.body) (have_choices x.post) a)
chosen_method_at (x ∷ ms) (suc j) m h e = chosen_method_at ms j m (second _ (methods_have_choices ms) h) e

both_known : (p : ProgramTree) (vs ws : List Var) → AllKnown p vs → AllKnown p ws → AllKnown p (vs ++ ws)
both_known p [] ws a b = b
both_known p (v ∷ vs) ws a b = (a.0, both_known p vs ws a.1 b)

module _ (names : List Text) (p : ProgramTree) where
  -- a known kind exists
  kind_there : (k : Kind) → is_broken (Typing.kind_sort p k) ≡ false → KindExists (file_of names p) k
  kind_there K.Int h = tt
  kind_there K.Bool h = tt
  kind_there (K.Class c) h = by (is_some (class_of p c.0)) refl
    where
      by : (b : Bool) → is_some (class_of p c.0) ≡ b → KindExists (file_of names p) (K.Class c)
      by true e = class_from_there p c.0 e
      by false e = absurd (let z : true ≡ false = rw e at h in cc)

  kinds_there : (vs : List Var) → AllKnown p vs → Each (KindExists (file_of names p)) (kinds_of vs)
  kinds_there [] h = tt
  kinds_there (v ∷ vs) h = (kind_there v.kind h.0, kinds_there vs h.1)

  result_there : (o : Option Kind) → OutcomeKnown p o → ResultExists (file_of names p) o
  result_there None h = tt
  result_there (Some k) h = kind_there k h

  module _ (some : p ≢ []) (none : faults p ≡ []) (written : IsTrue (is_written p)) (spelled : is_spelled names p ≡ true) (short : AreShort (code p)) (chosen : program_has_choices p ≡ true) where
    proper : IsProper (file_of names p).unit
    proper = program_proper p (file_of names p).unit refl none written some spelled short

    known : (c : ℕ) → Known p (class_of p c)
    known c = class_known p c none written

    module _ (j : ℕ) (k : ClassTree) (at : slice_get p j ≡ Some k) where
      at_first : (contains [] k.name.name.0 ≡ false) × ClassFirst p 0 j k
      at_first = classes_first p [] p 0 j k none at

      checked : CheckedClass p k
      checked = (class_checked p k.name.name.0 k none written at_first.1.1).0

      own : Known p (Some k)
      own = subst (Known p) at_first.1.1 (known k.name.name.0)

      proper_class : IsProperClass (file_of names p).unit (class_code k)
      proper_class = proper.each j (class_code k) (map_at class_code p j k at)

      words : SpelledClass names k
      words = spelled_at names p j k spelled at

      module _ (i : ℕ) (m : MethodTree) (e : slice_get k.methods i ≡ Some m) where
        m_first : (contains [] m.name.name.0 ≡ false) × MethodFirst (names_of k.vars) k.methods 0 i m
        m_first = methods_first (class_scope p k) (names_of k.vars) [] k.methods 0 i m (class_faultless p [] p j k none at) e

        m_checked : CheckedMethod (class_scope p k) m
        m_checked = (checked.methods m.name.name.0 m m_first.1.1).0

        m_heading : IsMethodHeading (file_of names p) (class_code k) i (method_code_of (names_of k.vars) m) (method_kinds m)
        m_heading =
            let l = proper_class.methods i (method_code_of (names_of k.vars) m) (map_at (method_code_of (names_of k.vars)) k.methods i m e) in
            let c = m_checked in
            record {
              name = (spelled_method_at names k.methods i m words.methods e).0;
              first = m_first.1.0 ∙ ap (λ n. Some (record { place = n; code = method_code_of (names_of k.vars) m })) (let z : 0 + i ≡ i = omega arith in z);
              limits = (l.1, l.2, l.3);
              kinds = (kinds_there (m.params ++ m.locals) (both_known p m.params m.locals c.params c.locals), result_there m.outcome c.outcome);
            }

        m_sorted : IsWellSorted (scope_by (file_of names p) (declared_of k) (Some (method_kinds m))) (method_code_of (names_of k.vars) m).frame_words (method_code_of (names_of k.vars) m).code
            × EachIsReached (scope_by (file_of names p) (declared_of k) (Some (method_kinds m))) (method_code_of (names_of k.vars) m).code
        m_sorted =
            let l = proper_class.methods i (method_code_of (names_of k.vars) m) (map_at (method_code_of (names_of k.vars)) k.methods i m e) in
            let c = m_checked in
            let s = short_method_at (names_of k.vars) k.methods i m (short_at p j k short at).1 e in
            let choices = chosen_method_at k.methods i m (chosen_at p j k chosen at).1 e in
            let spell = spelled_method_at names k.methods i m words.methods e in
            method_sorted names p known k own m (both_known p m.params m.locals c.params c.locals) c.body c.value c.post c.outcome c.gives_it c.valued choices.0 choices.1 spell.1 spell.2
            (omega (arith, s)) l.4

      heading : IsHeading (file_of names p) j (class_code k) (class_kinds k)
      heading =
          let n = slice_get_within p j k at in
          let few = proper.classes.1 in
          let l = length-map p class_code in
          record {
            name = words.name;
            first = at_first.1.0 ∙ ap Some (let z : 0 + j ≡ j = omega arith in z);
            limits = (omega (arith, n, few, l), proper_class.limits.0, proper_class.limits.1);
            kinds = kinds_there k.vars checked.vars;
            methods = λ i m s e g.
                let a = map_back (method_code_of (names_of k.vars)) k.methods i m e in
                let same : method_kinds a.0 ≡ s = same_some (sym (map_at method_kinds k.methods i a.0 a.1) ∙ g) in
                subst (λ (x : MethodKinds). IsMethodHeading (file_of names p) (class_code k) i m x) same
                (subst (λ (x : MethodCode). IsMethodHeading (file_of names p) (class_code k) i x (method_kinds a.0)) a.2 (m_heading i a.0 a.1));
          }

      b_sorted : IsWellSorted (scope_by (file_of names p) (declared_of k) None) (class_code k).body.frame_words (class_code k).body.code
          × EachIsReached (scope_by (file_of names p) (declared_of k) None) (class_code k).body.code
      b_sorted =
          let s = (short_at p j k short at).0 in
          body_sorted names p known k own checked.body (chosen_at p j k chosen at).0 words.body (omega (arith, s)) proper_class.body

      -- what holds of the codes of the methods of the tree holds of those of the file
      each_method : (P : MethodKinds → MethodCode → Type 0) → ((i : ℕ) (m : MethodTree) → slice_get k.methods i ≡ Some m → P (method_kinds m) (method_code_of (names_of k.vars) m))
          → (i : ℕ) (m : MethodCode) (s : MethodKinds) → slice_get (class_code k).methods i ≡ Some m → slice_get (class_kinds k).methods i ≡ Some s → P s m
      each_method P of i m s e g =
          let a = map_back (method_code_of (names_of k.vars)) k.methods i m e in
          let same : method_kinds a.0 ≡ s = same_some (sym (map_at method_kinds k.methods i a.0 a.1) ∙ g) in
          subst (λ (x : MethodKinds). P x m) same (subst (λ (x : MethodCode). P (method_kinds a.0) x) a.2 (of i a.0 a.1))

      sorted : HasWellSorted (file_of names p) (declared_of k)
      sorted = record {
        methods = each_method (λ s m. IsWellSorted (scope_by (file_of names p) (declared_of k) (Some s)) m.frame_words m.code) (λ i m e. (m_sorted i m e).0);
        body = b_sorted.0;
      }

      reached : IsReachedWhole (file_of names p) (declared_of k)
      reached = record {
        methods = each_method (λ s m. EachIsReached (scope_by (file_of names p) (declared_of k) (Some s)) m.code) (λ i m e. (m_sorted i m e).1);
        body = b_sorted.1;
      }

    -- a class of the file is that of a tree
    tree_of : (j : ℕ) (d : Declared) → declared_at (file_of names p) j ≡ Some d → (k : ClassTree) × (slice_get p j ≡ Some k) × (declared_of k ≡ d)
    tree_of j d e =
        let parts = class_parts (file_of names p) (file_is_shaped names p) j d e in
        let a = map_back class_code p j d.code parts.0 in
        let same : class_kinds a.0 ≡ d.kinds = same_some (sym (map_at class_kinds p j a.0 a.1) ∙ parts.1) in
        (a.0, a.1, ap (λ c. record { code = c; kinds = class_kinds a.0 }) a.2 ∙ ap (λ q. record { code = d.code; kinds = q }) same)

    -- each place of its codes is reached
    pub file_is_reached : (j : ℕ) (d : Declared) → declared_at (file_of names p) j ≡ Some d → IsReachedWhole (file_of names p) d
    file_is_reached j d e = let t = tree_of j d e in subst (IsReachedWhole (file_of names p)) t.2 (reached j t.0 t.1)

    -- the file of the program is verified
    pub file_is_verified : IsVerified (file_of names p)
    file_is_verified = record {
      some = by p some;
      headings = λ j d e. let t = tree_of j d e in subst (λ (x : Declared). IsHeading (file_of names p) j x.code x.kinds) t.2 (heading j t.0 t.1);
      codes = λ j d e. let t = tree_of j d e in subst (HasWellSorted (file_of names p)) t.2 (sorted j t.0 t.1);
    }
      where
        by : (ks : ProgramTree) → ks ≢ [] → 0 < length (code ks)
        by [] n = absurd (n refl)
        by (x ∷ ks) n = omega arith
