-- The grammar derives a declaration from its tokens, up to positions and numbering.
use Rattle.std.proofs.Common.{◌≡◌, refl, sym, ℕ, ◌+◌, List, [], ◌∷◌, ◌++◌, map, slice_get, Option, Some, None, append_assoc, append-nil, subst}
use Rattle.pool_syntax.specs.declared.token.Tok.{Tok}
use Rattle.pool_syntax.specs.declared.token.Tok.TheVariants as tok
use Rattle.text_scan.specs.declared.keywords.Keyword.{Keyword}
use Rattle.text_scan.specs.declared.keywords.Keyword.TheVariants as word
use Rattle.pool_syntax.specs.declared.token.Sign.TheVariants as sign
use Rattle.run_types.specs.declared.types.Value.TheVariants as value
use Rattle.run_types.specs.declared.types.Kind.{Kind}
use Rattle.run_types.specs.declared.types.Kind.TheVariants as kind
use Rattle.pool_syntax.specs.declared.tree.Named.{Named}
use Rattle.pool_syntax.specs.declared.tree.Var.{Var}
use Rattle.pool_syntax.specs.Terms.{Expression, Literal, Statements, MethodTree, ClassTree, Done, Then}
use Rattle.pool_grammar.specs.Rules as r
use Rattle.pool_grammar.specs.Rules.{names, stmts, more_names, more_vars, more_locals, params, more_params, param, method, more_methods, class, more_classes, post}
use Rattle.pool_grammar.specs.Grammar.{rule, expr}
use Rattle.pool_grammar.specs.Derives.{Derives, nothing, token, inner, first, second}
use Rattle.pool_printer.specs.Canonical.{separated_by, led_by, kind_token, variable_tokens, declarations_tokens, expression_tokens, statements_tokens, method_tokens, methods_tokens, class_tokens, program_tokens, post_tokens}
use Rattle.pool_printer.specs.Renumbered.{token_by}
use Rattle.pool_printer.specs.Renamed.{renamed_name, renamed_kind, renamed_variable, renamed_expression, renamed_method, renamed_class, renamed_statements}
use Rattle.pool_printer.proofs.DerivedForm.{OutcomeForm, StatementsForm, MethodForm, MethodsForm, ClassForm, ClassesForm}
use Rattle.pool_printer.proofs.DerivedParts.{Stands, split, Parsed, Ongoing, ended, derives_as, derives_from, named}
use Rattle.pool_printer.proofs.DerivedExpressions.{expressed}
use Rattle.pool_printer.proofs.DerivedStatements.{statements_derived}

abbrev SameVariables : (ℕ → ℕ) → List Var → List Var → Type 0
SameVariables f vs xs = map (renamed_variable f) vs ≡ map (renamed_variable (λ n. n)) xs

abbrev SameMethods : (ℕ → ℕ) → List MethodTree → List MethodTree → Type 0
SameMethods f ms xs = map (renamed_method f) ms ≡ map (renamed_method (λ n. n)) xs

abbrev pub SameClasses : (ℕ → ℕ) → List ClassTree → List ClassTree → Type 0
SameClasses f cs xs = map (renamed_class f) cs ≡ map (renamed_class (λ n. n)) xs

abbrev GoOnParams : List Tok → ℕ → ℕ → List Var → Type 0
GoOnParams ts i k xs = (before : List Var) → Derives ts (more_params before) (rule (more_params before)) i k (before ++ xs)

abbrev GoOnMethods : List Tok → ℕ → ℕ → List MethodTree → Type 0
GoOnMethods ts i k xs = (before : List MethodTree) → Derives ts (more_methods before) (rule (more_methods before)) i k (before ++ xs)

abbrev pub GoOnClasses : List Tok → ℕ → ℕ → List ClassTree → Type 0
GoOnClasses ts i k xs = (before : List ClassTree) → Derives ts (more_classes before) (rule (more_classes before)) i k (before ++ xs)

abbrev MethodDerived : (ℕ → ℕ) → List Tok → ℕ → ℕ → MethodTree → Type 0
MethodDerived f ts i k m = Parsed ts method i k (λ x. renamed_method f m ≡ renamed_method (λ n. n) x)

module _ (f : ℕ → ℕ) (ts : List Tok) where
  kind_derived : (c : Kind) (i : ℕ) → slice_get ts i ≡ Some (token_by f (kind_token c)) → Parsed ts r.kind i (i + 1) (λ x. renamed_kind f c ≡ renamed_kind (λ n. n) x.0)
  unfolding rule
  kind_derived kind.Int i h = record { found = (kind.Int, i); derives = first (token i (h, refl) nothing); same = refl }
  kind_derived kind.Bool i h = record { found = (kind.Bool, i); derives = second (first (token i (h, refl) nothing)); same = refl }
  kind_derived (kind.Class c) i h = record { found = (kind.Class (record { 0 = f c.0 }), i); derives = second (second (token (named (f c.0) i) (h, refl) nothing)); same = refl }

  -- one name
  lone_name : (n : ℕ) (i : ℕ) → slice_get ts i ≡ Some (tok.Name (record { 0 = f n })) → Derives ts names (rule names) i (i + 1) (named (f n) i ∷ [])
  unfolding rule
  lone_name n i h = token (named (f n) i) (h, refl) (inner {q = more_names (named (f n) i ∷ [])} (named (f n) i ∷ []) (second nothing) nothing)

  -- the derivation, from one number up to another, of a list that begins with the variables before
  declared_derived : (w : Keyword) (Goes : List Var → ℕ → ℕ → List Var → Type 0) → ((before : List Var) (i : ℕ) → Goes before i i before)
      → ((before : List Var) (x : Var) (i k : ℕ) (all : List Var) → slice_get ts i ≡ Some (tok.Word w) → Derives ts names (rule names) (i + 1) (i + 1 + 1) (record { name = x.name; pos = x.pos } ∷ [])
      → slice_get ts (i + 1 + 1) ≡ Some (tok.Sign sign.Colon) → Derives ts r.kind (rule r.kind) (i + 1 + 1 + 1) (i + 1 + 1 + 1 + 1) (x.kind, x.kind_pos)
      → Goes (before ++ x ∷ []) (i + 1 + 1 + 1 + 1) k all → Goes before i k all)
      → (vs : List Var) (i k : ℕ) → Stands f ts (declarations_tokens w vs) i k → Ongoing (SameVariables f vs) (λ xs. (before : List Var) → Goes before i k (before ++ xs))
  declared_derived w Goes stop step [] i k s = record {
    found = [];
    same = refl;
    goes_on = λ before. subst (λ (xs : List Var). Goes before i k xs) (sym (append-nil before)) (subst (λ (n : ℕ). Goes before i n before) s (stop before i));
  }
  declared_derived w Goes stop step (v ∷ vs) i k s =
      let c = kind_derived v.kind (i + 1 + 1 + 1) s.1.1.1.0 in
      let b = declared_derived w Goes stop step vs (i + 1 + 1 + 1 + 1) k s.1.1.1.1 in
      let x : Var = record { name = record { 0 = f v.name.0 }; kind = c.found.0; pos = i + 1; kind_pos = c.found.1 } in
      record {
        found = x ∷ b.found;
        same = λ d. record { name = record { 0 = f v.name.0 }; kind = c.same d; pos = 0; kind_pos = 0 } ∷ b.same d;
        goes_on = λ before. subst (λ (xs : List Var). Goes before i k xs) (append_assoc before (x ∷ []) b.found)
            (step before x i k _ s.0 (lone_name v.name.0 (i + 1) s.1.0) s.1.1.0 c.derives (b.goes_on (before ++ x ∷ [])));
      }

  fields_derived : (vs : List Var) (i k : ℕ) → Stands f ts (declarations_tokens word.Var vs) i k
      → Ongoing (SameVariables f vs) (λ xs. (before : List Var) → Derives ts (more_vars before) (rule (more_vars before)) i k (before ++ xs))
  unfolding rule
  fields_derived vs i k s = declared_derived word.Var (λ before i k all. Derives ts (more_vars before) (rule (more_vars before)) i k all) (λ before i. second nothing)
      (λ before x i k all t n c d g. first (token i (t, refl) (inner _ n (token (i + 1 + 1) (c, refl) (inner _ d (inner all g nothing)))))) vs i k s

  locals_derived : (vs : List Var) (i k : ℕ) → Stands f ts (declarations_tokens word.Local vs) i k
      → Ongoing (SameVariables f vs) (λ xs. (before : List Var) → Derives ts (more_locals before) (rule (more_locals before)) i k (before ++ xs))
  unfolding rule
  locals_derived vs i k s = declared_derived word.Local (λ before i k all. Derives ts (more_locals before) (rule (more_locals before)) i k all) (λ before i. second nothing)
      (λ before x i k all t n c d g. first (token i (t, refl) (inner _ n (token (i + 1 + 1) (c, refl) (inner _ d (inner all g nothing)))))) vs i k s

  param_derived : (v : Var) (i k : ℕ) → Stands f ts (variable_tokens v) i k → Parsed ts param i k (λ x. renamed_variable f v ≡ renamed_variable (λ n. n) x)
  unfolding rule
  param_derived v i k s =
      let c = kind_derived v.kind (i + 1 + 1) s.1.1.0 in
      record {
        found = record { name = record { 0 = f v.name.0 }; kind = c.found.0; pos = i; kind_pos = c.found.1 };
        derives = token (named (f v.name.0) i) (s.0, refl) (token (i + 1) (s.1.0, refl) (inner c.found c.derives (ended s.1.1.1)));
        same = λ d. record { name = record { 0 = f v.name.0 }; kind = c.same d; pos = 0; kind_pos = 0 };
      }

  more_params_derived : (vs : List Var) (i k : ℕ) → Stands f ts (led_by (tok.Sign sign.Comma) (map variable_tokens vs)) i k → Ongoing (SameVariables f vs) (GoOnParams ts i k)
  unfolding rule
  more_params_derived [] i k s = record { found = []; same = refl; goes_on = λ before. second (derives_as (sym (append-nil before)) (ended s)) }
  more_params_derived (v ∷ vs) i k s =
      let c = split (variable_tokens v) (led_by (tok.Sign sign.Comma) (map variable_tokens vs)) s.1 in
      let a = param_derived v (i + 1) c.middle c.front in
      let b = more_params_derived vs c.middle k c.back in
      record {
        found = a.found ∷ b.found;
        same = λ d. a.same d ∷ b.same d;
        goes_on = λ before. derives_as (append_assoc before (a.found ∷ []) b.found)
            (first (token i (s.0, refl) (inner a.found a.derives (inner (before ++ a.found ∷ [] ++ b.found) (b.goes_on (before ++ a.found ∷ [])) nothing))));
      }

  params_derived : (vs : List Var) (i k : ℕ) → slice_get ts i ≡ Some (tok.Sign sign.LeftParen) → Stands f ts (separated_by (tok.Sign sign.Comma) (map variable_tokens vs)) (i + 1) k
      → slice_get ts k ≡ Some (tok.Sign sign.RightParen) → Parsed ts params i (k + 1) (SameVariables f vs)
  unfolding rule
  params_derived [] i k h s g = record {
    found = [];
    derives = token i (h, refl) (second (derives_from (sym s) (token k (g, refl) nothing)));
    same = refl;
  }
  params_derived (v ∷ vs) i k h s g =
      let c = split (variable_tokens v) (led_by (tok.Sign sign.Comma) (map variable_tokens vs)) s in
      let a = param_derived v (i + 1) c.middle c.front in
      let b = more_params_derived vs c.middle k c.back in
      record {
        found = a.found ∷ b.found;
        derives = token i (h, refl) (first (inner a.found a.derives (inner (a.found ∷ b.found) (b.goes_on (a.found ∷ [])) (token k (g, refl) nothing))));
        same = λ d. a.same d ∷ b.same d;
      }

  -- the post statements of a method
  post_derived : (qs : Statements) → StatementsForm qs → (i k : ℕ) → Stands f ts (post_tokens qs) i k
      → Parsed ts post i k (λ x. renamed_statements f qs ≡ renamed_statements (λ n. n) x)
  unfolding rule
  post_derived Done w i k s = record { found = Done; derives = second (ended s); same = refl }
  post_derived (Then q qs) w i k s =
      let g = statements_derived f ts (Then q qs) w (i + 1) k s.1 in
      record { found = g.found; derives = first (token i (s.0, refl) (inner g.found g.derives nothing)); same = g.same }

  -- a method without a result, from its parts
  procedure_rule : (n : Named) (ps ls : List Var) (ss qs : Statements) (i a b c j k : ℕ) → slice_get ts i ≡ Some (tok.Word word.Method)
      → (slice_get ts (i + 1) ≡ Some (tok.Name n.name)) × (n.pos ≡ i + 1) → Derives ts params (rule params) (i + 1 + 1) a ps
      → Derives ts (more_locals []) (rule (more_locals [])) a b ls → slice_get ts b ≡ Some (tok.Word word.Begin) → Derives ts stmts (rule stmts) (b + 1) c ss
      → Derives ts post (rule post) c j qs → slice_get ts j ≡ Some (tok.Word word.End) → j + 1 ≡ k
      → Derives ts method (rule method) i k (record { name = n; params = ps; locals = ls; outcome = None; outcome_pos = 0; body = ss; value = Literal value.Nil 0; post = qs })
  unfolding rule
  procedure_rule n ps ls ss qs i a b c j k h named_at d l s w q t e =
      first (token i (h, refl) (token n named_at (inner ps d (inner ls l (token b (s, refl) (inner ss w (inner qs q (token j (t, refl) (ended e)))))))))

  -- a method with a result, from its parts
  function_rule : (n : Named) (ps ls : List Var) (o : Kind) (p : ℕ) (ss : Statements) (e : Expression) (qs : Statements) (i a b c d j m k : ℕ) → slice_get ts i ≡ Some (tok.Word word.Method)
      → (slice_get ts (i + 1) ≡ Some (tok.Name n.name)) × (n.pos ≡ i + 1) → Derives ts params (rule params) (i + 1 + 1) a ps
      → slice_get ts a ≡ Some (tok.Sign sign.Colon) → Derives ts r.kind (rule r.kind) (a + 1) b (o, p)
      → Derives ts (more_locals []) (rule (more_locals [])) b c ls → slice_get ts c ≡ Some (tok.Word word.Begin) → Derives ts stmts (rule stmts) (c + 1) d ss
      → slice_get ts d ≡ Some (tok.Word word.Result) → Derives ts expr (rule expr) (d + 1) j e
      → Derives ts post (rule post) j m qs → slice_get ts m ≡ Some (tok.Word word.End) → m + 1 ≡ k
      → Derives ts method (rule method) i k (record { name = n; params = ps; locals = ls; outcome = Some o; outcome_pos = p; body = ss; value = e; post = qs })
  unfolding rule
  function_rule n ps ls o p ss e qs i a b c d j m k h named_at q u v l s w x y t z g =
      second (token i (h, refl) (token n named_at (inner ps q (token a (u, refl) (inner (o, p) v (inner ls l (token c (s, refl) (inner ss w (token d (x, refl)
      (inner e y (inner qs t (token m (z, refl) (ended g)))))))))))))

  -- a method without a result
  procedure_derived : (n : Named) (ps ls : List Var) (p : ℕ) (ss : Statements) (e : Expression) (qs : Statements) → StatementsForm ss → e ≡ Literal value.Nil 0 → StatementsForm qs → (i k : ℕ)
      → Stands f ts (method_tokens (record { name = n; params = ps; locals = ls; outcome = None; outcome_pos = p; body = ss; value = e; post = qs })) i k
      → MethodDerived f ts i k (record { name = n; params = ps; locals = ls; outcome = None; outcome_pos = p; body = ss; value = e; post = qs })
  procedure_derived n ps ls p ss e qs w v u i k s =
      let last = post_tokens qs ++ tok.Word word.End ∷ [] in
      let rest = tok.Word word.Begin ∷ (statements_tokens ss ++ last) in
      let c = split (separated_by (tok.Sign sign.Comma) (map variable_tokens ps)) (tok.Sign sign.RightParen ∷ (declarations_tokens word.Local ls ++ rest)) s.1.1.1 in
      let a = params_derived ps (i + 1 + 1) c.middle s.1.1.0 c.front c.back.0 in
      let l = split (declarations_tokens word.Local ls) rest c.back.1 in
      let b = locals_derived ls (c.middle + 1) l.middle l.front in
      let h = split (statements_tokens ss) last l.back.1 in
      let g = statements_derived f ts ss w (l.middle + 1) h.middle h.front in
      let z = split (post_tokens qs) (tok.Word word.End ∷ []) h.back in
      let y = post_derived qs u h.middle z.middle z.front in
      let m = named (f n.name.0) (i + 1) in
      record {
        found = record { name = m; params = a.found; locals = b.found; outcome = None; outcome_pos = 0; body = g.found; value = Literal value.Nil 0; post = y.found };
        derives = procedure_rule m a.found b.found g.found y.found i (c.middle + 1) l.middle h.middle z.middle k
            s.0 (s.1.0, refl) a.derives (b.goes_on []) l.back.0 g.derives y.derives z.back.0 z.back.1;
        same = λ d. record { name = renamed_name f n; params = a.same d; locals = b.same d; outcome = None; outcome_pos = 0; body = g.same d; value = renamed_expression f (v d); post = y.same d };
      }

  -- a method with a result
  function_derived : (n : Named) (ps ls : List Var) (o : Kind) (p : ℕ) (ss : Statements) (e : Expression) (qs : Statements) → StatementsForm ss → OutcomeForm (Some o) e → StatementsForm qs → (i k : ℕ)
      → Stands f ts (method_tokens (record { name = n; params = ps; locals = ls; outcome = Some o; outcome_pos = p; body = ss; value = e; post = qs })) i k
      → MethodDerived f ts i k (record { name = n; params = ps; locals = ls; outcome = Some o; outcome_pos = p; body = ss; value = e; post = qs })
  function_derived n ps ls o p ss e qs w v u i k s =
      let end = post_tokens qs ++ tok.Word word.End ∷ [] in
      let last = tok.Word word.Result ∷ (expression_tokens 1 e ++ end) in
      let rest = tok.Word word.Begin ∷ (statements_tokens ss ++ last) in
      let c = split (separated_by (tok.Sign sign.Comma) (map variable_tokens ps)) (tok.Sign sign.RightParen ∷ tok.Sign sign.Colon ∷ kind_token o ∷ (declarations_tokens word.Local ls ++ rest)) s.1.1.1 in
      let a = params_derived ps (i + 1 + 1) c.middle s.1.1.0 c.front c.back.0 in
      let q = kind_derived o (c.middle + 1 + 1) c.back.1.1.0 in
      let l = split (declarations_tokens word.Local ls) rest c.back.1.1.1 in
      let b = locals_derived ls (c.middle + 1 + 1 + 1) l.middle l.front in
      let h = split (statements_tokens ss) last l.back.1 in
      let g = statements_derived f ts ss w (l.middle + 1) h.middle h.front in
      let t = split (expression_tokens 1 e) end h.back.1 in
      let x = expressed f ts e v (h.middle + 1) t.middle t.front in
      let z = split (post_tokens qs) (tok.Word word.End ∷ []) t.back in
      let y = post_derived qs u t.middle z.middle z.front in
      let m = named (f n.name.0) (i + 1) in
      record {
        found = record { name = m; params = a.found; locals = b.found; outcome = Some q.found.0; outcome_pos = q.found.1; body = g.found; value = x.found; post = y.found };
        derives = function_rule m a.found b.found q.found.0 q.found.1 g.found x.found y.found i (c.middle + 1) (c.middle + 1 + 1 + 1) l.middle h.middle t.middle z.middle k
            s.0 (s.1.0, refl) a.derives c.back.1.0 q.derives (b.goes_on []) l.back.0 g.derives h.back.0 x.derives y.derives z.back.0 z.back.1;
        same = λ d. record { name = renamed_name f n; params = a.same d; locals = b.same d; outcome = Some (q.same d); outcome_pos = 0; body = g.same d; value = x.same d; post = y.same d };
      }

  method_by_outcome : (n : Named) (ps ls : List Var) (o : Option Kind) (p : ℕ) (ss : Statements) (e : Expression) (qs : Statements) → StatementsForm ss → OutcomeForm o e → StatementsForm qs → (i k : ℕ)
      → Stands f ts (method_tokens (record { name = n; params = ps; locals = ls; outcome = o; outcome_pos = p; body = ss; value = e; post = qs })) i k
      → MethodDerived f ts i k (record { name = n; params = ps; locals = ls; outcome = o; outcome_pos = p; body = ss; value = e; post = qs })
  method_by_outcome n ps ls None p ss e qs w v u i k s = procedure_derived n ps ls p ss e qs w v u i k s
  method_by_outcome n ps ls (Some o) p ss e qs w v u i k s = function_derived n ps ls o p ss e qs w v u i k s

  method_derived : (m : MethodTree) → MethodForm m → (i k : ℕ) → Stands f ts (method_tokens m) i k → MethodDerived f ts i k m
  method_derived m w i k s = method_by_outcome m.name m.params m.locals m.outcome m.outcome_pos m.body m.value m.post w.0 w.1 w.2 i k s

  methods_derived : (ms : List MethodTree) → MethodsForm ms → (i k : ℕ) → Stands f ts (methods_tokens ms) i k → Ongoing (SameMethods f ms) (GoOnMethods ts i k)
  unfolding rule
  methods_derived [] w i k s = record { found = []; same = refl; goes_on = λ before. second (derives_as (sym (append-nil before)) (ended s)) }
  methods_derived (m ∷ ms) w i k s =
      let c = split (method_tokens m) (methods_tokens ms) s in
      let a = method_derived m w.0 i c.middle c.front in
      let b = methods_derived ms w.1 c.middle k c.back in
      record {
        found = a.found ∷ b.found;
        same = λ d. a.same d ∷ b.same d;
        goes_on = λ before. derives_as (append_assoc before (a.found ∷ []) b.found)
            (first (inner a.found a.derives (inner (before ++ a.found ∷ [] ++ b.found) (b.goes_on (before ++ a.found ∷ [])) nothing)));
      }

  pub class_derived : (c : ClassTree) → ClassForm c → (i k : ℕ) → Stands f ts (class_tokens c) i k → Parsed ts class i k (λ x. renamed_class f c ≡ renamed_class (λ n. n) x)
  unfolding rule
  class_derived c w i k s =
      let last = tok.Word word.Body ∷ (statements_tokens c.body ++ tok.Word word.End ∷ []) in
      let v = split (declarations_tokens word.Var c.vars) (methods_tokens c.methods ++ last) s.1.1 in
      let a = fields_derived c.vars (i + 1 + 1) v.middle v.front in
      let m = split (methods_tokens c.methods) last v.back in
      let b = methods_derived c.methods w.0 v.middle m.middle m.front in
      let h = split (statements_tokens c.body) (tok.Word word.End ∷ []) m.back.1 in
      let g = statements_derived f ts c.body w.1 (m.middle + 1) h.middle h.front in
      let n = named (f c.name.name.0) (i + 1) in
      record {
        found = record { name = n; vars = a.found; methods = b.found; body = g.found };
        derives = token i (s.0, refl) (token n (s.1.0, refl) (inner a.found (a.goes_on []) (inner b.found (b.goes_on []) (token m.middle (m.back.0, refl)
            (inner g.found g.derives (token h.middle (h.back.0, refl) (ended h.back.1)))))));
        same = λ d. record { name = renamed_name f c.name; vars = a.same d; methods = b.same d; body = g.same d };
      }

  pub more_classes_derived : (cs : List ClassTree) → ClassesForm cs → (i k : ℕ) → Stands f ts (program_tokens cs) i k → Ongoing (SameClasses f cs) (GoOnClasses ts i k)
  unfolding rule
  more_classes_derived [] w i k s = record { found = []; same = refl; goes_on = λ before. second (derives_as (sym (append-nil before)) (ended s)) }
  more_classes_derived (c ∷ cs) w i k s =
      let l = split (class_tokens c) (program_tokens cs) s in
      let a = class_derived c w.0 i l.middle l.front in
      let b = more_classes_derived cs w.1 l.middle k l.back in
      record {
        found = a.found ∷ b.found;
        same = λ d. a.same d ∷ b.same d;
        goes_on = λ before. derives_as (append_assoc before (a.found ∷ []) b.found)
            (first (inner a.found a.derives (inner (before ++ a.found ∷ [] ++ b.found) (b.goes_on (before ++ a.found ∷ [])) nothing)));
      }
