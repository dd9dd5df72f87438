-- The parsing of variables, parameters, methods, classes and programs.
use Rattle.std.proofs.Common.{◌≡◌, ◌≢◌, ℕ, ◌+◌, ⊎_elim, inl, inr, List, [], ◌∷◌, ◌++◌, Some, slice_get, refl, subst, arith}
use Rattle.run_types.specs.declared.types.NameId.{NameId}
use Rattle.run_types.specs.declared.types.Kind.{Kind}
use Rattle.pool_syntax.specs.declared.tree.Named.{Named}
use Rattle.pool_syntax.specs.declared.tree.Var.{Var}
use Rattle.pool_syntax.specs.declared.token.Tok.{Tok}
use Rattle.pool_syntax.specs.declared.token.Tok.TheVariants as tok
use Rattle.text_scan.specs.declared.keywords.Keyword.TheVariants as kw
use Rattle.pool_syntax.specs.declared.token.Sign.TheVariants as sg
use Rattle.pool_syntax.specs.Terms.{MethodTree, ClassTree, Statements, Done}
use Rattle.pool_grammar.specs.Rules as r
use Rattle.pool_grammar.specs.Rules.{Phrase, Tree, program, more_classes, class, more_vars, names, more_methods, method, params, more_params, param, more_locals, word, sign, name, end, phrase, Rule, tree, then, either, post, stmts}
use Rattle.pool_grammar.specs.Grammar.{rule, variables, expr}
use Rattle.pool_grammar.specs.Derives.{IsToken, Begins}
use Rattle.expression_parser.specs.Reads.{Outcome, read, refused, Reads, ReadsPhrase, GoesOn, Stops}
use Rattle.expression_parser.proofs.Laws.{Clear, Misses, Begins-tree, Begins-either, reads_tree, reads_token, reads_missing, reads_first, reads_second, reads_inner, reads_refused, reads_last, reads_nothing, reads_factored, put-id, clear_word, clear_sign, clear_token, misses_token, misses_either}
use Rattle.expression_parser.proofs.Laws.{misses_inner, off, off_tree, clear_any, sign_there, sign_read, sign_missing, word_read, name_missing, off_sign, off_word}
use Rattle.pool_parser.specs.Tails.{proper_part, result_part, body_part, declared_part}
use Rattle.pool_parser.specs.Declarations.{ReadsDeclared}
use Rattle.statement_parser.proofs.Laws.{ends_statements, ends_value}
use Rattle.pool_parser.proofs.Choices.{clear_through, misses_through}

module _ {ts : List Tok} where
  -- names, a colon and a kind

  ends_names : {p : Phrase} {f : ℕ → Rule (Tree p)} → Clear ts p (then (sign sg.Colon) f) names
  ends_names = clear_sign (λ e. cc)

  pub declared_refused : {i u : ℕ} (vs : List Var) → ReadsPhrase ts names i (refused u) → (p : Phrase) (f : List Var → Rule (Tree p)) → Reads ts p (declared_part p vs f) i (refused u)
  declared_refused vs N p f = reads_refused N (λ z. ends_names)

  pub colon_missing : {i m : ℕ} {ns : List Named} (vs : List Var) → ReadsPhrase ts names i (read ns m) → slice_get ts m ≢ Some (tok.Sign sg.Colon) → (p : Phrase) (f : List Var → Rule (Tree p)) → Reads ts p (declared_part p vs f) i (refused m)
  colon_missing vs N h p f = reads_inner N (λ z. ends_names) (sign_missing h)

  pub kind_wrong : {i m u : ℕ} {ns : List Named} (vs : List Var) → ReadsPhrase ts names i (read ns m) → slice_get ts m ≡ Some (tok.Sign sg.Colon) → ReadsPhrase ts r.kind (m + 1) (refused u) →
      (p : Phrase) (f : List Var → Rule (Tree p)) → Reads ts p (declared_part p vs f) i (refused u)
  kind_wrong vs N h K p f = reads_inner N (λ z. ends_names) (sign_read h (reads_refused K (λ z. clear_any (λ t u. u))))

  pub declared_read : {i m k : ℕ} {ns : List Named} {kind : Kind × ℕ} (vs : List Var) → ReadsPhrase ts names i (read ns m) → slice_get ts m ≡ Some (tok.Sign sg.Colon) → ReadsPhrase ts r.kind (m + 1) (read kind k) →
      ReadsDeclared ts vs i (vs ++ variables ns kind) k
  declared_read vs N h K p f o R = reads_inner N (λ z. ends_names) (sign_read h (reads_inner K (λ z. clear_any (λ t u. u)) R))

  -- variables of classes

  pub vars_read : {i m : ℕ} (vs all : List Var) (o : Outcome (List Var)) → slice_get ts i ≡ Some (tok.Word kw.Var) → ReadsDeclared ts vs (i + 1) all m → ReadsPhrase ts (more_vars all) m o → ReadsPhrase ts (more_vars vs) i o
  unfolding rule
  vars_read vs all o h D R = reads_first (word_read h (D (more_vars vs) (λ v. then (phrase (more_vars v)) (λ x. tree x)) o
      (rw put-id at (reads_last {p = more_vars vs} {q = more_vars all} (λ x. x) o (λ t u. u) R)))) (off_tree _ h refl)

  pub vars_refused : {i u : ℕ} (vs : List Var) → slice_get ts i ≡ Some (tok.Word kw.Var) → ((p : Phrase) (f : List Var → Rule (Tree p)) → Reads ts p (declared_part p vs f) (i + 1) (refused u)) → ReadsPhrase ts (more_vars vs) i (refused u)
  unfolding rule
  vars_refused vs h D = reads_first (word_read h (D (more_vars vs) (λ v. then (phrase (more_vars v)) (λ x. tree x)))) (off_tree _ h refl)

  pub vars_end : {i : ℕ} (vs : List Var) → slice_get ts i ≢ Some (tok.Word kw.Var) → ReadsPhrase ts (more_vars vs) i (read vs i)
  unfolding rule
  vars_end vs h = reads_second reads_tree (off_word h)

  -- locals

  pub locals_read : {i m : ℕ} (vs all : List Var) (o : Outcome (List Var)) → slice_get ts i ≡ Some (tok.Word kw.Local) → ReadsDeclared ts vs (i + 1) all m → ReadsPhrase ts (more_locals all) m o → ReadsPhrase ts (more_locals vs) i o
  unfolding rule
  locals_read vs all o h D R = reads_first (word_read h (D (more_locals vs) (λ v. then (phrase (more_locals v)) (λ x. tree x)) o
      (rw put-id at (reads_last {p = more_locals vs} {q = more_locals all} (λ x. x) o (λ t u. u) R)))) (off_tree _ h refl)

  pub locals_refused : {i u : ℕ} (vs : List Var) → slice_get ts i ≡ Some (tok.Word kw.Local) → ((p : Phrase) (f : List Var → Rule (Tree p)) → Reads ts p (declared_part p vs f) (i + 1) (refused u)) → ReadsPhrase ts (more_locals vs) i (refused u)
  unfolding rule
  locals_refused vs h D = reads_first (word_read h (D (more_locals vs) (λ v. then (phrase (more_locals v)) (λ x. tree x)))) (off_tree _ h refl)

  pub locals_end : {i : ℕ} (vs : List Var) → slice_get ts i ≢ Some (tok.Word kw.Local) → ReadsPhrase ts (more_locals vs) i (read vs i)
  unfolding rule
  locals_end vs h = reads_second reads_tree (off_word h)

  pub ends_locals : {f : ℕ → Rule MethodTree} {vs : List Var} → Clear ts method (then (word kw.Begin) f) (more_locals vs)
  ends_locals = clear_word (λ e. cc)

  -- parameters

  pub param_missing : {i : ℕ} → ((n : NameId) → slice_get ts i ≢ Some (tok.Name n)) → ReadsPhrase ts param i (refused i)
  unfolding rule
  param_missing h = name_missing h

  pub param_colon : {i : ℕ} (n : Named) → IsToken ts name i n → slice_get ts (i + 1) ≢ Some (tok.Sign sg.Colon) → ReadsPhrase ts param i (refused (i + 1))
  unfolding rule
  param_colon n h k = reads_token tt n h (sign_missing k)

  pub param_refused : {i u : ℕ} (n : Named) → IsToken ts name i n → slice_get ts (i + 1) ≡ Some (tok.Sign sg.Colon) → ReadsPhrase ts r.kind (i + 2) (refused u) → ReadsPhrase ts param i (refused u)
  unfolding rule
  param_refused {i = i} {u = u} n h k K = reads_token tt n h (sign_read k (reads_refused (let e : i + 2 ≡ i + 1 + 1 = omega arith in subst (λ (v : ℕ). ReadsPhrase ts r.kind v (refused u)) e K) (λ z. clear_any (λ t u. u))))

  pub param_read : {i m : ℕ} (n : Named) (kind : Kind × ℕ) → IsToken ts name i n → slice_get ts (i + 1) ≡ Some (tok.Sign sg.Colon) → ReadsPhrase ts r.kind (i + 2) (read kind m) →
      ReadsPhrase ts param i (read (record { name = n.name; kind = kind.0; pos = n.pos; kind_pos = kind.1 }) m)
  unfolding rule
  param_read {i = i} {m = m} n kind h k K = reads_token tt n h (sign_read k (reads_inner (let e : i + 2 ≡ i + 1 + 1 = omega arith in subst (λ (v : ℕ). ReadsPhrase ts r.kind v (read kind m)) e K) (λ z. clear_any (λ t u. u)) reads_tree))

  pub closes_params : {p : Phrase} {f : ℕ → Rule (Tree p)} {vs : List Var} → Clear ts p (then (sign sg.RightParen) f) (more_params vs)
  closes_params = clear_sign (λ e. cc)

  params_inside : {i : ℕ} {o : Outcome (List Var)} → slice_get ts i ≡ Some (tok.Sign sg.LeftParen) → slice_get ts (i + 1) ≢ Some (tok.Sign sg.RightParen) →
      Reads ts params (then (phrase param) (λ p. then (phrase (more_params (p ∷ []))) (λ ps. then (sign sg.RightParen) (λ y. tree ps)))) (i + 1) o → ReadsPhrase ts params i o
  unfolding rule
  params_inside h k R = sign_read h (reads_first R (off_sign k))

  pub params_missing : {i : ℕ} → slice_get ts i ≢ Some (tok.Sign sg.LeftParen) → ReadsPhrase ts params i (refused i)
  unfolding rule
  params_missing h = sign_missing h

  pub misses_param : {i : ℕ} → slice_get ts i ≡ Some (tok.Sign sg.RightParen) → Misses ts param (rule param) i
  unfolding rule
  misses_param h = misses_token tt (λ y a. cc (a.0, h))

  pub params_empty : {i : ℕ} → slice_get ts i ≡ Some (tok.Sign sg.LeftParen) → slice_get ts (i + 1) ≡ Some (tok.Sign sg.RightParen) → ReadsPhrase ts params i (read [] (i + 2))
  unfolding rule
  params_empty {i = i} h k = let e : i + 1 + 1 ≡ i + 2 = omega arith in subst (λ (v : ℕ). ReadsPhrase ts params i (read [] v)) e
      (sign_read h (reads_second (sign_there k) (off (misses_inner (misses_param k)))))

  pub params_refused : {i u : ℕ} → slice_get ts i ≡ Some (tok.Sign sg.LeftParen) → slice_get ts (i + 1) ≢ Some (tok.Sign sg.RightParen) → ReadsPhrase ts param (i + 1) (refused u) → ReadsPhrase ts params i (refused u)
  params_refused h k R = params_inside h k (reads_refused R (λ z. clear_any (λ t u. u)))

  pub params_refused_later : {i m u : ℕ} {v : Var} → slice_get ts i ≡ Some (tok.Sign sg.LeftParen) → slice_get ts (i + 1) ≢ Some (tok.Sign sg.RightParen) → ReadsPhrase ts param (i + 1) (read v m) →
      ReadsPhrase ts (more_params (v ∷ [])) m (refused u) → ReadsPhrase ts params i (refused u)
  params_refused_later h k R S = params_inside h k (reads_inner R (λ z. clear_any (λ t u. u)) (reads_refused S (λ z. closes_params)))

  pub params_read : {i m n : ℕ} {v : Var} {vs : List Var} {o : Outcome (List Var)} → slice_get ts i ≡ Some (tok.Sign sg.LeftParen) → slice_get ts (i + 1) ≢ Some (tok.Sign sg.RightParen) → ReadsPhrase ts param (i + 1) (read v m) →
      ReadsPhrase ts (more_params (v ∷ [])) m (read vs n) → Reads ts params (then (sign sg.RightParen) (λ y. tree vs)) n o → ReadsPhrase ts params i o
  params_read h k R S T = params_inside h k (reads_inner R (λ z. clear_any (λ t u. u)) (reads_inner S (λ z. closes_params) T))

  pub next_read : {i m : ℕ} (vs : List Var) (v : Var) (o : Outcome (List Var)) → slice_get ts i ≡ Some (tok.Sign sg.Comma) → ReadsPhrase ts param (i + 1) (read v m) → ReadsPhrase ts (more_params (vs ++ v ∷ [])) m o → ReadsPhrase ts (more_params vs) i o
  unfolding rule
  next_read vs v o h R S = reads_first (sign_read h (reads_inner R (λ z. clear_any (λ t u. u)) (rw put-id at (reads_last {p = more_params vs} {q = more_params (vs ++ v ∷ [])} (λ x. x) o (λ t u. u) S)))) (off_tree _ h refl)

  pub next_refused : {i u : ℕ} (vs : List Var) → slice_get ts i ≡ Some (tok.Sign sg.Comma) → ReadsPhrase ts param (i + 1) (refused u) → ReadsPhrase ts (more_params vs) i (refused u)
  unfolding rule
  next_refused vs h R = reads_first (sign_read h (reads_refused R (λ z. clear_any (λ t u. u)))) (off_tree _ h refl)

  pub params_end : {i : ℕ} (vs : List Var) → slice_get ts i ≢ Some (tok.Sign sg.Comma) → ReadsPhrase ts (more_params vs) i (read vs i)
  unfolding rule
  params_end vs h = reads_second reads_tree (off_sign h)

  -- post statements

  pub post_read : {i : ℕ} (o : Outcome Statements) → slice_get ts i ≡ Some (tok.Word kw.Post) → ReadsPhrase ts stmts (i + 1) o → ReadsPhrase ts post i o
  unfolding rule
  post_read o h R = reads_first (word_read h (rw put-id at (reads_last {p = post} {q = stmts} (λ x. x) o (λ t u. inr u) R))) (off_tree _ h (inl refl))

  pub no_post : {i : ℕ} → slice_get ts i ≢ Some (tok.Word kw.Post) → ReadsPhrase ts post i (read Done i)
  unfolding rule
  no_post h = reads_second reads_tree (off_word h)

  post_begins : (q : Phrase) → (GoesOn q (tok.Word kw.Post) → ⊥) → (k : ℕ) → Begins ts post (rule post) k (k + 1) → Stops ts q k
  unfolding rule
  post_begins q n k b t h g =
      ⊎_elim (λ c. (misses_token tt (λ y a. let e : t ≡ tok.Word kw.Post = cc (a.0, h) in n (subst (GoesOn q) e g))).begun c)
      (λ c. let e : k ≡ k + 1 = Begins-tree c in omega arith) (Begins-either b)

  pub ends_post : {f : ℕ → Rule MethodTree} → Clear ts method (then (word kw.End) f) post
  ends_post = clear_word (⊎_elim (λ e. cc) (⊎_elim (λ u. cc) (⊎_elim (λ e. cc) (⊎_elim (λ u. omega arith) (λ e. cc)))))

  -- behind the statements of a method without a result, and behind the value of one with a result

  pub after_body : {f : Statements → ℕ → Rule MethodTree} → Clear ts method (then (phrase post) (λ qs. then (word kw.End) (f qs))) stmts
  after_body = clear_through (post_begins stmts (⊎_elim (λ u. cc) (⊎_elim (λ e. cc) (⊎_elim (λ u. omega arith) (λ e. cc))))) (λ y. ends_statements refl refl)

  pub after_value : {f : Statements → ℕ → Rule MethodTree} → Clear ts method (then (phrase post) (λ qs. then (word kw.End) (f qs))) expr
  after_value = clear_through (post_begins expr (λ u. omega arith)) (λ y. ends_value refl)

  -- methods

  misses_method : {i : ℕ} → slice_get ts i ≢ Some (tok.Word kw.Method) → Misses ts method (rule method) i
  unfolding rule
  misses_method h = misses_either (misses_token tt (λ y a. h a.0)) (misses_token tt (λ y a. h a.0))

  pub method_missing : {i : ℕ} → slice_get ts i ≢ Some (tok.Word kw.Method) → ReadsPhrase ts method i (refused i)
  method_missing h = reads_nothing (misses_method h)

  pub method_unnamed : {i : ℕ} → slice_get ts i ≡ Some (tok.Word kw.Method) → ((n : NameId) → slice_get ts (i + 1) ≢ Some (tok.Name n)) → ReadsPhrase ts method i (refused (i + 1))
  unfolding rule
  method_unnamed h k = reads_factored (word_read h (reads_factored (name_missing k)))

  behind_name : {i : ℕ} {o : Outcome MethodTree} (n : Named) → slice_get ts i ≡ Some (tok.Word kw.Method) → IsToken ts name (i + 1) n →
      Reads ts method (then (phrase params) (λ ps. either (proper_part n ps) (result_part n ps))) (i + 1 + 1) o → ReadsPhrase ts method i o
  unfolding rule
  behind_name n h k R = reads_factored (word_read h (reads_factored (reads_token tt n k (reads_factored R))))

  pub method_refused : {i u : ℕ} (n : Named) → slice_get ts i ≡ Some (tok.Word kw.Method) → IsToken ts name (i + 1) n → ReadsPhrase ts params (i + 2) (refused u) → ReadsPhrase ts method i (refused u)
  method_refused {i = i} {u = u} n h k P = behind_name n h k (reads_refused (let e : i + 2 ≡ i + 1 + 1 = omega arith in subst (λ (v : ℕ). ReadsPhrase ts params v (refused u)) e P) (λ z. clear_any (λ t u. u)))

  behind_params : {i m : ℕ} {ps : List Var} {o : Outcome MethodTree} (n : Named) → slice_get ts i ≡ Some (tok.Word kw.Method) → IsToken ts name (i + 1) n → ReadsPhrase ts params (i + 2) (read ps m) →
      Reads ts method (either (proper_part n ps) (result_part n ps)) m o → ReadsPhrase ts method i o
  behind_params {i = i} {m = m} {ps = ps} n h k P R = behind_name n h k (reads_inner (let e : i + 2 ≡ i + 1 + 1 = omega arith in subst (λ (v : ℕ). ReadsPhrase ts params v (read ps m)) e P) (λ z. clear_any (λ t u. u)) R)

  pub no_local : {i : ℕ} → slice_get ts i ≡ Some (tok.Sign sg.Colon) → Begins ts (more_locals []) (rule (more_locals [])) i (i + 1) → ⊥
  unfolding rule
  no_local {i = i} h b = ⊎_elim (λ c. (misses_token tt (λ y a. cc (a.0, h))).begun c) (λ c. let e : i ≡ i + 1 = Begins-tree c in omega arith) (Begins-either b)

  -- a method with a result, and one without

  pub result_read : {i m : ℕ} {ps : List Var} (n : Named) (o : Outcome MethodTree) → slice_get ts i ≡ Some (tok.Word kw.Method) → IsToken ts name (i + 1) n → ReadsPhrase ts params (i + 2) (read ps m) →
      slice_get ts m ≡ Some (tok.Sign sg.Colon) → Reads ts method (result_part n ps) m o → ReadsPhrase ts method i o
  result_read n o h k P c R = behind_params n h k P (reads_second R (off (misses_through (no_local c) (λ y. misses_token tt (λ z a. cc (a.0, c))))))

  pub proper_read : {i m : ℕ} {ps : List Var} (n : Named) (o : Outcome MethodTree) → slice_get ts i ≡ Some (tok.Word kw.Method) → IsToken ts name (i + 1) n → ReadsPhrase ts params (i + 2) (read ps m) →
      slice_get ts m ≢ Some (tok.Sign sg.Colon) → Reads ts method (proper_part n ps) m o → ReadsPhrase ts method i o
  proper_read n o h k P c R = behind_params n h k P (reads_first R (off_sign c))

  pub method_read : {i m : ℕ} (ms : List MethodTree) (t : MethodTree) (o : Outcome (List MethodTree)) → slice_get ts i ≡ Some (tok.Word kw.Method) → ReadsPhrase ts method i (read t m) →
      ReadsPhrase ts (more_methods (ms ++ t ∷ [])) m o → ReadsPhrase ts (more_methods ms) i o
  unfolding rule
  method_read ms t o h R S = reads_first (reads_inner R (λ z. clear_any (λ t u. u)) (rw put-id at (reads_last {p = more_methods ms} {q = more_methods (ms ++ t ∷ [])} (λ x. x) o (λ t u. u) S))) (off_tree _ h refl)

  pub methods_refused : {i u : ℕ} (ms : List MethodTree) → slice_get ts i ≡ Some (tok.Word kw.Method) → ReadsPhrase ts method i (refused u) → ReadsPhrase ts (more_methods ms) i (refused u)
  unfolding rule
  methods_refused ms h R = reads_first (reads_refused R (λ z. clear_any (λ t u. u))) (off_tree _ h refl)

  pub methods_end : {i : ℕ} (ms : List MethodTree) → slice_get ts i ≢ Some (tok.Word kw.Method) → ReadsPhrase ts (more_methods ms) i (read ms i)
  unfolding rule
  methods_end ms h = reads_second reads_tree (off (misses_inner (misses_method h)))

  -- classes

  misses_class : {i : ℕ} → slice_get ts i ≢ Some (tok.Word kw.Class) → Misses ts class (rule class) i
  unfolding rule
  misses_class h = misses_token tt (λ y a. h a.0)

  pub class_missing : {i : ℕ} → slice_get ts i ≢ Some (tok.Word kw.Class) → ReadsPhrase ts class i (refused i)
  class_missing h = reads_nothing (misses_class h)

  pub class_unnamed : {i : ℕ} → slice_get ts i ≡ Some (tok.Word kw.Class) → ((n : NameId) → slice_get ts (i + 1) ≢ Some (tok.Name n)) → ReadsPhrase ts class i (refused (i + 1))
  unfolding rule
  class_unnamed h k = word_read h (name_missing k)

  class_named : {i : ℕ} {o : Outcome ClassTree} (n : Named) → slice_get ts i ≡ Some (tok.Word kw.Class) → IsToken ts name (i + 1) n →
      Reads ts class (then (phrase (more_vars [])) (λ vs. then (phrase (more_methods [])) (λ ms. body_part n vs ms))) (i + 1 + 1) o → ReadsPhrase ts class i o
  unfolding rule
  class_named n h k R = word_read h (reads_token tt n k R)

  methods_begin : (vs : List Var) (k : ℕ) → Begins ts (more_methods []) (rule (more_methods [])) k (k + 1) → Stops ts (more_vars vs) k
  unfolding rule
  methods_begin vs k b t h g = ⊎_elim (λ c. (misses_inner (misses_method (λ e. cc (e, h, g)))).begun c) (λ c. let e : k ≡ k + 1 = Begins-tree c in omega arith) (Begins-either b)

  pub after_vars : {n : Named} {vs ws : List Var} → Clear ts class (then (phrase (more_methods [])) (λ ms. body_part n ws ms)) (more_vars vs)
  after_vars {vs = vs} = clear_through (methods_begin vs) (λ y. clear_word (λ e. cc))

  pub ends_methods : {f : ℕ → Rule ClassTree} {ms : List MethodTree} → Clear ts class (then (word kw.Body) f) (more_methods ms)
  ends_methods = clear_word (λ e. cc)

  pub class_vars_refused : {i u : ℕ} (n : Named) → slice_get ts i ≡ Some (tok.Word kw.Class) → IsToken ts name (i + 1) n → ReadsPhrase ts (more_vars []) (i + 2) (refused u) → ReadsPhrase ts class i (refused u)
  class_vars_refused {i = i} {u = u} n h k V = class_named n h k (reads_refused (let e : i + 2 ≡ i + 1 + 1 = omega arith in subst (λ (v : ℕ). ReadsPhrase ts (more_vars []) v (refused u)) e V) (λ z. after_vars))

  behind_vars : {i m : ℕ} {vs : List Var} {o : Outcome ClassTree} (n : Named) → slice_get ts i ≡ Some (tok.Word kw.Class) → IsToken ts name (i + 1) n → ReadsPhrase ts (more_vars []) (i + 2) (read vs m) →
      Reads ts class (then (phrase (more_methods [])) (λ ms. body_part n vs ms)) m o → ReadsPhrase ts class i o
  behind_vars {i = i} {m = m} {vs = vs} n h k V R = class_named n h k (reads_inner (let e : i + 2 ≡ i + 1 + 1 = omega arith in subst (λ (v : ℕ). ReadsPhrase ts (more_vars []) v (read vs m)) e V) (λ z. after_vars) R)

  pub class_methods_refused : {i m u : ℕ} {vs : List Var} (n : Named) → slice_get ts i ≡ Some (tok.Word kw.Class) → IsToken ts name (i + 1) n → ReadsPhrase ts (more_vars []) (i + 2) (read vs m) →
      ReadsPhrase ts (more_methods []) m (refused u) → ReadsPhrase ts class i (refused u)
  class_methods_refused n h k V M = behind_vars n h k V (reads_refused M (λ z. ends_methods))

  pub class_read : {i m j : ℕ} {vs : List Var} {ms : List MethodTree} (n : Named) (o : Outcome ClassTree) → slice_get ts i ≡ Some (tok.Word kw.Class) → IsToken ts name (i + 1) n → ReadsPhrase ts (more_vars []) (i + 2) (read vs m) →
      ReadsPhrase ts (more_methods []) m (read ms j) → Reads ts class (body_part n vs ms) j o → ReadsPhrase ts class i o
  class_read n o h k V M R = behind_vars n h k V (reads_inner M (λ z. ends_methods) R)

  pub next_class_read : {i m : ℕ} (cs : List ClassTree) (t : ClassTree) (o : Outcome (List ClassTree)) → slice_get ts i ≡ Some (tok.Word kw.Class) → ReadsPhrase ts class i (read t m) →
      ReadsPhrase ts (more_classes (cs ++ t ∷ [])) m o → ReadsPhrase ts (more_classes cs) i o
  unfolding rule
  next_class_read cs t o h R S = reads_first (reads_inner R (λ z. clear_any (λ t u. u)) (rw put-id at (reads_last {p = more_classes cs} {q = more_classes (cs ++ t ∷ [])} (λ x. x) o (λ t u. u) S))) (off_tree _ h refl)

  pub next_class_refused : {i u : ℕ} (cs : List ClassTree) → slice_get ts i ≡ Some (tok.Word kw.Class) → ReadsPhrase ts class i (refused u) → ReadsPhrase ts (more_classes cs) i (refused u)
  unfolding rule
  next_class_refused cs h R = reads_first (reads_refused R (λ z. clear_any (λ t u. u))) (off_tree _ h refl)

  pub classes_end : {i : ℕ} (cs : List ClassTree) → slice_get ts i ≢ Some (tok.Word kw.Class) → ReadsPhrase ts (more_classes cs) i (read cs i)
  unfolding rule
  classes_end cs h = reads_second reads_tree (off (misses_inner (misses_class h)))

  -- the program

  pub ends_classes : {f : ℕ → Rule (List ClassTree)} {cs : List ClassTree} → Clear ts program (then end f) (more_classes cs)
  ends_classes = clear_token tt (λ k y a t h g. cc (a.0, h, g))

  pub program_refused : {u : ℕ} → ReadsPhrase ts class 0 (refused u) → ReadsPhrase ts program 0 (refused u)
  unfolding rule
  program_refused R = reads_refused R (λ z. clear_any (λ t u. u))

  pub program_refused_later : {m u : ℕ} {c : ClassTree} → ReadsPhrase ts class 0 (read c m) → ReadsPhrase ts (more_classes (c ∷ [])) m (refused u) → ReadsPhrase ts program 0 (refused u)
  unfolding rule
  program_refused_later R S = reads_inner R (λ z. clear_any (λ t u. u)) (reads_refused S (λ z. ends_classes))

  pub program_more : {m j : ℕ} {c : ClassTree} {cs : List ClassTree} → ReadsPhrase ts class 0 (read c m) → ReadsPhrase ts (more_classes (c ∷ [])) m (read cs j) → slice_get ts j ≢ Some tok.End → ReadsPhrase ts program 0 (refused j)
  unfolding rule
  program_more R S h = reads_inner R (λ z. clear_any (λ t u. u)) (reads_inner S (λ z. ends_classes) (reads_missing tt (λ y a. h a.0)))

  pub program_read : {m j : ℕ} {c : ClassTree} {cs : List ClassTree} → ReadsPhrase ts class 0 (read c m) → ReadsPhrase ts (more_classes (c ∷ [])) m (read cs j) → slice_get ts j ≡ Some tok.End → ReadsPhrase ts program 0 (read cs (j + 1))
  unfolding rule
  program_read R S h = reads_inner R (λ z. clear_any (λ t u. u)) (reads_inner S (λ z. ends_classes) (reads_token tt _ (h, refl) reads_tree))
