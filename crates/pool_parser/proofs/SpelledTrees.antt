-- If the names, strings and integers of tokens can be written, so can those of their trees.
use Rattle.std.proofs.Common.{◌≡◌, ℕ, IsTrue, Bool, true, false, ◌&&◌, List, [], ◌∷◌, ◌++◌, Some, Result, Ok, Err, IfOk, slice_get, refl, subst}
use Rattle.std.proofs.lemmas.Option.{get_or_from_slice_get, slice_get_within}
use Rattle.run_types.specs.declared.types.Kind.{Kind}
use Rattle.pool_syntax.specs.declared.tree.Named.{Named}
use Rattle.pool_syntax.specs.declared.tree.Var.{Var}
use Rattle.pool_syntax.specs.declared.token.Tok.{Tok}
use Rattle.pool_syntax.specs.declared.token.Tok.TheVariants as tok
use Rattle.run_types.specs.declared.types.Value.TheVariants as value
use Rattle.pool_syntax.specs.Terms as t
use Rattle.pool_syntax.specs.Terms.{Expression, Expressions, Statement, Statements, Alternatives, MethodTree, ClassTree, ProgramTree}
use Rattle.pool_grammar.specs.Rules as r
use Rattle.pool_grammar.specs.Rules.{Group, Level, group, comparison, factor, postfix, primary, Phrase, Tree, program, more_classes, class, more_vars, names, more_names, more_methods, method, params, more_params, param, more_locals, stmts, more_stmts, stmt, invoke, alt, more_alts, list, expression, more_operands, more_sends, args, more_args, OneAlternative, Part, word, sign, name, integer, string, end, operator, phrase, SemanticValue, Rule, tree, then}
use Rattle.pool_grammar.specs.Rules.{either, post}
use Rattle.pool_grammar.specs.Grammar.{rule, arg_last, then_last, alt_last, variables}
use Rattle.pool_grammar.specs.Derives.{IsToken, Derives, nothing, token, inner, first, second, IsProgram}
use Rattle.text_scan.specs.Text.{Text}
use Rattle.text_scan.specs.Keywords.{is_name, is_string_number}
use Rattle.pool_syntax.specs.Spelled.{is_literal, is_kind, is_outcome, are_names, are_answer_names, are_variables, is_spelled_expression, are_spelled_expressions, is_spelled_statement, are_spelled_statements, are_spelled_alternatives, are_spelled_methods, is_spelled, IsSpelledToken, AreSpelled}
use Rattle.pool_syntax.specs.declared.tree.Program.{Program}
use Rattle.pool_syntax.specs.TreeOf.{program_of}
use Rattle.expression_parser.specs.declared.fault.SyntaxFault.{SyntaxFault}
use Rattle.pool_grammar.specs.Programs.{HasProgram}

both : {a b : Bool} → IsTrue a → IsTrue b → IsTrue (a && b)
both {a = true} h k = k
both {a = false} h k = cc

left_of : (a b : Bool) → IsTrue (a && b) → IsTrue a
left_of true b h = refl
left_of false b h = cc

right_of : (a b : Bool) → IsTrue (a && b) → IsTrue b
right_of true b h = h
right_of false b h = cc

module _ (table : List Text) where
  -- what is said of the tree of each phrase
  abbrev pub GoodTree : (p : Phrase) → Tree p → Type 0
  GoodTree program cs = IsTrue (is_spelled table cs)
  GoodTree (more_classes before) cs = IsTrue (is_spelled table cs)
  GoodTree class c = IsTrue (is_spelled table (c ∷ []))
  GoodTree (more_vars before) vs = IsTrue (are_variables table vs)
  GoodTree names ns = IsTrue (are_names table ns)
  GoodTree (more_names before) ns = IsTrue (are_names table ns)
  GoodTree r.kind k = IsTrue (is_kind table k.0)
  GoodTree (more_methods before) ms = IsTrue (are_spelled_methods table ms)
  GoodTree method m = IsTrue (are_spelled_methods table (m ∷ []))
  GoodTree post ss = IsTrue (are_spelled_statements table ss)
  GoodTree params vs = IsTrue (are_variables table vs)
  GoodTree (more_params before) vs = IsTrue (are_variables table vs)
  GoodTree param v = IsTrue (are_variables table (v ∷ []))
  GoodTree (more_locals before) vs = IsTrue (are_variables table vs)
  GoodTree stmts ss = IsTrue (are_spelled_statements table ss)
  GoodTree (more_stmts before) ss = IsTrue (are_spelled_statements table ss)
  GoodTree stmt s = IsTrue (is_spelled_statement table s)
  GoodTree invoke e = IsTrue (is_spelled_expression table e)
  GoodTree alt a = IsTrue (is_spelled_expression table a.0 && are_answer_names table a.1 && are_spelled_statements table a.2)
  GoodTree (more_alts before) alts = IsTrue (are_spelled_alternatives table alts)
  GoodTree list ns = IsTrue (are_names table ns)
  GoodTree (expression level) e = IsTrue (is_spelled_expression table e)
  GoodTree (more_operands g left) e = IsTrue (is_spelled_expression table e)
  GoodTree (more_sends to) e = IsTrue (is_spelled_expression table e)
  GoodTree args es = IsTrue (are_spelled_expressions table es)
  GoodTree (more_args before) es = IsTrue (are_spelled_expressions table es)

  -- what stands before a repeated part is spelled
  abbrev pub GoodBefore : Phrase → Type 0
  GoodBefore (more_classes before) = IsTrue (is_spelled table before)
  GoodBefore (more_vars before) = IsTrue (are_variables table before)
  GoodBefore (more_names before) = IsTrue (are_names table before)
  GoodBefore (more_methods before) = IsTrue (are_spelled_methods table before)
  GoodBefore (more_params before) = IsTrue (are_variables table before)
  GoodBefore (more_locals before) = IsTrue (are_variables table before)
  GoodBefore (more_stmts before) = IsTrue (are_spelled_statements table before)
  GoodBefore (more_alts before) = IsTrue (are_spelled_alternatives table before)
  GoodBefore (more_operands g left) = IsTrue (is_spelled_expression table left)
  GoodBefore (more_sends to) = IsTrue (is_spelled_expression table to)
  GoodBefore (more_args before) = IsTrue (are_spelled_expressions table before)
  GoodBefore _ = Unit {0}

  abbrev pub GoodPart : (part : Part) → SemanticValue part → Type 0
  GoodPart name n = IsTrue (is_name table n.name.0)
  GoodPart integer z = IsTrue (is_literal (value.Int z.0))
  GoodPart string s = IsTrue (is_string_number table s.0)
  GoodPart (phrase q) y = GoodTree q y
  GoodPart _ y = Unit {0}

  abbrev pub GoodPlace : Part → Type 0
  GoodPlace (phrase q) = GoodBefore q
  GoodPlace _ = Unit {0}

  -- with spelled parts the tree is spelled
  abbrev pub Spells : (p : Phrase) → Rule (Tree p) → Type 0
  Spells p (tree x) = GoodTree p x
  Spells p (then part f) = GoodPlace part × ((y : SemanticValue part) → GoodPart part y → Spells p (f y))
  Spells p (either r s) = Spells p r × Spells p s

  token_spelled : (ts : List Tok) → AreSpelled table ts → (i : ℕ) (t : Tok) → slice_get ts i ≡ Some t → IsSpelledToken table t
  token_spelled ts s i t h = subst (λ (u : Tok). IsSpelledToken table u) (get_or_from_slice_get ts i t t h) (s i t (slice_get_within ts i t h))

  token_good : (ts : List Tok) → AreSpelled table ts → (i : ℕ) (part : Part) (y : SemanticValue part) → IsToken ts part i y → GoodPart part y
  token_good ts s i (word k) y h = tt
  token_good ts s i (sign k) y h = tt
  token_good ts s i name y h = token_spelled ts s i (tok.Name y.name) h.0
  token_good ts s i integer y h = token_spelled ts s i (tok.Int y.0) h.0
  token_good ts s i string y h = token_spelled ts s i (tok.Str y) h
  token_good ts s i end y h = tt
  token_good ts s i (operator level) y h = tt
  token_good ts s i (phrase q) y h = absurd h

  derived_good : (ts : List Tok) → AreSpelled table ts → ((q : Phrase) → GoodBefore q → Spells q (rule q)) → {p : Phrase} {r : Rule (Tree p)} {i j : ℕ} {x : Tree p} → Derives ts p r i j x → Spells p r → GoodTree p x
  derived_good ts s all nothing g = g
  derived_good ts s all (token {part = part} {i = i} y h d) g = derived_good ts s all d (g.1 y (token_good ts s i part y h))
  derived_good ts s all (inner {q = q} y c d) g = derived_good ts s all d (g.1 y (derived_good ts s all c (all q g.0)))
  derived_good ts s all (first d) g = derived_good ts s all d g.0
  derived_good ts s all (second d) g = derived_good ts s all d g.1

  -- one more at the end

  names_last : (ns ms : List Named) → IsTrue (are_names table ns) → IsTrue (are_names table ms) → IsTrue (are_names table (ns ++ ms))
  names_last [] ms h k = k
  names_last (n ∷ ns) ms h k = let a = is_name table n.name.0 in let b = are_names table ns in both (left_of a b h) (names_last ns ms (right_of a b h) k)

  variables_last : (vs ws : List Var) → IsTrue (are_variables table vs) → IsTrue (are_variables table ws) → IsTrue (are_variables table (vs ++ ws))
  variables_last [] ws h k = k
  variables_last (v ∷ vs) ws h k = let a = is_name table v.name.0 && is_kind table v.kind in let b = are_variables table vs in both (left_of a b h) (variables_last vs ws (right_of a b h) k)

  of_names : (ns : List Named) (k : Kind × ℕ) → IsTrue (are_names table ns) → IsTrue (is_kind table k.0) → IsTrue (are_variables table (variables ns k))
  of_names [] k h g = refl
  of_names (n ∷ ns) k h g = let a = is_name table n.name.0 in let b = are_names table ns in both (both (left_of a b h) g) (of_names ns k (right_of a b h) g)

  methods_last : (ms ls : List MethodTree) → IsTrue (are_spelled_methods table ms) → IsTrue (are_spelled_methods table ls) → IsTrue (are_spelled_methods table (ms ++ ls))
  methods_last [] ls h k = k
  methods_last (m ∷ ms) ls h k =
      let a = is_name table m.name.name.0 && are_variables table m.params && are_variables table m.locals && is_outcome table m.outcome && are_spelled_statements table m.body && is_spelled_expression table m.value
      && are_spelled_statements table m.post in
      let b = are_spelled_methods table ms in both (left_of a b h) (methods_last ms ls (right_of a b h) k)

  classes_last : (cs ds : List ClassTree) → IsTrue (is_spelled table cs) → IsTrue (is_spelled table ds) → IsTrue (is_spelled table (cs ++ ds))
  classes_last [] ds h k = k
  classes_last (c ∷ cs) ds h k =
      let a = is_name table c.name.name.0 && are_variables table c.vars && are_spelled_methods table c.methods && are_spelled_statements table c.body in
      let b = is_spelled table cs in both (left_of a b h) (classes_last cs ds (right_of a b h) k)

  args_last : (es : Expressions) (e : Expression) → IsTrue (are_spelled_expressions table es) → IsTrue (is_spelled_expression table e) → IsTrue (are_spelled_expressions table (arg_last es e))
  args_last t.NoArgs e h k = both k refl
  args_last (t.Arg x es) e h k = let a = is_spelled_expression table x in let b = are_spelled_expressions table es in both (left_of a b h) (args_last es e (right_of a b h) k)

  stmts_last : (ss : Statements) (s : Statement) → IsTrue (are_spelled_statements table ss) → IsTrue (is_spelled_statement table s) → IsTrue (are_spelled_statements table (then_last ss s))
  stmts_last t.Done s h k = both k refl
  stmts_last (t.Then x ss) s h k = let a = is_spelled_statement table x in let b = are_spelled_statements table ss in both (left_of a b h) (stmts_last ss s (right_of a b h) k)

  alts_last : (xs : Alternatives) (a : OneAlternative) → IsTrue (are_spelled_alternatives table xs) → GoodTree alt a → IsTrue (are_spelled_alternatives table (alt_last xs a))
  alts_last t.NoAlts a h k = both k refl
  alts_last (t.Alt g ns ss xs) a h k =
      let c = is_spelled_expression table g && are_answer_names table ns && are_spelled_statements table ss in
      let b = are_spelled_alternatives table xs in both (left_of c b h) (alts_last xs a (right_of c b h) k)

  -- each rule

  spells : (q : Phrase) → GoodBefore q → Spells q (rule q)
  unfolding rule
  spells program b = (tt, λ c gc. (gc, λ cs g. (tt, λ e u. g)))
  spells (more_classes cs) b = ((tt, λ c gc. (classes_last cs (c ∷ []) b gc, λ all g. g)), b)
  spells class b = (tt, λ y u. (tt, λ n gn. (refl, λ vs gv. (refl, λ ms gm. (tt, λ z v. (tt, λ ss gs. (tt, λ w x. both (both (both (both gn gv) gm) gs) refl)))))))
  spells (more_vars vs) b = ((tt, λ y u. (tt, λ ns gn. (tt, λ z v. (tt, λ k gk. (variables_last vs (variables ns k) b (of_names ns k gn gk), λ all g. g))))), b)
  spells names b = (tt, λ n gn. (both gn refl, λ ns g. g))
  spells (more_names ns) b = ((tt, λ y u. (tt, λ n gn. (names_last ns (n ∷ []) b (both gn refl), λ all g. g))), b)
  spells r.kind b = ((tt, λ p u. refl), ((tt, λ p u. refl), (tt, λ n gn. gn)))
  spells (more_methods ms) b = ((tt, λ m gm. (methods_last ms (m ∷ []) b gm, λ all g. g)), b)
  spells method b = (
    (tt, λ y u. (tt, λ n gn. (tt, λ ps gp. (refl, λ ls gl. (tt, λ z v. (tt, λ ss gs. (tt, λ qs gq. (tt, λ w x. both (both (both (both (both (both (both gn gp) gl) refl) gs) refl) gq) refl)))))))),
    (tt, λ y u. (tt, λ n gn. (tt, λ ps gp. (tt, λ c d. (tt, λ k gk. (refl, λ ls gl. (tt, λ z v. (tt, λ ss gs. (tt, λ w x. (tt, λ e ge. (tt, λ qs gq. (tt, λ f h. both (both (both (both (both (both (both gn gp) gl) gk) gs) ge) gq) refl)))))))))))),
  )
  spells post b = ((tt, λ y u. (tt, λ ss g. g)), refl)
  spells params b = (tt, λ y u. ((tt, λ p gp. (gp, λ ps g. (tt, λ z v. g))), (tt, λ z v. refl)))
  spells (more_params ps) b = ((tt, λ y u. (tt, λ p gp. (variables_last ps (p ∷ []) b gp, λ all g. g))), b)
  spells param b = (tt, λ n gn. (tt, λ y u. (tt, λ k gk. both (both gn gk) refl)))
  spells (more_locals vs) b = ((tt, λ y u. (tt, λ ns gn. (tt, λ z v. (tt, λ k gk. (variables_last vs (variables ns k) b (of_names ns k gn gk), λ all g. g))))), b)
  spells stmts b = ((tt, λ s gs. (both gs refl, λ ss g. g)), refl)
  spells (more_stmts ss) b = ((tt, λ y u. (tt, λ s gs. (stmts_last ss s b gs, λ all g. g))), b)
  spells stmt b = (
    (tt, λ n gn. (tt, λ y u. (tt, λ e ge. both gn ge))),
    (
      (tt, λ y u. (tt, λ e ge. ge)),
      (
        (tt, λ y u. (tt, λ s gs. gs)),
        (
          (tt, λ y u. (tt, λ e ge. (tt, λ z v. (tt, λ these g. ((tt, λ w x. (tt, λ those h. (tt, λ c d. both (both ge g) h))), (tt, λ w x. both (both ge g) refl)))))),
          (
            (tt, λ y u. (tt, λ e ge. (tt, λ z v. (tt, λ ss g. (tt, λ w x. both ge g))))),
            (
              (tt, λ y u. (tt, λ ns g. g)),
              (
                (tt, λ y u. (tt, λ a ga. (both ga refl, λ all g. (tt, λ z v. g)))),
                (
                  (tt, λ to gt. (tt, λ y u. (tt, λ n gn. (tt, λ es ge. both (both gt gn) ge)))),
                  (tt, λ e ge. ge),
                ),
              ),
            ),
          ),
        ),
      ),
    ),
  )
  spells invoke b = ((tt, λ n gn. (tt, λ es ge. both gn ge)), ((tt, λ y u. (tt, λ n gn. gn)), (tt, λ to gt. (tt, λ y u. (tt, λ n gn. (tt, λ es ge. both (both gt gn) ge))))))
  spells alt b = (tt, λ y u. (tt, λ g gg. ((tt, λ z v. (tt, λ ns gn. (tt, λ w x. (tt, λ ss gs. both (both gg gn) gs)))), (tt, λ w x. (tt, λ ss gs. both (both gg refl) gs)))))
  spells (more_alts xs) b = ((tt, λ a ga. (alts_last xs a b ga, λ all g. g)), b)
  spells list b = (tt, λ y u. (tt, λ ns g. (tt, λ z v. g)))
  spells (expression (group k)) b = (tt, λ l gl. (gl, λ e g. g))
  spells (expression comparison) b = (tt, λ l gl. ((tt, λ o u. (tt, λ e ge. both gl ge)), gl))
  spells (expression factor) b = ((tt, λ o u. (tt, λ e g. g)), (tt, λ e g. g))
  spells (expression postfix) b = (tt, λ to gt. (gt, λ e g. g))
  spells (expression primary) b = (
    (tt, λ z gz. gz),
    (
      (tt, λ p u. refl),
      (
        (tt, λ p u. refl),
        (
          (tt, λ p u. refl),
          (
            (tt, λ p u. refl),
            (
              (tt, λ n gn. gn),
              ((tt, λ n gn. (tt, λ es g. both gn g)), ((tt, λ y u. (tt, λ n gn. gn)), (tt, λ y u. (tt, λ e g. (tt, λ z v. g))))),
            ),
          ),
        ),
      ),
    ),
  )
  spells (more_operands k l) b = ((tt, λ o u. (tt, λ e ge. (both b ge, λ x g. g))), b)
  spells (more_sends to) b = ((tt, λ y u. (tt, λ n gn. (tt, λ es ge. (both (both b gn) ge, λ e g. g)))), b)
  spells args b = (tt, λ y u. ((tt, λ e ge. (both ge refl, λ es g. (tt, λ z v. g))), (tt, λ z v. refl)))
  spells (more_args es) b = ((tt, λ y u. (tt, λ e ge. (args_last es e b ge, λ all g. g))), b)

  pub program_spelled : (ts : List Tok) (p : ProgramTree) → AreSpelled table ts → IsProgram ts p → IsTrue (is_spelled table p)
  program_spelled ts p s d = derived_good ts s spells d (spells program tt)

  pub result_spelled : (ts : List Tok) (r : Result Program SyntaxFault) → IfOk r (λ p. HasProgram ts (program_of p)) → AreSpelled table ts → IfOk r (λ p. IsTrue (is_spelled table (program_of p)))
  result_spelled ts (Ok p) h s = program_spelled ts (program_of p) s h.0
  result_spelled ts (Err e) h s = tt
