-- A phrase derives at most one tree that ends where no token continues it, so a list of tokens is at most one
-- program.
use Rattle.std.proofs.Common.{◌≡◌, ℕ, ◌+◌, ◌≤◌, ◌⊎◌, inl, inr, ⊎_elim, List, Some, slice_get, refl, sym, subst, subst₂, arith, eq-or-lt_of_le}
use Rattle.text_scan.specs.declared.keywords.Keyword.{Keyword}
use Rattle.pool_syntax.specs.declared.token.Sign.{Sign}
use Rattle.pool_syntax.specs.declared.token.Tok.{Tok}
use Rattle.pool_syntax.specs.declared.token.Tok.TheVariants as tok
use Rattle.text_scan.specs.declared.keywords.Keyword.TheVariants as kw
use Rattle.pool_syntax.specs.declared.token.Sign.TheVariants as sg
use Rattle.pool_syntax.specs.Terms as t
use Rattle.pool_syntax.specs.Terms.{Expression, Expressions, Statement, Statements, Alternatives, ProgramTree}
use Rattle.pool_grammar.specs.Rules as r
use Rattle.pool_grammar.specs.Rules.{Group, Level, group, comparison, factor, postfix, primary, Phrase, Tree, program, more_classes, class, more_vars, names, more_names, more_methods, method, params, more_params, param, more_locals, stmts, more_stmts, stmt, invoke, alt, more_alts, list, expression, more_operands, more_sends, args, more_args, Part, word, sign, name, integer, string, end, operator, phrase, SemanticValue, Rule, tree, then}
use Rattle.pool_grammar.specs.Rules.{either, post}
use Rattle.pool_grammar.specs.Grammar.{rule, expr}
use Rattle.pool_grammar.specs.Derives.{IsToken, Derives, nothing, token, inner, first, second, IsProgram}
use Rattle.pool_grammar.proofs.Laws.{IsTerminal}
use Rattle.expression_parser.specs.Reads.{GoesOn, Stops, read, refused, strength, level_number}
use Rattle.expression_parser.proofs.Laws.{Clear, Misses, at_least, front_of, token_one, Derives-tree, Derives-token, Derives-inner, Derives-either, clear_tree, clear_inner, clear_sign, misses_token, misses_either, misses_inner, invoke_postfix, clear_any, operator_strength, group_strength}
use Rattle.expression_parser.proofs.Laws.{operand_above, after_operand, prefix_begins_none, misses_postfix, misses_expr, after_sum, after_primary, closes_expression, after_arg, closes_args}
use Rattle.pool_parser.specs.Tails.{proper_part, result_part}
use Rattle.pool_parser.proofs.Choices.{misses_through}
use Rattle.statement_parser.proofs.Laws.{misses_sending, misses_unbegun, behind_first, invoke_within, after_destination, assigned_rest, ends_value, ends_statements, after_these, after_guard, after_alt, ends_alt, ends_alts, after_stmt}
use Rattle.pool_parser.proofs.DeclarationRules.{closes_params, misses_param, ends_locals, no_local, after_vars, ends_methods, ends_classes, after_body, after_value, ends_post}

-- two alternatives are never both taken
pub record Apart (ts : List Tok) (p : Phrase) (r s : Rule (Tree p)) : Type 0 where
  pub never : (i j k : ℕ) (x y : Tree p) → Derives ts p r i j x → Stops ts p j → Derives ts p s i k y → Stops ts p k → ⊥

-- two derivations of the phrase are one
abbrev pub Unique : List Tok → Phrase → Type 0
Unique ts q = (i j k : ℕ) (x y : Tree q) → Derives ts q (rule q) i j x → Stops ts q j → Derives ts q (rule q) i k y → Stops ts q k → (j ≡ k) × (x ≡ y)

-- a phrase in a rule is one of those spoken of, or is known to be unique, and what stands behind it does not go on with it
abbrev pub Beside : (Phrase → Type 0) → List Tok → (p : Phrase) (part : Part) → (SemanticValue part → Rule (Tree p)) → Type 0
Beside A ts p (phrase q) f = (A q ⊎ Unique ts q) × ((z : Tree q) → Clear ts p (f z) q)
Beside A ts p _ f = Unit {0}

-- the tokens decide which way through the rule is taken
abbrev pub Decided : (Phrase → Type 0) → List Tok → (p : Phrase) → Rule (Tree p) → Type 0
Decided A ts p (tree x) = Unit {0}
Decided A ts p (then part f) = Beside A ts p part f × ((y : SemanticValue part) → Decided A ts p (f y))
Decided A ts p (either r s) = Decided A ts p r × Decided A ts p s × Apart ts p r s

terminal_of : (ts : List Tok) (i : ℕ) (part : Part) (y : SemanticValue part) → IsToken ts part i y → IsTerminal part
terminal_of ts i (phrase q) y h = h
terminal_of ts i _ y h = tt

stops_there : {ts : List Tok} {p q : Phrase} {r : Rule (Tree p)} {n j : ℕ} {x : Tree p} → Clear ts p r q → Derives ts p r n j x → Stops ts p j → Stops ts q n
stops_there {n = n} {x = x} c e s = ⊎_elim (λ h. c.empty n x (rw (← h) at e) (rw (← h) at s)) (λ l. c.begun n (front_of (n + 1) e (omega arith) (omega arith))) (eq-or-lt_of_le (at_least e))

pub unique : (A : Phrase → Type 0) (ts : List Tok) → ((q : Phrase) → A q → Decided A ts q (rule q)) → {p : Phrase} {r : Rule (Tree p)} {i j k : ℕ} {x y : Tree p} →
    Derives ts p r i j x → Stops ts p j → Derives ts p r i k y → Stops ts p k → Decided A ts p r → (j ≡ k) × (x ≡ y)
unique A ts all nothing s e t g = Derives-tree e
unique A ts all {p = p} {k = k} {y = z} (token {part = part} {rest = f} {i = i} y h d) s e t g =
    let a = Derives-token (terminal_of ts i part y h) e in
    unique A ts all d s (subst (λ (v : SemanticValue part). Derives ts p (f v) (i + 1) k z) (token_one ts i part a.0 y a.1 h) a.2) t (g.1 y)
unique A ts all {p = p} {k = k} {y = z} (inner {q = q} {rest = f} {i = i} {m = m} y c d) s e t g =
    let a = Derives-inner e in
    let u : (m ≡ a.0) × (y ≡ a.1) = ⊎_elim (λ b. unique A ts all c (stops_there (g.0.1 y) d s) a.2 (stops_there (g.0.1 a.1) a.3 t) (all q b))
    (λ b. b i m a.0 y a.1 c (stops_there (g.0.1 y) d s) a.2 (stops_there (g.0.1 a.1) a.3 t)) g.0.0 in
    unique A ts all d s (subst₂ (λ (v : Tree q) (n : ℕ). Derives ts p (f v) n k z) (sym u.1) (sym u.0) a.3) t (g.1 y)
unique A ts all {i = i} {j = j} {k = k} {x = x} {y = y} (first d) s e t g = ⊎_elim (λ a. unique A ts all d s a t g.0) (λ a. absurd (g.2.never i j k x y d s a t)) (Derives-either e)
unique A ts all {i = i} {j = j} {k = k} {x = x} {y = y} (second d) s e t g = ⊎_elim (λ a. absurd (g.2.never i k j y x a t d s)) (λ a. unique A ts all d s a t g.1) (Derives-either e)

-- how alternatives are told apart

module _ {ts : List Tok} {p : Phrase} where
  missed : {s : Rule (Tree p)} {i k : ℕ} {y : Tree p} → Misses ts p s i → Derives ts p s i k y → ⊥
  missed {i = i} {y = y} m d = ⊎_elim (λ e. m.empty y (rw (← e) at d)) (λ l. m.begun (front_of (i + 1) d (omega arith) (omega arith))) (eq-or-lt_of_le (at_least d))

  apart_tree : {r : Rule (Tree p)} {x : Tree p} → ((i j : ℕ) (y : Tree p) → Derives ts p r i j y → Stops ts p i → ⊥) → Apart ts p r (tree x)
  apart_tree n = record { never = λ i j k x y d s e t. let h = Derives-tree e in n i j x d (subst (λ (v : ℕ). Stops ts p v) (sym h.0) t) }

  apart_sign_tree : {s : Sign} {f : ℕ → Rule (Tree p)} {x : Tree p} → GoesOn p (tok.Sign s) → Apart ts p (then (sign s) f) (tree x)
  apart_sign_tree g = apart_tree (λ i j y d s. let a = Derives-token tt d in s _ a.1.0 g)

  apart_word_tree : {w : Keyword} {f : ℕ → Rule (Tree p)} {x : Tree p} → GoesOn p (tok.Word w) → Apart ts p (then (word w) f) (tree x)
  apart_word_tree g = apart_tree (λ i j y d s. let a = Derives-token tt d in s _ a.1.0 g)

  apart_by : {part : Part} {f : SemanticValue part → Rule (Tree p)} {s : Rule (Tree p)} → IsTerminal part → ((i : ℕ) (y : SemanticValue part) → IsToken ts part i y → Misses ts p s i) → Apart ts p (then part f) s
  apart_by t m = record { never = λ i j k x y d s e u. let h = Derives-token t d in missed (m i h.0 h.1) e }

  apart_word : {w : Keyword} {f : ℕ → Rule (Tree p)} {s : Rule (Tree p)} → ((i : ℕ) → slice_get ts i ≡ Some (tok.Word w) → Misses ts p s i) → Apart ts p (then (word w) f) s
  apart_word m = record { never = λ i j k x y d s e u. let h = Derives-token tt d in missed (m i h.1.0) e }

  apart_sym : {r s : Rule (Tree p)} → Apart ts p r s → Apart ts p s r
  apart_sym a = record { never = λ i j k x y d s e t. a.never i k j y x e t d s }

  apart_either : {r s t : Rule (Tree p)} → Apart ts p r s → Apart ts p r t → Apart ts p r (either s t)
  apart_either a b = record { never = λ i j k x y d s e u. ⊎_elim (λ v. a.never i j k x y d s v u) (λ v. b.never i j k x y d s v u) (Derives-either e) }

-- expressions

abbrev pub InExpressions : Phrase → Type 0
InExpressions (expression l) = Unit {0}
InExpressions (more_operands g l) = Unit {0}
InExpressions (more_sends to) = Unit {0}
InExpressions args = Unit {0}
InExpressions (more_args es) = Unit {0}
InExpressions _ = ⊥

module _ (A : Phrase → Type 0) (ts : List Tok) (a : (q : Phrase) → InExpressions q → A q) where
  decided_group : (g : Group) → Decided A ts (expression (group g)) (rule (expression (group g)))
  unfolding rule
  decided_group g = ((inl (a _ tt), λ z. clear_inner (after_operand g z) (λ e. clear_tree (λ t u. omega (arith, operand_above g)))), λ l. ((inl (a (more_operands g l) tt), λ z. clear_tree (λ t u. u)), λ e. tt))

  decided_operands : (g : Group) (l : Expression) → Decided A ts (more_operands g l) (rule (more_operands g l))
  unfolding rule
  decided_operands g l = (
    (tt, λ o. ((inl (a _ tt), λ z. clear_inner (after_operand g _) (λ e. clear_tree (λ t u. omega (arith, operand_above g)))), λ r. ((inl (a (more_operands g (t.Infix o.0 l r o.1)) tt), λ z. clear_tree (λ t u. u)), λ e. tt))),
    tt,
    apart_tree (λ i j y d s. let b = Derives-token tt d in s b.1.0 b.1.1 (let e : strength b.1.0 ≡ level_number (group g) = group_strength g _ _ b.1.2 in omega arith)),
  )

  decided_comparison : Decided A ts (expression comparison) (rule (expression comparison))
  unfolding rule
  decided_comparison = (
    (inl (a _ tt), after_sum),
    λ l. (
      (tt, λ o. ((inl (a _ tt), λ z. clear_tree (λ t u. omega arith)), λ r. tt)),
      tt,
      apart_tree (λ i j y d s. let b = Derives-token tt d in s b.1.0 b.1.1 (let e : strength b.1.0 ≡ 3 = operator_strength comparison _ _ b.1.2 (omega arith) in omega arith)),
    ),
  )

  decided_factor : Decided A ts (expression factor) (rule (expression factor))
  unfolding rule
  decided_factor = (
    (tt, λ o. ((inl (a _ tt), λ z. clear_tree (λ t u. u)), λ e. tt)),
    ((inl (a _ tt), λ z. clear_tree (λ t u. omega arith)), λ e. tt),
    apart_by tt (λ i y h. misses_inner (misses_postfix h.1 (prefix_begins_none h.0 y.0 h.2))),
  )

  decided_postfix : Decided A ts (expression postfix) (rule (expression postfix))
  unfolding rule
  decided_postfix = ((inl (a _ tt), λ z. clear_inner (after_primary z) (λ y. clear_tree (λ t u. omega arith))), λ to. ((inl (a (more_sends to) tt), λ z. clear_tree (λ t u. u)), λ e. tt))

  decided_sends : (to : Expression) → Decided A ts (more_sends to) (rule (more_sends to))
  unfolding rule
  decided_sends to = (
    (tt, λ y. (tt, λ n. ((inl (a args tt), λ z. clear_any (λ t u. u)), λ es. ((inl (a (more_sends (t.Send to n.name.0 es n.pos)) tt), λ z. clear_tree (λ t u. u)), λ e. tt)))),
    tt,
    apart_sign_tree (omega arith),
  )

  variable_call : Apart ts (expression primary) (then name (λ n. tree (t.Variable n.name.0 n.pos))) (then name (λ n. then (phrase args) (λ es. tree (t.Call n.name.0 es n.pos))))
  unfolding rule
  variable_call = record {
    never = λ i j k x y d s e u. let b = Derives-token tt d in let c = Derives-tree b.2 in let f = Derives-token tt e in let g = Derives-inner f.2 in let h = Derives-token tt g.2 in
        s (tok.Sign sg.LeftParen) (rw c.0 at h.1.0) (omega arith);
  }

  decided_primary : Decided A ts (expression primary) (rule (expression primary))
  unfolding rule
  decided_primary = ((tt, λ y. tt), ((tt, λ y. tt), ((tt, λ y. tt), ((tt, λ y. tt), ((tt, λ y. tt), ((tt, λ y. tt), ((tt, λ n. ((inl (a args tt), λ z. clear_any (λ t u. u)), λ es. tt)), ((tt, λ y. (tt, λ n. tt)), (tt, λ y. ((inl (a expr tt), λ z. closes_expression), λ e. (tt, λ w. tt))), apart_by tt (λ i y h. misses_token tt (λ v a. cc (a.0, h.0)))), apart_by tt (λ i y h. misses_either (misses_token tt (λ v a. cc (a.0, h.0))) (misses_token tt (λ v a. cc (a.0, h.0))))), apart_either variable_call (apart_by tt (λ i y h. misses_either (misses_token tt (λ v a. cc (a.0, h.0))) (misses_token tt (λ v a. cc (a.0, h.0)))))), apart_by tt (λ i y h. misses_either (misses_token tt (λ v a. cc (a.0, h.0))) (misses_either (misses_token tt (λ v a. cc (a.0, h.0))) (misses_either (misses_token tt (λ v a. cc (a.0, h.0))) (misses_token tt (λ v a. cc (a.0, h.0))))))), apart_by tt (λ i y h. misses_either (misses_token tt (λ v a. cc (a.0, h.0))) (misses_either (misses_token tt (λ v a. cc (a.0, h.0))) (misses_either (misses_token tt (λ v a. cc (a.0, h.0))) (misses_either (misses_token tt (λ v a. cc (a.0, h.0))) (misses_token tt (λ v a. cc (a.0, h.0)))))))), apart_by tt (λ i y h. misses_either (misses_token tt (λ v a. cc (a.0, h.0))) (misses_either (misses_token tt (λ v a. cc (a.0, h.0))) (misses_either (misses_token tt (λ v a. cc (a.0, h.0))) (misses_either (misses_token tt (λ v a. cc (a.0, h.0))) (misses_either (misses_token tt (λ v a. cc (a.0, h.0))) (misses_token tt (λ v a. cc (a.0, h.0))))))))), apart_by tt (λ i y h. misses_either (misses_token tt (λ v a. cc (a.0, h.0))) (misses_either (misses_token tt (λ v a. cc (a.0, h.0))) (misses_either (misses_token tt (λ v a. cc (a.0, h.0))) (misses_either (misses_token tt (λ v a. cc (a.0, h.0))) (misses_either (misses_token tt (λ v a. cc (a.0, h.0))) (misses_either (misses_token tt (λ v a. cc (a.0, h.0))) (misses_token tt (λ v a. cc (a.0, h.0)))))))))), apart_by tt (λ i y h. misses_either (misses_token tt (λ v a. cc (a.0, h.0))) (misses_either (misses_token tt (λ v a. cc (a.0, h.0))) (misses_either (misses_token tt (λ v a. cc (a.0, h.0))) (misses_either (misses_token tt (λ v a. cc (a.0, h.0))) (misses_either (misses_token tt (λ v a. cc (a.0, h.0))) (misses_either (misses_token tt (λ v a. cc (a.0, h.0))) (misses_either (misses_token tt (λ v a. cc (a.0, h.0))) (misses_token tt (λ v a. cc (a.0, h.0)))))))))))

  decided_args : Decided A ts args (rule args)
  unfolding rule
  decided_args = (
    tt,
    λ y. (
      ((inl (a expr tt), λ z. clear_inner after_arg (λ w. closes_expression)), λ e. ((inl (a (more_args (t.Arg e t.NoArgs)) tt), λ z. closes_args), λ es. (tt, λ w. tt))),
      (tt, λ w. tt),
      apart_sym (apart_by tt (λ i v h. misses_inner (misses_expr h.0 refl refl))),
    ),
  )

  decided_more_args : (es : Expressions) → Decided A ts (more_args es) (rule (more_args es))
  unfolding rule
  decided_more_args es = (
    (tt, λ y. ((inl (a expr tt), λ z. clear_inner after_arg (λ w. clear_tree (λ t u. inr u))), λ e. ((inl (a (more_args _) tt), λ z. clear_tree (λ t u. u)), λ all. tt))),
    tt,
    apart_sign_tree (inl refl),
  )

  pub decided_expressions : (q : Phrase) → InExpressions q → Decided A ts q (rule q)
  decided_expressions (expression (group g)) b = decided_group g
  decided_expressions (expression comparison) b = decided_comparison
  decided_expressions (expression factor) b = decided_factor
  decided_expressions (expression postfix) b = decided_postfix
  decided_expressions (expression primary) b = decided_primary
  decided_expressions (more_operands g l) b = decided_operands g l
  decided_expressions (more_sends to) b = decided_sends to
  decided_expressions args b = decided_args
  decided_expressions (more_args es) b = decided_more_args es
  decided_expressions _ b = absurd b

unique_postfix : {ts : List Tok} → Unique ts (expression postfix)
unique_postfix {ts = ts} i j k x y d s e t = unique InExpressions ts (decided_expressions InExpressions ts (λ q b. b)) d s e t (decided_expressions InExpressions ts (λ q b. b) (expression postfix) tt)

unique_invoke : {ts : List Tok} → Unique ts invoke
unique_invoke {ts = ts} i j k x y d s e t = unique_postfix i j k x y (invoke_postfix ts i j x d) (λ v h g. s v h (inl g)) (invoke_postfix ts i k y e) (λ v h g. t v h (inl g))

-- parameters

abbrev pub InParams : Phrase → Type 0
InParams r.kind = Unit {0}
InParams param = Unit {0}
InParams params = Unit {0}
InParams (more_params vs) = Unit {0}
InParams _ = ⊥

module _ (A : Phrase → Type 0) (ts : List Tok) (a : (q : Phrase) → InParams q → A q) where
  decided_kind : Decided A ts r.kind (rule r.kind)
  unfolding rule
  decided_kind = ((tt, λ y. tt), ((tt, λ y. tt), (tt, λ y. tt), apart_word (λ i h. misses_token tt (λ v a. cc (a.0, h)))), apart_word (λ i h. misses_either (misses_token tt (λ v a. cc (a.0, h))) (misses_token tt (λ v a. cc (a.0, h)))))

  decided_param : Decided A ts param (rule param)
  unfolding rule
  decided_param = (tt, λ n. (tt, λ y. ((inl (a r.kind tt), λ z. clear_any (λ t u. u)), λ k. tt)))

  decided_parens : Decided A ts params (rule params)
  unfolding rule
  decided_parens = (
    tt,
    λ y. (
      ((inl (a param tt), λ z. clear_any (λ t u. u)), λ v. ((inl (a (more_params _) tt), λ z. closes_params), λ vs. (tt, λ w. tt))),
      (tt, λ w. tt),
      apart_sym (apart_by tt (λ i v h. misses_inner (misses_param h.0))),
    ),
  )

  decided_more_params : (vs : List _) → Decided A ts (more_params vs) (rule (more_params vs))
  unfolding rule
  decided_more_params vs = ((tt, λ y. ((inl (a param tt), λ z. clear_any (λ t u. u)), λ v. ((inl (a (more_params _) tt), λ z. clear_tree (λ t u. u)), λ all. tt))), tt, apart_sign_tree refl)

  pub decided_params : (q : Phrase) → InParams q → Decided A ts q (rule q)
  decided_params r.kind b = decided_kind
  decided_params param b = decided_param
  decided_params params b = decided_parens
  decided_params (more_params vs) b = decided_more_params vs
  decided_params _ b = absurd b

unique_params : {ts : List Tok} → Unique ts params
unique_params {ts = ts} i j k x y d s e t = unique InParams ts (decided_params InParams ts (λ q b. b)) d s e t (decided_params InParams ts (λ q b. b) params tt)

-- all phrases but invoke, which is known to be unique

abbrev pub IsOpen : Phrase → Type 0
IsOpen invoke = ⊥
IsOpen _ = Unit {0}

expressions_open : (q : Phrase) → InExpressions q → IsOpen q
expressions_open invoke b = b
expressions_open _ b = tt

params_open : (q : Phrase) → InParams q → IsOpen q
params_open invoke b = b
params_open _ b = tt

module _ (ts : List Tok) where
  decided_names : Decided IsOpen ts names (rule names)
  unfolding rule
  decided_names = (tt, λ n. ((inl tt, λ z. clear_tree (λ t u. u)), λ ns. tt))

  decided_more_names : (ns : List _) → Decided IsOpen ts (more_names ns) (rule (more_names ns))
  unfolding rule
  decided_more_names ns = ((tt, λ y. (tt, λ n. ((inl tt, λ z. clear_tree (λ t u. u)), λ all. tt))), tt, apart_sign_tree refl)

  decided_list : Decided IsOpen ts list (rule list)
  unfolding rule
  decided_list = (tt, λ y. ((inl tt, λ z. clear_sign (λ e. cc)), λ ns. (tt, λ w. tt)))

  decided_more_vars : (vs : List _) → Decided IsOpen ts (more_vars vs) (rule (more_vars vs))
  unfolding rule
  decided_more_vars vs = ((tt, λ y. ((inl tt, λ z. clear_sign (λ e. cc)), λ ns. (tt, λ w. ((inl tt, λ z. clear_any (λ t u. u)), λ k. ((inl tt, λ z. clear_tree (λ t u. u)), λ all. tt))))), tt, apart_word_tree refl)

  decided_more_locals : (vs : List _) → Decided IsOpen ts (more_locals vs) (rule (more_locals vs))
  unfolding rule
  decided_more_locals vs = ((tt, λ y. ((inl tt, λ z. clear_sign (λ e. cc)), λ ns. (tt, λ w. ((inl tt, λ z. clear_any (λ t u. u)), λ k. ((inl tt, λ z. clear_tree (λ t u. u)), λ all. tt))))), tt, apart_word_tree refl)

  -- both forms of a method have the same parameters, and then the next token tells
  methods_apart : Apart ts method (then (word kw.Method) (λ y. then name (λ n. then (phrase params) (λ ps. proper_part n ps)))) (then (word kw.Method) (λ y. then name (λ n. then (phrase params) (λ ps. result_part n ps))))
  methods_apart = record {
    never = λ i j k x y d s e t.
        let b = Derives-token tt d in let c = Derives-token tt b.2 in let f = Derives-inner c.2 in
        let g = Derives-token tt e in let h = Derives-token tt g.2 in let l = Derives-inner h.2 in
        let m = Derives-token tt l.3 in
        let u : (f.0 ≡ l.0) × (f.1 ≡ l.1) = unique_params (i + 1 + 1) f.0 l.0 f.1 l.1 f.2 (λ v n o. o) l.2 (λ v n o. o) in
        let colon : slice_get ts f.0 ≡ Some (tok.Sign sg.Colon) = rw u.0 m.1.0 in
        missed (misses_through (no_local colon) (λ v. misses_token tt (λ z o. cc (o.0, colon)))) f.3;
  }

  decided_post : Decided IsOpen ts post (rule post)
  unfolding rule
  decided_post = ((tt, λ y. ((inl tt, λ z. clear_tree (λ t u. inr u)), λ ss. tt)), tt, apart_word_tree (inl refl))

  decided_method : Decided IsOpen ts method (rule method)
  unfolding rule
  decided_method = ((tt, λ y. (tt, λ n. ((inl tt, λ z. clear_any (λ t u. u)), λ ps. ((inl tt, λ z. ends_locals), λ ls. (tt, λ b. ((inl tt, λ z. after_body), λ ss. ((inl tt, λ z. ends_post), λ qs. (tt, λ y. tt)))))))), (tt, λ y. (tt, λ n. ((inl tt, λ z. clear_any (λ t u. u)), λ ps. (tt, λ y. ((inl tt, λ z. clear_any (λ t u. u)), λ k. ((inl tt, λ z. ends_locals), λ ls. (tt, λ b. ((inl tt, λ z. ends_statements refl refl), λ ss. (tt, λ c. ((inl tt, λ z. after_value), λ e. ((inl tt, λ z. ends_post), λ qs. (tt, λ w. tt)))))))))))), methods_apart)

  decided_more_methods : (ms : List _) → Decided IsOpen ts (more_methods ms) (rule (more_methods ms))
  unfolding rule
  decided_more_methods ms = (
    ((inl tt, λ z. clear_any (λ t u. u)), λ c. ((inl tt, λ z. clear_tree (λ t u. u)), λ all. tt)),
    tt,
    apart_tree (λ i j y d s. let b = Derives-inner d in ⊎_elim (λ c. let e = Derives-token tt c in s _ e.1.0 refl) (λ c. let e = Derives-token tt c in s _ e.1.0 refl) (Derives-either b.2)),
  )

  decided_class : Decided IsOpen ts class (rule class)
  unfolding rule
  decided_class = (tt, λ y. (tt, λ n. ((inl tt, λ z. after_vars), λ vs. ((inl tt, λ z. ends_methods), λ ms. (tt, λ b. ((inl tt, λ z. ends_statements refl refl), λ ss. (tt, λ w. tt)))))))

  decided_more_classes : (cs : List _) → Decided IsOpen ts (more_classes cs) (rule (more_classes cs))
  unfolding rule
  decided_more_classes cs = (((inl tt, λ z. clear_any (λ t u. u)), λ c. ((inl tt, λ z. clear_tree (λ t u. u)), λ all. tt)), tt, apart_tree (λ i j y d s. let b = Derives-inner d in let e = Derives-token tt b.2 in s _ e.1.0 refl))

  decided_program : Decided IsOpen ts program (rule program)
  unfolding rule
  decided_program = ((inl tt, λ z. clear_any (λ t u. u)), λ c. ((inl tt, λ z. ends_classes), λ cs. (tt, λ w. tt)))

  -- statements

  assign_apart : Apart ts stmt (then name (λ n. then (sign sg.Becomes) (λ y. then (phrase expr) (λ e. tree (t.Assign n.name.0 n.pos e))))) (behind_first (rule stmt))
  assign_apart = record { never = λ i j k x y d s e u. let b = Derives-token tt d in let c = Derives-token tt b.2 in let o : refused (i + 1) ≡ read y k = (assigned_rest b.0 b.1 c.1.0).only y k e u in cc }

  write_apart : Apart ts stmt (then (word kw.Write) (λ y. then (phrase expr) (λ e. tree (t.Write e)))) (then (word kw.Write) (λ y. then string (λ s. tree (t.WriteText s.0))))
  write_apart = record { never = λ i j k x y d s e u. let b = Derives-token tt d in let c = Derives-inner b.2 in let f = Derives-token tt e in let g = Derives-token tt f.2 in missed (misses_expr g.1 refl refl) c.2 }

  send_apart : Apart ts stmt (then (phrase (expression postfix)) (λ to. then (sign sg.BangBang) (λ y. then name (λ n. then (phrase args) (λ es. tree (t.Async to n.name.0 n.pos es)))))) (then (phrase invoke) (λ e. tree (t.Do e)))
  send_apart = record {
    never = λ i j k x y d s e u.
        let b = Derives-inner d in let c = Derives-token tt b.3 in let f = Derives-inner e in let g = Derives-tree f.3 in
        let same = unique_postfix i b.0 f.0 b.1 f.1 b.2
        (λ v h o. let w : v ≡ tok.Sign sg.BangBang = cc (c.1.0, h) in let o' : 7 ≤ strength (tok.Sign sg.BangBang) = rw w at o in omega arith)
        (invoke_postfix ts i f.0 f.1 f.2) (λ v h o. u v (rw g.0 at h) (inl (omega arith))) in
        let here : b.0 ≡ k = omega (arith, same.0, g.0) in u (tok.Sign sg.BangBang) (rw here at c.1.0) (inr refl);
  }

  decided_stmt : Decided IsOpen ts stmt (rule stmt)
  unfolding rule
  decided_stmt = ((tt, λ n. (tt, λ y. ((inl tt, λ z. clear_tree (λ t u. inl u)), λ e. tt))), ((tt, λ y. ((inl tt, λ z. clear_tree (λ t u. inl u)), λ e. tt)), ((tt, λ y. (tt, λ s. tt)), ((tt, λ y. ((inl tt, λ z. ends_value refl), λ e. (tt, λ b. ((inl tt, λ z. after_these), λ these. ((tt, λ c. ((inl tt, λ z. ends_statements refl refl), λ those. (tt, λ w. tt))), (tt, λ w. tt), apart_word (λ i h. misses_token tt (λ v a. cc (a.0, h)))))))), ((tt, λ y. ((inl tt, λ z. ends_value refl), λ e. (tt, λ b. ((inl tt, λ z. ends_statements refl refl), λ ss. (tt, λ w. tt))))), ((tt, λ y. ((inl tt, λ z. clear_any (λ t u. u)), λ ns. tt)), ((tt, λ y. ((inl tt, λ z. clear_inner after_alt (λ w. ends_alt)), λ a. ((inl tt, λ z. ends_alts), λ all. (tt, λ w. tt)))), (((inl tt, λ z. after_destination), λ to. (tt, λ y. (tt, λ n. ((inl tt, λ z. clear_any (λ t u. u)), λ es. tt)))), ((inr unique_invoke, λ z. clear_tree invoke_within), λ e. tt), send_apart), apart_word (λ i h. misses_sending h refl)), apart_word (λ i h. misses_either (misses_token tt (λ v a. cc (a.0, h))) (misses_sending h refl))), apart_word (λ i h. misses_either (misses_token tt (λ v a. cc (a.0, h))) (misses_either (misses_token tt (λ v a. cc (a.0, h))) (misses_sending h refl)))), apart_word (λ i h. misses_either (misses_token tt (λ v a. cc (a.0, h))) (misses_either (misses_token tt (λ v a. cc (a.0, h))) (misses_either (misses_token tt (λ v a. cc (a.0, h))) (misses_sending h refl))))), apart_word (λ i h. misses_either (misses_token tt (λ v a. cc (a.0, h))) (misses_either (misses_token tt (λ v a. cc (a.0, h))) (misses_either (misses_token tt (λ v a. cc (a.0, h))) (misses_either (misses_token tt (λ v a. cc (a.0, h))) (misses_sending h refl)))))), apart_either write_apart (apart_word (λ i h. misses_either (misses_token tt (λ v a. cc (a.0, h))) (misses_either (misses_token tt (λ v a. cc (a.0, h))) (misses_either (misses_token tt (λ v a. cc (a.0, h))) (misses_either (misses_token tt (λ v a. cc (a.0, h))) (misses_sending h refl))))))), assign_apart)

  decided_stmts : Decided IsOpen ts stmts (rule stmts)
  unfolding rule
  decided_stmts = (
    ((inl tt, λ z. clear_inner after_stmt (λ y. clear_tree (λ t u. inr (inr u)))), λ s. ((inl tt, λ z. clear_tree (λ t u. inr u)), λ ss. tt)),
    tt,
    apart_tree (λ i j y d s. missed (misses_inner (misses_unbegun (λ v h g. s v h (inl g)))) d),
  )

  decided_more_stmts : (ss : Statements) → Decided IsOpen ts (more_stmts ss) (rule (more_stmts ss))
  unfolding rule
  decided_more_stmts ss = ((tt, λ y. ((inl tt, λ z. clear_inner after_stmt (λ w. clear_tree (λ t u. inr u))), λ s. ((inl tt, λ z. clear_tree (λ t u. u)), λ all. tt))), tt, apart_sign_tree (inl refl))

  decided_alt : Decided IsOpen ts alt (rule alt)
  unfolding rule
  decided_alt = (tt, λ y. ((inl tt, λ z. after_guard), λ g. ((tt, λ w. ((inl tt, λ z. clear_any (λ t u. u)), λ ns. (tt, λ y. ((inl tt, λ z. clear_tree (λ t u. u)), λ ss. tt)))), (tt, λ y. ((inl tt, λ z. clear_tree (λ t u. u)), λ ss. tt)), apart_word (λ i h. misses_token tt (λ v a. cc (a.0, h))))))

  decided_more_alts : (before : Alternatives) → Decided IsOpen ts (more_alts before) (rule (more_alts before))
  unfolding rule
  decided_more_alts before = (
    ((inl tt, λ z. clear_inner after_alt (λ y. clear_tree (λ t u. inr u))), λ b. ((inl tt, λ z. clear_tree (λ t u. u)), λ all. tt)),
    tt,
    apart_tree (λ i j y d s. let b = Derives-inner d in let e = Derives-token tt b.2 in s _ e.1.0 (inl refl)),
  )

  pub decided : (q : Phrase) → IsOpen q → Decided IsOpen ts q (rule q)
  decided program b = decided_program
  decided (more_classes cs) b = decided_more_classes cs
  decided class b = decided_class
  decided (more_vars vs) b = decided_more_vars vs
  decided names b = decided_names
  decided (more_names ns) b = decided_more_names ns
  decided r.kind b = decided_params IsOpen ts params_open r.kind tt
  decided (more_methods ms) b = decided_more_methods ms
  decided method b = decided_method
  decided post b = decided_post
  decided params b = decided_params IsOpen ts params_open params tt
  decided (more_params vs) b = decided_params IsOpen ts params_open (more_params vs) tt
  decided param b = decided_params IsOpen ts params_open param tt
  decided (more_locals vs) b = decided_more_locals vs
  decided stmts b = decided_stmts
  decided (more_stmts ss) b = decided_more_stmts ss
  decided stmt b = decided_stmt
  decided invoke b = absurd b
  decided alt b = decided_alt
  decided (more_alts before) b = decided_more_alts before
  decided list b = decided_list
  decided (expression l) b = decided_expressions IsOpen ts expressions_open (expression l) tt
  decided (more_operands g l) b = decided_expressions IsOpen ts expressions_open (more_operands g l) tt
  decided (more_sends to) b = decided_expressions IsOpen ts expressions_open (more_sends to) tt
  decided args b = decided_expressions IsOpen ts expressions_open args tt
  decided (more_args es) b = decided_expressions IsOpen ts expressions_open (more_args es) tt

  pub one_program : (p q : ProgramTree) → IsProgram ts p → IsProgram ts q → p ≡ q
  one_program p q d e = let u = unique IsOpen ts decided d (λ t h g. g) e (λ t h g. g) (decided program tt) in u.1
