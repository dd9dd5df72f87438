-- The names, strings and integers of the tokens of a writable program can be written over the table.
use Rattle.std.proofs.Common.{◌≡◌, refl, ◌∙◌, ℕ, Bool, true, false, ◌&&◌, map, List, [], ◌∷◌, ◌++◌, Option, Some, None, nat_le, if◌then◌else◌, arith}
use Rattle.std.proofs.lemmas.Bool.{and_from}
use Rattle.text_scan.specs.Text.{Text}
use Rattle.run_types.specs.declared.types.Op.{Op}
use Rattle.run_types.specs.declared.types.Op.TheVariants as op
use Rattle.run_types.specs.declared.types.Value.TheVariants as value
use Rattle.text_scan.specs.declared.keywords.Keyword.{Keyword}
use Rattle.text_scan.specs.declared.keywords.Keyword.TheVariants as word
use Rattle.pool_syntax.specs.declared.token.Sign.TheVariants as sign
use Rattle.pool_syntax.specs.declared.token.Tok.{Tok}
use Rattle.pool_syntax.specs.declared.token.Tok.TheVariants.{Word, Name, Int, Str, Sign, End}
use Rattle.run_types.specs.declared.types.Kind.{Kind}
use Rattle.run_types.specs.declared.types.Kind.TheVariants as kind
use Rattle.pool_syntax.specs.declared.tree.Named.{Named}
use Rattle.pool_syntax.specs.declared.tree.Var.{Var}
use Rattle.pool_syntax.specs.Terms.{Expression, Literal, Me, Variable, Create, Prefix, Infix, Call, Send, Frame, Wait, Expressions, NoArgs, Arg, Statement, Assign, Write, WriteText, Do, Async, If, While, Answer, Select, Serve, Statements, Done, Then, Alternatives, NoAlts, Alt, MethodTree, ProgramTree}
use Rattle.text_scan.specs.Keywords.{is_name, is_string_number}
use Rattle.pool_syntax.specs.Spelled.{is_literal, is_kind, are_names, are_answer_names, are_variables, is_spelled_expression, are_spelled_expressions, is_spelled_statement, are_spelled_statements, are_spelled_alternatives, is_outcome, are_spelled_methods, is_spelled}
use Rattle.pool_printer.specs.Canonical.{led_by, separated_by, operator_token, in_place, level, left_need, right_need, bare_tokens, argument_tokens, expression_tokens, call_tokens, names_tokens, answer_tokens, else_tokens, statement_tokens, statement_parts, statements_tokens, alternatives_tokens, kind_token, variable_tokens, declarations_tokens, outcome_tokens, result_tokens, method_tokens, methods_tokens, class_tokens, program_tokens, post_tokens}
use Rattle.run_types.proofs.Laws.{second as right_true, first as left_true}

-- a token whose name, string or integer is spelled over the table; the end of a text is none
abbrev pub is_spelled_token : List Text → Tok → Bool
is_spelled_token names (Word k) = true
is_spelled_token names (Name n) = is_name names n.0
is_spelled_token names (Int z) = is_literal (value.Int z)
is_spelled_token names (Str n) = is_string_number names n.0
is_spelled_token names (Sign s) = true
is_spelled_token names End = false

abbrev pub are_spelled_tokens : List Text → List Tok → Bool
are_spelled_tokens names [] = true
are_spelled_tokens names (t ∷ ts) = is_spelled_token names t && are_spelled_tokens names ts

-- all parts of a list of parts are spelled
abbrev parts_spelled : List Text → List (List Tok) → Bool
parts_spelled names [] = true
parts_spelled names (x ∷ xs) = are_spelled_tokens names x && parts_spelled names xs

spelled_append : (names : List Text) (xs ys : List Tok) → are_spelled_tokens names (xs ++ ys) ≡ (are_spelled_tokens names xs && are_spelled_tokens names ys)
spelled_append names [] ys = refl
spelled_append names (x ∷ xs) ys = grind (arith, spelled_append names xs ys)

append_spelled : (names : List Text) (xs ys : List Tok) → are_spelled_tokens names xs ≡ true → are_spelled_tokens names ys ≡ true → are_spelled_tokens names (xs ++ ys) ≡ true
append_spelled names xs ys h k = spelled_append names xs ys ∙ and_from _ _ h k

-- a separator is a sign
led_spelled : (names : List Text) (s : _) (xs : List (List Tok)) → parts_spelled names xs ≡ true → are_spelled_tokens names (led_by (Sign s) xs) ≡ true
led_spelled names s [] h = refl
led_spelled names s (x ∷ xs) h = append_spelled names x (led_by (Sign s) xs) (left_true _ _ h) (led_spelled names s xs (right_true _ _ h))

separated_spelled : (names : List Text) (s : _) (xs : List (List Tok)) → parts_spelled names xs ≡ true → are_spelled_tokens names (separated_by (Sign s) xs) ≡ true
separated_spelled names s [] h = refl
separated_spelled names s (x ∷ xs) h = append_spelled names x (led_by (Sign s) xs) (left_true _ _ h) (led_spelled names s xs (right_true _ _ h))

bracket_spelled : (names : List Text) (k : Bool) (ts : List Tok) → are_spelled_tokens names ts ≡ true → are_spelled_tokens names (if k then ts else Sign sign.LeftParen ∷ (ts ++ Sign sign.RightParen ∷ [])) ≡ true
bracket_spelled names true ts h = h
bracket_spelled names false ts h = append_spelled names ts (Sign sign.RightParen ∷ []) h refl

place_spelled : (names : List Text) (need level : ℕ) (ts : List Tok) → are_spelled_tokens names ts ≡ true → are_spelled_tokens names (in_place need level ts) ≡ true
place_spelled names need level ts h = bracket_spelled names (nat_le need level) ts h

operator_spelled : (names : List Text) (o : Op) → is_spelled_token names (operator_token o) ≡ true
operator_spelled names op.Add = refl
operator_spelled names op.Sub = refl
operator_spelled names op.Mul = refl
operator_spelled names op.Div = refl
operator_spelled names op.Rem = refl
operator_spelled names op.Neg = refl
operator_spelled names op.Less = refl
operator_spelled names op.LessEq = refl
operator_spelled names op.More = refl
operator_spelled names op.MoreEq = refl
operator_spelled names op.Same = refl
operator_spelled names op.Differs = refl
operator_spelled names op.And = refl
operator_spelled names op.Or = refl
operator_spelled names op.Not = refl

mutual
  bare_spelled : (names : List Text) (e : Expression) → is_spelled_expression names e ≡ true → are_spelled_tokens names (bare_tokens e) ≡ true
  bare_spelled names (Literal (value.Int z) p) h = and_from _ _ h refl
  bare_spelled names (Literal (value.Bool true) p) h = refl
  bare_spelled names (Literal (value.Bool false) p) h = refl
  bare_spelled names (Literal (value.Ref n) p) h = refl
  bare_spelled names (Literal value.Nil p) h = refl
  bare_spelled names (Me p) h = refl
  bare_spelled names (Variable x p) h = and_from _ _ h refl
  bare_spelled names (Create c p) h = and_from _ _ h refl
  bare_spelled names (Prefix o e p) h = and_from _ _ (operator_spelled names o) (place_spelled names 6 (level e) (bare_tokens e) (bare_spelled names e h))
  bare_spelled names (Infix o l r p) h =
      append_spelled names (expression_tokens (left_need o) l) (operator_token o ∷ expression_tokens (right_need o) r)
      (place_spelled names (left_need o) (level l) (bare_tokens l) (bare_spelled names l (left_true _ _ h)))
      (and_from _ _ (operator_spelled names o) (place_spelled names (right_need o) (level r) (bare_tokens r) (bare_spelled names r (right_true (is_spelled_expression names l) _ h))))
  bare_spelled names (Call m es p) h =
      and_from _ _ (left_true _ _ h)
      (append_spelled names (separated_by (Sign sign.Comma) (argument_tokens es)) (Sign sign.RightParen ∷ [])
      (separated_spelled names sign.Comma (argument_tokens es) (arguments_spelled names es (right_true (is_name names m) _ h))) refl)
  bare_spelled names (Send e m es p) h =
      append_spelled names (expression_tokens 7 e) (Sign sign.Bang ∷ call_tokens m es)
      (place_spelled names 7 (level e) (bare_tokens e) (bare_spelled names e (left_true _ _ (left_true _ _ h))))
      (and_from _ _ (right_true (is_spelled_expression names e) _ (left_true _ _ h))
      (append_spelled names (separated_by (Sign sign.Comma) (argument_tokens es)) (Sign sign.RightParen ∷ [])
      (separated_spelled names sign.Comma (argument_tokens es) (arguments_spelled names es (right_true (is_spelled_expression names e && is_name names m) _ h))) refl))
  bare_spelled names (Frame m t ss e qs) h = refl
  bare_spelled names (Wait b m) h = refl

  arguments_spelled : (names : List Text) (es : Expressions) → are_spelled_expressions names es ≡ true → parts_spelled names (argument_tokens es) ≡ true
  arguments_spelled names NoArgs h = refl
  arguments_spelled names (Arg e es) h =
      and_from _ _ (place_spelled names 1 (level e) (bare_tokens e) (bare_spelled names e (left_true _ _ h))) (arguments_spelled names es (right_true (is_spelled_expression names e) _ h))

expression_spelled : (names : List Text) (need : ℕ) (e : Expression) → is_spelled_expression names e ≡ true → are_spelled_tokens names (expression_tokens need e) ≡ true
expression_spelled names need e h = place_spelled names need (level e) (bare_tokens e) (bare_spelled names e h)

name_parts_spelled : (names : List Text) (ns : List Named) → are_names names ns ≡ true → parts_spelled names (map (λ n. Name n.name ∷ []) ns) ≡ true
name_parts_spelled names [] h = refl
name_parts_spelled names (n ∷ ns) h = and_from _ _ (and_from _ _ (left_true _ _ h) refl) (name_parts_spelled names ns (right_true (is_name names n.name.0) _ h))

names_spelled : (names : List Text) (ns : List Named) → are_names names ns ≡ true → are_spelled_tokens names (names_tokens ns) ≡ true
names_spelled names ns h =
    append_spelled names (separated_by (Sign sign.Comma) (map (λ n. Name n.name ∷ []) ns)) (Sign sign.RightParen ∷ []) (separated_spelled names sign.Comma (map (λ n. Name n.name ∷ []) ns) (name_parts_spelled names ns h)) refl

answer_spelled : (names : List Text) (ns : Option (List Named)) → are_answer_names names ns ≡ true → are_spelled_tokens names (answer_tokens ns) ≡ true
answer_spelled names None h = refl
answer_spelled names (Some ns) h = names_spelled names ns h

else_spelled : (names : List Text) (ss : Statements) (ts : List Tok) → are_spelled_tokens names ts ≡ true → are_spelled_tokens names (else_tokens ss ts) ≡ true
else_spelled names Done ts h = refl
else_spelled names (Then s ss) ts h = h

mutual
  statement_spelled : (names : List Text) (s : Statement) → is_spelled_statement names s ≡ true → are_spelled_tokens names (statement_tokens s) ≡ true
  statement_spelled names (Assign x p e) h = and_from _ _ (left_true _ _ h) (expression_spelled names 1 e (right_true (is_name names x) _ h))
  statement_spelled names (Write e) h = expression_spelled names 1 e h
  statement_spelled names (WriteText s) h = and_from _ _ h refl
  statement_spelled names (Do e) h = expression_spelled names 1 e h
  statement_spelled names (Async e m p es) h =
      append_spelled names (expression_tokens 7 e) (Sign sign.BangBang ∷ call_tokens m es) (expression_spelled names 7 e (left_true _ _ (left_true _ _ h)))
      (and_from _ _ (right_true (is_spelled_expression names e) _ (left_true _ _ h))
      (append_spelled names (separated_by (Sign sign.Comma) (argument_tokens es)) (Sign sign.RightParen ∷ [])
      (separated_spelled names sign.Comma (argument_tokens es) (arguments_spelled names es (right_true (is_spelled_expression names e && is_name names m) _ h))) refl))
  statement_spelled names (If e these those) h =
      let first = statement_parts_spelled names these (right_true (is_spelled_expression names e) _ (left_true _ _ h)) in
      let second = statement_parts_spelled names those (right_true (is_spelled_expression names e && are_spelled_statements names these) _ h) in
      append_spelled names (expression_tokens 1 e) _ (expression_spelled names 1 e (left_true _ _ (left_true _ _ h)))
      (append_spelled names (statements_tokens these) _ (separated_spelled names sign.Semicolon (statement_parts these) first)
      (append_spelled names (else_tokens those (statements_tokens those)) (Word word.Fi ∷ [])
      (else_spelled names those (statements_tokens those) (separated_spelled names sign.Semicolon (statement_parts those) second)) refl))
  statement_spelled names (While e ss) h =
      append_spelled names (expression_tokens 1 e) _ (expression_spelled names 1 e (left_true _ _ h))
      (append_spelled names (statements_tokens ss) (Word word.Od ∷ [])
      (separated_spelled names sign.Semicolon (statement_parts ss) (statement_parts_spelled names ss (right_true (is_spelled_expression names e) _ h))) refl)
  statement_spelled names (Answer ns) h = names_spelled names ns h
  statement_spelled names (Select alts) h = append_spelled names (alternatives_tokens alts) (Word word.End ∷ []) (alternatives_spelled names alts h) refl
  statement_spelled names (Serve m k t ss e qs) h = refl

  statement_parts_spelled : (names : List Text) (ss : Statements) → are_spelled_statements names ss ≡ true → parts_spelled names (statement_parts ss) ≡ true
  statement_parts_spelled names Done h = refl
  statement_parts_spelled names (Then s ss) h = and_from _ _ (statement_spelled names s (left_true _ _ h)) (statement_parts_spelled names ss (right_true (is_spelled_statement names s) _ h))

  alternatives_spelled : (names : List Text) (alts : Alternatives) → are_spelled_alternatives names alts ≡ true → are_spelled_tokens names (alternatives_tokens alts) ≡ true
  alternatives_spelled names NoAlts h = refl
  alternatives_spelled names (Alt e ns ss alts) h =
      let front = left_true (is_spelled_expression names e && are_answer_names names ns && are_spelled_statements names ss) (are_spelled_alternatives names alts) h in
      let two = left_true (is_spelled_expression names e && are_answer_names names ns) (are_spelled_statements names ss) front in
      append_spelled names (expression_tokens 1 e) _ (expression_spelled names 1 e (left_true (is_spelled_expression names e) (are_answer_names names ns) two))
      (append_spelled names (answer_tokens ns) _ (answer_spelled names ns (right_true (is_spelled_expression names e) (are_answer_names names ns) two))
      (append_spelled names (statements_tokens ss) (alternatives_tokens alts)
      (separated_spelled names sign.Semicolon (statement_parts ss)
      (statement_parts_spelled names ss (right_true (is_spelled_expression names e && are_answer_names names ns) (are_spelled_statements names ss) front)))
      (alternatives_spelled names alts (right_true (is_spelled_expression names e && are_answer_names names ns && are_spelled_statements names ss) (are_spelled_alternatives names alts) h))))

statements_spelled : (names : List Text) (ss : Statements) → are_spelled_statements names ss ≡ true → are_spelled_tokens names (statements_tokens ss) ≡ true
statements_spelled names ss h = separated_spelled names sign.Semicolon (statement_parts ss) (statement_parts_spelled names ss h)

kind_spelled : (names : List Text) (k : Kind) → is_kind names k ≡ true → is_spelled_token names (kind_token k) ≡ true
kind_spelled names kind.Int h = refl
kind_spelled names kind.Bool h = refl
kind_spelled names (kind.Class c) h = h

variable_spelled : (names : List Text) (v : Var) → (is_name names v.name.0 && is_kind names v.kind) ≡ true → are_spelled_tokens names (variable_tokens v) ≡ true
variable_spelled names v h =
    and_from _ _ (left_true _ _ h) (and_from _ _ (kind_spelled names v.kind (right_true (is_name names v.name.0) _ h)) refl)

params_spelled : (names : List Text) (vs : List Var) → are_variables names vs ≡ true → parts_spelled names (map variable_tokens vs) ≡ true
params_spelled names [] h = refl
params_spelled names (v ∷ vs) h = and_from _ _ (variable_spelled names v (left_true _ _ h)) (params_spelled names vs (right_true (is_name names v.name.0 && is_kind names v.kind) _ h))

declarations_spelled : (names : List Text) (k : Keyword) (vs : List Var) → are_variables names vs ≡ true → are_spelled_tokens names (declarations_tokens k vs) ≡ true
declarations_spelled names k [] h = refl
declarations_spelled names k (v ∷ vs) h =
    append_spelled names (variable_tokens v) (declarations_tokens k vs) (variable_spelled names v (left_true _ _ h))
    (declarations_spelled names k vs (right_true (is_name names v.name.0 && is_kind names v.kind) _ h))

outcome_spelled : (names : List Text) (o : Option Kind) → is_outcome names o ≡ true → are_spelled_tokens names (outcome_tokens o) ≡ true
outcome_spelled names None h = refl
outcome_spelled names (Some k) h = and_from _ _ (kind_spelled names k h) refl

result_spelled : (names : List Text) (o : Option Kind) (e : Expression) → is_spelled_expression names e ≡ true → are_spelled_tokens names (result_tokens o e) ≡ true
result_spelled names None e h = refl
result_spelled names (Some k) e h = expression_spelled names 1 e h

post_spelled : (names : List Text) (ss : Statements) → are_spelled_statements names ss ≡ true → are_spelled_tokens names (post_tokens ss) ≡ true
post_spelled names Done h = refl
post_spelled names (Then s ss) h = statements_spelled names (Then s ss) h

methods_spelled : (names : List Text) (ms : List MethodTree) → are_spelled_methods names ms ≡ true → are_spelled_tokens names (methods_tokens ms) ≡ true
methods_spelled names [] h = refl
methods_spelled names (m ∷ ms) h =
    let a = is_name names m.name.name.0 in
    let b = are_variables names m.params in
    let c = are_variables names m.locals in
    let d = is_outcome names m.outcome in
    let e = are_spelled_statements names m.body in
    let f = is_spelled_expression names m.value in
    let g = are_spelled_statements names m.post in
    let h7 = left_true (a && b && c && d && e && f && g) (are_spelled_methods names ms) h in
    let h6 = left_true (a && b && c && d && e && f) g h7 in
    let h5 = left_true (a && b && c && d && e) f h6 in
    let h4 = left_true (a && b && c && d) e h5 in
    let h3 = left_true (a && b && c) d h4 in
    let h2 = left_true (a && b) c h3 in
    append_spelled names (method_tokens m) (methods_tokens ms)
    (and_from _ _ (left_true a b h2)
    (append_spelled names (separated_by (Sign sign.Comma) (map variable_tokens m.params)) _ (separated_spelled names sign.Comma (map variable_tokens m.params) (params_spelled names m.params (right_true a b h2)))
    (append_spelled names (outcome_tokens m.outcome) _ (outcome_spelled names m.outcome (right_true (a && b && c) d h4))
    (append_spelled names (declarations_tokens word.Local m.locals) _ (declarations_spelled names word.Local m.locals (right_true (a && b) c h3))
    (append_spelled names (statements_tokens m.body) _ (statements_spelled names m.body (right_true (a && b && c && d) e h5))
    (append_spelled names (result_tokens m.outcome m.value) _ (result_spelled names m.outcome m.value (right_true (a && b && c && d && e) f h6))
    (append_spelled names (post_tokens m.post) (Word word.End ∷ []) (post_spelled names m.post (right_true (a && b && c && d && e && f) g h7)) refl)))))))
    (methods_spelled names ms (right_true (a && b && c && d && e && f && g) (are_spelled_methods names ms) h))

-- the tokens of a spelled program have their texts in the table
pub spelled_tokens : (names : List Text) (p : ProgramTree) → is_spelled names p ≡ true → are_spelled_tokens names (program_tokens p) ≡ true
spelled_tokens names [] h = refl
spelled_tokens names (k ∷ ks) h =
    let a = is_name names k.name.name.0 in
    let b = are_variables names k.vars in
    let c = are_spelled_methods names k.methods in
    let d = are_spelled_statements names k.body in
    let h4 = left_true (a && b && c && d) (is_spelled names ks) h in
    let h3 = left_true (a && b && c) d h4 in
    let h2 = left_true (a && b) c h3 in
    append_spelled names (class_tokens k) (program_tokens ks)
    (and_from _ _ (left_true a b h2)
    (append_spelled names (declarations_tokens word.Var k.vars) _ (declarations_spelled names word.Var k.vars (right_true a b h2))
    (append_spelled names (methods_tokens k.methods) _ (methods_spelled names k.methods (right_true (a && b) c h3))
    (append_spelled names (statements_tokens k.body) (Word word.End ∷ []) (statements_spelled names k.body (right_true (a && b && c) d h4)) refl))))
    (spelled_tokens names ks (right_true (a && b && c && d) (is_spelled names ks) h))
