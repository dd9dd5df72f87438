-- The text of expressions and statements of a program is that of their canonical tokens, each after a space.
use Rattle.std.proofs.Common.{◌≡◌, refl, sym, ap, ap₂, ◌∙◌, ℕ, List, [], ◌∷◌, ◌++◌, map, Bool, true, false, if◌then◌else◌, nat_le, Option, Some, None, codes, append-nil, append_assoc}
use Rattle.text_scan.specs.Text.{Text}
use Rattle.text_scan.specs.declared.keywords.Keyword.TheVariants as word_of
use Rattle.run_types.specs.declared.types.Op.{Op}
use Rattle.run_types.specs.declared.types.Op.TheVariants as op
use Rattle.pool_syntax.specs.declared.token.Sign.TheVariants as sign
use Rattle.pool_syntax.specs.declared.token.Tok.{Tok}
use Rattle.pool_syntax.specs.declared.token.Tok.TheVariants.{Word, Name, Sign}
use Rattle.pool_syntax.specs.declared.tree.Named.{Named}
use Rattle.pool_syntax.specs.declared.tree.Expr.{Expr, Int, Bool as Truth, Nil, Me, Var, New, Unary', Binary', Call', Send', Row_of-Expr, end_of-Expr, more_of-Expr}
use Rattle.pool_syntax.specs.declared.tree.Stmt as S
use Rattle.pool_syntax.specs.declared.tree.Stmt.{Stmt, Row_of-Stmt, Row_of-Alt, end_of-Stmt, more_of-Stmt, end_of-Alt, more_of-Alt}
use Rattle.pool_syntax.specs.Terms as T
use Rattle.pool_syntax.specs.Terms.{Expression, Statements}
use Rattle.pool_syntax.specs.TreeOf.{alternative_row, expression_of, expression_row, expressions_of, statement_of, statement_row, statements_of}
use Rattle.pool_printer.specs.Canonical.{alternatives_tokens, answer_tokens, argument_tokens, bare_tokens, else_tokens, expression_tokens, in_place, led_by, left_need, level, name_token, names_tokens, operator_token, right_need, separated_by, statement_parts, statement_tokens, statements_tokens}
use Rattle.pool_printer.specs.Spelling.{spelling}
use Rattle.record_writer.specs.RecordText.{led}
use Rattle.term_text.specs.Words.{alternatives_text, answer_text, arguments_text, bare_text, called, else_text, enclosed, more_arguments, more_names, more_statements, names_text, operator_text, some_names, statement_text, statements_text, word}
use Rattle.watch_laws.specs.Spelled.{spelled}

-- the sign of an operator is in no table
operator_spelled : (names : List Text) (o : Op) → operator_text o ≡ spelling names (operator_token o)
operator_spelled names op.Add = refl
operator_spelled names op.Sub = refl
operator_spelled names op.Mul = refl
operator_spelled names op.Div = refl
operator_spelled names op.Rem = refl
operator_spelled names op.Neg = refl
operator_spelled names op.Less = refl
operator_spelled names op.LessEq = refl
operator_spelled names op.More = refl
operator_spelled names op.MoreEq = refl
operator_spelled names op.Same = refl
operator_spelled names op.Differs = refl
operator_spelled names op.And = refl
operator_spelled names op.Or = refl
operator_spelled names op.Not = refl

-- a place that requires the level 1 requires no parentheses
any_operator : (o : Op) (l r : Expression) (p : ℕ) (ts : List Tok) → in_place 1 (level (T.Infix o l r p)) ts ≡ ts
any_operator op.Add l r p ts = refl
any_operator op.Sub l r p ts = refl
any_operator op.Mul l r p ts = refl
any_operator op.Div l r p ts = refl
any_operator op.Rem l r p ts = refl
any_operator op.Neg l r p ts = refl
any_operator op.Less l r p ts = refl
any_operator op.LessEq l r p ts = refl
any_operator op.More l r p ts = refl
any_operator op.MoreEq l r p ts = refl
any_operator op.Same l r p ts = refl
any_operator op.Differs l r p ts = refl
any_operator op.And l r p ts = refl
any_operator op.Or l r p ts = refl
any_operator op.Not l r p ts = refl

anywhere : (e : Expression) (ts : List Tok) → in_place 1 (level e) ts ≡ ts
anywhere (T.Literal v p) ts = refl
anywhere (T.Me p) ts = refl
anywhere (T.Variable x p) ts = refl
anywhere (T.Create c p) ts = refl
anywhere (T.Prefix o e p) ts = refl
anywhere (T.Infix o l r p) ts = any_operator o l r p ts
anywhere (T.Call m es p) ts = refl
anywhere (T.Send e m es p) ts = refl
anywhere (T.Frame m t ss e qs) ts = refl
anywhere (T.Wait b m) ts = refl

-- a word, and those after it
led_word : (w : Text) (ws : List Text) → led (w ∷ ws) ≡ word w ++ led ws
led_word w ws = ap (λ t. 32 ∷ (t ++ led ws)) (sym (append-nil w))

led_two : (v w t : Text) → led (v ∷ w ∷ []) ++ t ≡ word v ++ (word w ++ t)
led_two v w t = ap (λ x. x ++ t) (led_word v (w ∷ [])) ∙ append_assoc (word v) (word w) t

-- the text is that of the tokens
record Says (names : List Text) (t : Text) (ts : List Tok) : Type 0 where
  pub is : t ≡ spelled names ts

module _ (names : List Text) where
  -- tokens that are appended
  both : (xs ys : List Tok) → spelled names (xs ++ ys) ≡ spelled names xs ++ spelled names ys
  both [] ys = refl
  both (x ∷ xs) ys = ap (λ t. 32 ∷ t) (ap (λ t. spelling names x ++ t) (both xs ys) ∙ sym (append_assoc (spelling names x) (spelled names xs) (spelled names ys)))

  nothing : Says names [] []
  nothing = record { is = refl }

  next : (t : Tok) {ts : List Tok} {x : Text} → Says names x ts → Says names (word (spelling names t) ++ x) (t ∷ ts)
  next t {ts = ts} h = record { is = ap (λ y. word (spelling names t) ++ y) h.is ∙ sym (led_word (spelling names t) (map (spelling names) ts)) }

  last : (t : Tok) → Says names (word (spelling names t)) (t ∷ [])
  last t = record { is = refl }

  parts : {xs ys : List Tok} {a b : Text} → Says names a xs → Says names b ys → Says names (a ++ b) (xs ++ ys)
  parts {xs = xs} {ys = ys} h k = record { is = ap₂ (λ s t. s ++ t) h.is k.is ∙ sym (both xs ys) }

  -- an expression in its place
  placed : (need l : ℕ) {ts : List Tok} {t : Text} → Says names t ts → Says names (enclosed need l t) (in_place need l ts)
  placed need l {ts = ts} {t = t} h = by (nat_le need l)
    where
      by : (b : Bool) → Says names (if b then t else word (codes "(") ++ (t ++ word (codes ")"))) (if b then ts else Sign sign.LeftParen ∷ (ts ++ Sign sign.RightParen ∷ []))
      by true = h
      by false = next (Sign sign.LeftParen) (parts h (last (Sign sign.RightParen)))

  free : (e : Expression) → Says names (bare_text names e) (bare_tokens e) → Says names (bare_text names e) (expression_tokens 1 e)
  free e h = record { is = h.is ∙ ap (spelled names) (sym (anywhere e (bare_tokens e))) }

  operator : (o : Op) {ts : List Tok} {x : Text} → Says names x ts → Says names (word (operator_text o) ++ x) (operator_token o ∷ ts)
  operator o {ts = ts} {x = x} h = record { is = ap (λ w. word w ++ x) (operator_spelled names o) ∙ (next (operator_token o) h).is }

  two : (s t : Tok) {ts : List Tok} {x : Text} → Says names x ts → Says names (led (spelling names s ∷ spelling names t ∷ []) ++ x) (s ∷ t ∷ ts)
  two s t {ts = ts} {x = x} h = record { is = led_two (spelling names s) (spelling names t) x ∙ (next s (next t h)).is }

  -- a call
  call_is : (m : ℕ) {ts : List Tok} {t : Text} → Says names t ts → Says names (called names m t) (name_token m ∷ Sign sign.LeftParen ∷ (ts ++ Sign sign.RightParen ∷ []))
  call_is m h = two (name_token m) (Sign sign.LeftParen) (parts h (last (Sign sign.RightParen)))

  mutual
    bare_is : (e : Expr) → Says names (bare_text names (expression_of e)) (bare_tokens (expression_of e))
    bare_is (Int v p) = record { is = refl }
    bare_is (Truth true p) = record { is = refl }
    bare_is (Truth false p) = record { is = refl }
    bare_is (Nil p) = record { is = refl }
    bare_is (Me p) = record { is = refl }
    bare_is (Var n p) = record { is = refl }
    bare_is (New c p) = record { is = refl }
    bare_is (Unary' o q e p) = operator o (placed 6 (level (expression_of e)) (bare_is e))
    bare_is (Binary' o q l r s p) =
        parts (placed (left_need o) (level (expression_of l)) (bare_is l)) (operator o (placed (right_need o) (level (expression_of s)) (bare_is s)))
    bare_is (Call' m shape es p) = call_is m.0 (row_is es)
    bare_is (Send' q e m shape es p) = parts (placed 7 (level (expression_of e)) (bare_is e)) (next (Sign sign.Bang) (call_is m.0 (row_is es)))

    row_is : {n : _} (r : Row_of-Expr n) → Says names (arguments_text names (expression_row r)) (separated_by (Sign sign.Comma) (argument_tokens (expression_row r)))
    row_is end_of-Expr = nothing
    row_is (more_of-Expr e es) = parts (free (expression_of e) (bare_is e)) (more_row_is es)

    more_row_is : {n : _} (r : Row_of-Expr n) → Says names (more_arguments names (expression_row r)) (led_by (Sign sign.Comma) (argument_tokens (expression_row r)))
    more_row_is end_of-Expr = nothing
    more_row_is (more_of-Expr e es) = next (Sign sign.Comma) (parts (free (expression_of e) (bare_is e)) (more_row_is es))

  free_is : (e : Expr) → Says names (bare_text names (expression_of e)) (expression_tokens 1 (expression_of e))
  free_is e = free (expression_of e) (bare_is e)

  more_list_is : (es : List Expr) → Says names (more_arguments names (expressions_of es)) (led_by (Sign sign.Comma) (argument_tokens (expressions_of es)))
  more_list_is [] = nothing
  more_list_is (e ∷ es) = next (Sign sign.Comma) (parts (free_is e) (more_list_is es))

  list_is : (es : List Expr) → Says names (arguments_text names (expressions_of es)) (separated_by (Sign sign.Comma) (argument_tokens (expressions_of es)))
  list_is [] = nothing
  list_is (e ∷ es) = parts (free_is e) (more_list_is es)

  -- names
  more_names_is : (ns : List Named) → Says names (more_names names ns) (led_by (Sign sign.Comma) (map (λ n. Name n.name ∷ []) ns))
  more_names_is [] = nothing
  more_names_is (n ∷ ns) = two (Sign sign.Comma) (Name n.name) (more_names_is ns)

  some_names_is : (ns : List Named) → Says names (some_names names ns) (separated_by (Sign sign.Comma) (map (λ n. Name n.name ∷ []) ns))
  some_names_is [] = nothing
  some_names_is (n ∷ ns) = next (Name n.name) (more_names_is ns)

  names_is : (ns : List Named) → Says names (names_text names ns) (names_tokens ns)
  names_is ns = next (Sign sign.LeftParen) (parts (some_names_is ns) (last (Sign sign.RightParen)))

  answer_is : (a : Option (List Named)) → Says names (answer_text names a) (answer_tokens a)
  answer_is None = nothing
  answer_is (Some ns) = next (Word word_of.Answer) (names_is ns)

  else_is : (ss : Statements) {t : Text} {ts : List Tok} → Says names t ts → Says names (else_text ss t) (else_tokens ss ts)
  else_is T.Done h = nothing
  else_is (T.Then s ss) h = next (Word word_of.Else) h

  mutual
    statement_is : (s : Stmt) → Says names (statement_text names (statement_of s)) (statement_tokens (statement_of s))
    statement_is (S.Assign n e) = two (name_token n.name.0) (Sign sign.Becomes) (free_is e)
    statement_is (S.Write e) = next (Word word_of.Write) (free_is e)
    statement_is (S.WriteText s) = record { is = refl }
    statement_is (S.Do e) = free_is e
    statement_is (S.Async e m es) = parts (placed 7 (level (expression_of e)) (bare_is e)) (next (Sign sign.BangBang) (call_is m.name.0 (list_is es)))
    statement_is (S.If' e a these b those) =
        next (Word word_of.If) (parts (free_is e) (next (Word word_of.Then) (parts (statement_row_is these) (parts (else_is (statement_row those) (statement_row_is those)) (last (Word word_of.Fi))))))
    statement_is (S.While' e shape ss) = next (Word word_of.While) (parts (free_is e) (next (Word word_of.Do) (parts (statement_row_is ss) (last (Word word_of.Od)))))
    statement_is (S.Answer ns) = next (Word word_of.Answer) (names_is ns)
    statement_is (S.Select' shape alts) = next (Word word_of.Select) (parts (alternatives_is alts) (last (Word word_of.End)))

    statement_row_is : {n : _} (r : Row_of-Stmt n) → Says names (statements_text names (statement_row r)) (statements_tokens (statement_row r))
    statement_row_is end_of-Stmt = nothing
    statement_row_is (more_of-Stmt s ss) = parts (statement_is s) (more_row_statements ss)

    more_row_statements : {n : _} (r : Row_of-Stmt n) → Says names (more_statements names (statement_row r)) (led_by (Sign sign.Semicolon) (statement_parts (statement_row r)))
    more_row_statements end_of-Stmt = nothing
    more_row_statements (more_of-Stmt s ss) = next (Sign sign.Semicolon) (parts (statement_is s) (more_row_statements ss))

    alternatives_is : {n : _} (r : Row_of-Alt n) → Says names (alternatives_text names (alternative_row r)) (alternatives_tokens (alternative_row r))
    alternatives_is end_of-Alt = nothing
    alternatives_is (more_of-Alt e ns shape ss alts) =
        next (Word word_of.When) (parts (free_is e) (parts (answer_is ns) (next (Word word_of.Then) (parts (statement_row_is ss) (alternatives_is alts)))))

  more_list_statements : (ss : List Stmt) → Says names (more_statements names (statements_of ss)) (led_by (Sign sign.Semicolon) (statement_parts (statements_of ss)))
  more_list_statements [] = nothing
  more_list_statements (s ∷ ss) = next (Sign sign.Semicolon) (parts (statement_is s) (more_list_statements ss))

  statement_list_is : (ss : List Stmt) → Says names (statements_text names (statements_of ss)) (statements_tokens (statements_of ss))
  statement_list_is [] = nothing
  statement_list_is (s ∷ ss) = parts (statement_is s) (more_list_statements ss)

  pub expression_is_canonical : (e : Expr) → bare_text names (expression_of e) ≡ spelled names (bare_tokens (expression_of e))
  expression_is_canonical e = (bare_is e).is

  pub statements_are_canonical : (ss : List Stmt) → statements_text names (statements_of ss) ≡ spelled names (statements_tokens (statements_of ss))
  statements_are_canonical ss = (statement_list_is ss).is
