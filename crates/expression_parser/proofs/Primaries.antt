-- The parsing of primaries, sends to them, factors and comparisons.
use Rattle.std.proofs.Common.{◌≡◌, ◌≢◌, ℕ, ℤ, ◌+◌, ◌≤◌, ⊎_elim, Bool, true, false, List, Some, None, slice_get, refl, subst, arith, eq-or-lt_of_le}
use Rattle.run_types.specs.declared.types.NameId.{NameId}
use Rattle.pool_syntax.specs.declared.tree.Named.{Named}
use Rattle.text_scan.specs.declared.keywords.Keyword.{Keyword}
use Rattle.pool_syntax.specs.declared.token.Tok.{Tok}
use Rattle.pool_syntax.specs.declared.token.Tok.TheVariants as tok
use Rattle.text_scan.specs.declared.keywords.Keyword.TheVariants as kw
use Rattle.pool_syntax.specs.declared.token.Sign.TheVariants as sg
use Rattle.run_types.specs.declared.types.Op.{Op}
use Rattle.run_types.specs.declared.types.Value.TheVariants as value
use Rattle.pool_syntax.specs.Terms.{Expression, Expressions, Literal, Me, Variable, Create, Prefix, Infix, Call, Send}
use Rattle.pool_grammar.specs.Rules.{addition, group, comparison, factor, postfix, primary, Phrase, Tree, expression, args, more_sends, invoke, sign, name, operator, phrase, Rule, tree, then, either}
use Rattle.pool_grammar.specs.Grammar.{rule, operator_of, expr}
use Rattle.pool_grammar.specs.Derives.{IsToken, Derives, nothing, token, inner, first, second}
use Rattle.expression_parser.specs.Reads.{Outcome, read, refused, Reads, ReadsPhrase, Stops, strength}
use Rattle.expression_parser.proofs.ClearRules.{Clear, Misses}
use Rattle.expression_parser.specs.Literals.{literal_of}
use Rattle.expression_parser.proofs.RuleComposition.{at_least, front_of, Derives-tree, Derives-token, Derives-inner, Derives-either, reads_tree, reads_token, reads_first, reads_second, reads_inner, reads_refused, reads_last, reads_nothing, reads_factored, reads_regrouped, put, put-id, clear_tree, clear_inner, clear_either, clear_token, clear_sign, misses_token, misses_either, misses_inner, off, off_tree}
use Rattle.expression_parser.proofs.SingleTokens.{clash, clear_any, sign_read, name_missing, no_operator, off_sign}
use Rattle.expression_parser.proofs.Levels.{operator_strength}

-- the tokens that begin a primary
abbrev pub begins_primary : Tok → Bool
begins_primary (tok.Int z) = true
begins_primary (tok.Name n) = true
begins_primary (tok.Word kw.True) = true
begins_primary (tok.Word kw.False) = true
begins_primary (tok.Word kw.Nil) = true
begins_primary (tok.Word kw.SelfWord) = true
begins_primary (tok.Word kw.New) = true
begins_primary (tok.Sign sg.LeftParen) = true
begins_primary _ = false

-- a word that is no literal and not `new`
pub word_begins_none : (w : Keyword) (i : ℕ) → literal_of (tok.Word w) i ≡ None → w ≢ kw.New → begins_primary (tok.Word w) ≡ false
word_begins_none kw.True i h n = cc
word_begins_none kw.False i h n = cc
word_begins_none kw.Nil i h n = cc
word_begins_none kw.SelfWord i h n = cc
word_begins_none kw.New i h n = absurd (n refl)
word_begins_none _ i h n = refl

-- a token that is no literal, no word, no name and no parenthesis
pub other_begins_none : (t : Tok) (i : ℕ) → literal_of t i ≡ None → ((w : Keyword) → t ≢ tok.Word w) → ((n : NameId) → t ≢ tok.Name n) → t ≢ tok.Sign sg.LeftParen → begins_primary t ≡ false
other_begins_none (tok.Int z) i h a b c = cc
other_begins_none (tok.Word w) i h a b c = absurd (a w refl)
other_begins_none (tok.Name n) i h a b c = absurd (b n refl)
other_begins_none (tok.Sign sg.LeftParen) i h a b c = absurd (c refl)
other_begins_none _ i h a b c = refl

pub prefix_begins_none : (t : Tok) (op : Op) → operator_of factor t ≡ Some op → begins_primary t ≡ false
prefix_begins_none (tok.Word kw.Not) op h = refl
prefix_begins_none (tok.Sign sg.Minus) op h = refl
prefix_begins_none _ op h = cc

module _ {ts : List Tok} where
  -- comparisons

  pub after_sum : (l : Expression) → Clear ts (expression comparison) (either (then (operator comparison) (λ o. then (phrase (expression (group addition))) (λ r. tree (Infix o.0 l r o.1)))) (tree l)) (expression (group addition))
  after_sum l = clear_either
      (clear_token tt (λ k y a t h u. let e : a.0 ≡ t = cc (a.1, h) in let s : strength t ≡ 3 = operator_strength comparison t y.0 (rw e at a.2) (omega arith) in omega arith))
      (clear_tree (λ t u. omega arith))

  pub comparison_one : {l : Expression} {i m : ℕ} {t : Tok} → ReadsPhrase ts (expression (group addition)) i (read l m) → slice_get ts m ≡ Some t → operator_of comparison t ≡ None →
      ReadsPhrase ts (expression comparison) i (read l m)
  unfolding rule
  comparison_one R h k = reads_inner R after_sum (reads_second reads_tree (off (no_operator h k)))

  pub comparison_two : {l : Expression} {i m : ℕ} {t : Tok} {op : Op} (o : Outcome Expression) → ReadsPhrase ts (expression (group addition)) i (read l m) → slice_get ts m ≡ Some t → operator_of comparison t ≡ Some op →
      ReadsPhrase ts (expression (group addition)) (m + 1) o → ReadsPhrase ts (expression comparison) i (put (λ r. Infix op l r m) o)
  unfolding rule
  comparison_two {m = m} {t = t} {op = op} o R h k S = reads_inner R after_sum (reads_first
      (reads_token tt (op, m) (t, h, k, refl) (reads_last _ o (λ t u. omega arith) S))
      (off_tree t h (let s : strength t ≡ 3 = operator_strength comparison t op k (omega arith) in omega arith)))

  pub comparison_refused : {i u : ℕ} → ReadsPhrase ts (expression (group addition)) i (refused u) → ReadsPhrase ts (expression comparison) i (refused u)
  unfolding rule
  comparison_refused R = reads_refused R after_sum

  -- where no primary begins

  pub misses_primary : {i : ℕ} {t : Tok} → slice_get ts i ≡ Some t → begins_primary t ≡ false → Misses ts (expression primary) (rule (expression primary)) i
  unfolding rule
  misses_primary h k = misses_either (misses_token tt (λ y a. clash begins_primary h a.0 k refl)) (misses_either (misses_token tt (λ y a. clash begins_primary h a.0 k refl)) (misses_either (misses_token tt (λ y a. clash begins_primary h a.0 k refl)) (misses_either (misses_token tt (λ y a. clash begins_primary h a.0 k refl)) (misses_either (misses_token tt (λ y a. clash begins_primary h a.0 k refl)) (misses_either (misses_token tt (λ y a. clash begins_primary h a.0 k refl)) (misses_either (misses_token tt (λ y a. clash begins_primary h a.0 k refl)) (misses_either (misses_token tt (λ y a. clash begins_primary h a.0 k refl)) (misses_token tt (λ y a. clash begins_primary h a.0 k refl)))))))))

  pub primary_refused : {i : ℕ} {t : Tok} → slice_get ts i ≡ Some t → begins_primary t ≡ false → ReadsPhrase ts (expression primary) i (refused i)
  primary_refused h k = reads_nothing (misses_primary h k)

  pub misses_postfix : {i : ℕ} {t : Tok} → slice_get ts i ≡ Some t → begins_primary t ≡ false → Misses ts (expression postfix) (rule (expression postfix)) i
  unfolding rule
  misses_postfix h k = misses_inner (misses_primary h k)

  pub misses_expr : {i : ℕ} {t : Tok} → slice_get ts i ≡ Some t → begins_primary t ≡ false → operator_of factor t ≡ None → Misses ts expr (rule expr) i
  unfolding rule
  misses_expr h k l = misses_inner (misses_inner (misses_inner (misses_inner (misses_inner (misses_either (no_operator h l) (misses_inner (misses_postfix h k)))))))

  -- factors

  pub prefix_read : {i : ℕ} {t : Tok} {op : Op} (o : Outcome Expression) → slice_get ts i ≡ Some t → operator_of factor t ≡ Some op → ReadsPhrase ts (expression factor) (i + 1) o →
      ReadsPhrase ts (expression factor) i (put (λ e. Prefix op e i) o)
  unfolding rule
  prefix_read {i = i} {t = t} {op = op} o h k R = reads_first
      (reads_token tt (op, i) (t, h, k, refl) (reads_last _ o (λ t u. u) R))
      (off (misses_inner (misses_postfix h (prefix_begins_none t op k))))

  pub plain_read : {i : ℕ} {t : Tok} (o : Outcome Expression) → slice_get ts i ≡ Some t → operator_of factor t ≡ None → ReadsPhrase ts (expression postfix) i o → ReadsPhrase ts (expression factor) i o
  unfolding rule
  plain_read o h k R = reads_second (rw put-id at (reads_last {p = expression factor} {q = expression postfix} (λ e. e) o (λ t u. omega arith) R)) (off (no_operator h k))

  -- primaries

  int_read : {i : ℕ} {z : ℤ} → slice_get ts i ≡ Some (tok.Int z) → ReadsPhrase ts (expression primary) i (read (Literal (value.Int z) i) (i + 1))
  unfolding rule
  int_read {i = i} {z = z} h = reads_first (reads_token tt (z, i) (h, refl) reads_tree) (off (misses_either (misses_token tt (λ y a. cc (a.0, h))) (misses_either (misses_token tt (λ y a. cc (a.0, h))) (misses_either (misses_token tt (λ y a. cc (a.0, h))) (misses_either (misses_token tt (λ y a. cc (a.0, h))) (misses_either (misses_token tt (λ y a. cc (a.0, h))) (misses_either (misses_token tt (λ y a. cc (a.0, h))) (misses_either (misses_token tt (λ y a. cc (a.0, h))) (misses_token tt (λ y a. cc (a.0, h)))))))))))

  true_read : {i : ℕ} → slice_get ts i ≡ Some (tok.Word kw.True) → ReadsPhrase ts (expression primary) i (read (Literal (value.Bool true) i) (i + 1))
  unfolding rule
  true_read {i = i} h = reads_second (reads_first (reads_token tt i (h, refl) reads_tree) (off (misses_either (misses_token tt (λ y a. cc (a.0, h))) (misses_either (misses_token tt (λ y a. cc (a.0, h))) (misses_either (misses_token tt (λ y a. cc (a.0, h))) (misses_either (misses_token tt (λ y a. cc (a.0, h))) (misses_either (misses_token tt (λ y a. cc (a.0, h))) (misses_either (misses_token tt (λ y a. cc (a.0, h))) (misses_token tt (λ y a. cc (a.0, h))))))))))) (off (misses_token tt (λ y a. cc (a.0, h))))

  false_read : {i : ℕ} → slice_get ts i ≡ Some (tok.Word kw.False) → ReadsPhrase ts (expression primary) i (read (Literal (value.Bool false) i) (i + 1))
  unfolding rule
  false_read {i = i} h = reads_second (reads_second (reads_first (reads_token tt i (h, refl) reads_tree) (off (misses_either (misses_token tt (λ y a. cc (a.0, h))) (misses_either (misses_token tt (λ y a. cc (a.0, h))) (misses_either (misses_token tt (λ y a. cc (a.0, h))) (misses_either (misses_token tt (λ y a. cc (a.0, h))) (misses_either (misses_token tt (λ y a. cc (a.0, h))) (misses_token tt (λ y a. cc (a.0, h)))))))))) (off (misses_token tt (λ y a. cc (a.0, h))))) (off (misses_token tt (λ y a. cc (a.0, h))))

  nil_read : {i : ℕ} → slice_get ts i ≡ Some (tok.Word kw.Nil) → ReadsPhrase ts (expression primary) i (read (Literal value.Nil i) (i + 1))
  unfolding rule
  nil_read {i = i} h = reads_second (reads_second (reads_second (reads_first (reads_token tt i (h, refl) reads_tree) (off (misses_either (misses_token tt (λ y a. cc (a.0, h))) (misses_either (misses_token tt (λ y a. cc (a.0, h))) (misses_either (misses_token tt (λ y a. cc (a.0, h))) (misses_either (misses_token tt (λ y a. cc (a.0, h))) (misses_token tt (λ y a. cc (a.0, h))))))))) (off (misses_token tt (λ y a. cc (a.0, h))))) (off (misses_token tt (λ y a. cc (a.0, h))))) (off (misses_token tt (λ y a. cc (a.0, h))))

  self_read : {i : ℕ} → slice_get ts i ≡ Some (tok.Word kw.SelfWord) → ReadsPhrase ts (expression primary) i (read (Me i) (i + 1))
  unfolding rule
  self_read {i = i} h = reads_second (reads_second (reads_second (reads_second (reads_first (reads_token tt i (h, refl) reads_tree) (off (misses_either (misses_token tt (λ y a. cc (a.0, h))) (misses_either (misses_token tt (λ y a. cc (a.0, h))) (misses_either (misses_token tt (λ y a. cc (a.0, h))) (misses_token tt (λ y a. cc (a.0, h)))))))) (off (misses_token tt (λ y a. cc (a.0, h))))) (off (misses_token tt (λ y a. cc (a.0, h))))) (off (misses_token tt (λ y a. cc (a.0, h))))) (off (misses_token tt (λ y a. cc (a.0, h))))

  pub literal_read : (t : Tok) {i : ℕ} {e : Expression} → slice_get ts i ≡ Some t → literal_of t i ≡ Some e → ReadsPhrase ts (expression primary) i (read e (i + 1))
  literal_read (tok.Int z) {i = i} {e = e} h k = let s : Literal (value.Int z) i ≡ e = cc in rw s at (int_read {i = i} {z = z} h)
  literal_read (tok.Word kw.True) {i = i} {e = e} h k = let s : Literal (value.Bool true) i ≡ e = cc in rw s at (true_read {i = i} h)
  literal_read (tok.Word kw.False) {i = i} {e = e} h k = let s : Literal (value.Bool false) i ≡ e = cc in rw s at (false_read {i = i} h)
  literal_read (tok.Word kw.Nil) {i = i} {e = e} h k = let s : Literal value.Nil i ≡ e = cc in rw s at (nil_read {i = i} h)
  literal_read (tok.Word kw.SelfWord) {i = i} {e = e} h k = let s : Me i ≡ e = cc in rw s at (self_read {i = i} h)
  literal_read _ h k = cc

  -- behind a name: what the tree is, and what is read from the next token on
  behind_name : {i : ℕ} {n : NameId} {o : Outcome Expression} → slice_get ts i ≡ Some (tok.Name n) →
      Reads ts (expression primary) (either (tree (Variable n.0 i)) (then (phrase args) (λ es. tree (Call n.0 es i)))) (i + 1) o → ReadsPhrase ts (expression primary) i o
  unfolding rule
  behind_name {i = i} {n = n} h R = reads_second (reads_second (reads_second (reads_second (reads_second (reads_regrouped (reads_first (reads_factored (reads_token tt (let v : Named = record { name = n; pos = i } in v) (h, refl) R)) (off (misses_either (misses_token tt (λ y a. cc (a.0, h))) (misses_token tt (λ y a. cc (a.0, h))))))) (off (misses_token tt (λ y a. cc (a.0, h))))) (off (misses_token tt (λ y a. cc (a.0, h))))) (off (misses_token tt (λ y a. cc (a.0, h))))) (off (misses_token tt (λ y a. cc (a.0, h))))) (off (misses_token tt (λ y a. cc (a.0, h))))

  pub misses_args : {i : ℕ} → slice_get ts i ≢ Some (tok.Sign sg.LeftParen) → Misses ts args (rule args) i
  unfolding rule
  misses_args h = misses_token tt (λ y a. h a.0)

  pub variable_read : {i : ℕ} {n : NameId} → slice_get ts i ≡ Some (tok.Name n) → slice_get ts (i + 1) ≢ Some (tok.Sign sg.LeftParen) → ReadsPhrase ts (expression primary) i (read (Variable n.0 i) (i + 1))
  variable_read h k = behind_name h (reads_first reads_tree (off (misses_inner (misses_args k))))

  pub call_read : {i : ℕ} {n : NameId} (o : Outcome Expressions) → slice_get ts i ≡ Some (tok.Name n) → slice_get ts (i + 1) ≡ Some (tok.Sign sg.LeftParen) → ReadsPhrase ts args (i + 1) o →
      ReadsPhrase ts (expression primary) i (put (λ es. Call n.0 es i) o)
  call_read o h k R = behind_name h (reads_second (reads_last _ o (λ t u. absurd u) R) (off_tree _ k (omega arith)))

  behind_new : {i : ℕ} {o : Outcome Expression} → slice_get ts i ≡ Some (tok.Word kw.New) →
      Reads ts (expression primary) (then name (λ n. tree (Create n.name.0 n.pos))) (i + 1) o → ReadsPhrase ts (expression primary) i o
  unfolding rule
  behind_new {i = i} h R = reads_second (reads_second (reads_second (reads_second (reads_second (reads_second (reads_second (reads_first (reads_token tt i (h, refl) R) (off (misses_token tt (λ y a. cc (a.0, h))))) (off (misses_token tt (λ y a. cc (a.0, h))))) (off (misses_token tt (λ y a. cc (a.0, h))))) (off (misses_token tt (λ y a. cc (a.0, h))))) (off (misses_token tt (λ y a. cc (a.0, h))))) (off (misses_token tt (λ y a. cc (a.0, h))))) (off (misses_token tt (λ y a. cc (a.0, h))))) (off (misses_token tt (λ y a. cc (a.0, h))))

  pub new_read : {i : ℕ} (n : Named) → slice_get ts i ≡ Some (tok.Word kw.New) → IsToken ts name (i + 1) n → ReadsPhrase ts (expression primary) i (read (Create n.name.0 n.pos) (i + 2))
  new_read {i = i} n h k = let e : i + 1 + 1 ≡ i + 2 = omega arith in rw e at (behind_new {i = i} {o = read (Create n.name.0 n.pos) (i + 1 + 1)} h (reads_token tt n k reads_tree))

  pub new_refused : {i : ℕ} → slice_get ts i ≡ Some (tok.Word kw.New) → ((n : NameId) → slice_get ts (i + 1) ≢ Some (tok.Name n)) → ReadsPhrase ts (expression primary) i (refused (i + 1))
  new_refused h k = behind_new h (name_missing k)

  parenthesis : {i : ℕ} {o : Outcome Expression} → slice_get ts i ≡ Some (tok.Sign sg.LeftParen) →
      Reads ts (expression primary) (then (phrase expr) (λ e. then (sign sg.RightParen) (λ y. tree e))) (i + 1) o → ReadsPhrase ts (expression primary) i o
  unfolding rule
  parenthesis {i = i} h R = reads_second (reads_second (reads_second (reads_second (reads_second (reads_second (reads_second (reads_second (reads_token tt i (h, refl) R) (off (misses_token tt (λ y a. cc (a.0, h))))) (off (misses_token tt (λ y a. cc (a.0, h))))) (off (misses_token tt (λ y a. cc (a.0, h))))) (off (misses_token tt (λ y a. cc (a.0, h))))) (off (misses_token tt (λ y a. cc (a.0, h))))) (off (misses_token tt (λ y a. cc (a.0, h))))) (off (misses_token tt (λ y a. cc (a.0, h))))) (off (misses_token tt (λ y a. cc (a.0, h))))

  pub closes_expression : {p : Phrase} {f : ℕ → Rule (Tree p)} → Clear ts p (then (sign sg.RightParen) f) expr
  closes_expression = clear_sign (λ u. omega arith)

  pub inside_read : {i m : ℕ} {e : Expression} {o : Outcome Expression} → slice_get ts i ≡ Some (tok.Sign sg.LeftParen) → ReadsPhrase ts expr (i + 1) (read e m) →
      Reads ts (expression primary) (then (sign sg.RightParen) (λ y. tree e)) m o → ReadsPhrase ts (expression primary) i o
  inside_read h R S = parenthesis h (reads_inner R (λ z. closes_expression) S)

  pub inside_refused : {i u : ℕ} → slice_get ts i ≡ Some (tok.Sign sg.LeftParen) → ReadsPhrase ts expr (i + 1) (refused u) → ReadsPhrase ts (expression primary) i (refused u)
  inside_refused h R = parenthesis h (reads_refused R (λ z. closes_expression))

  -- sends

  pub after_primary : (to : Expression) → Clear ts (more_sends to) (rule (more_sends to)) (expression primary)
  unfolding rule
  after_primary to = clear_either (clear_sign (λ u. omega arith)) (clear_tree (λ t u. omega arith))

  pub postfix_read : {e : Expression} {i m : ℕ} (o : Outcome Expression) → ReadsPhrase ts (expression primary) i (read e m) → ReadsPhrase ts (more_sends e) m o → ReadsPhrase ts (expression postfix) i o
  unfolding rule
  postfix_read {e = e} o R S = reads_inner R (λ z. clear_inner (after_primary z) (λ y. clear_tree (λ t u. omega arith)))
      (rw put-id at (reads_last {p = expression postfix} {q = more_sends e} (λ x. x) o (λ t u. u) S))

  pub postfix_refused : {i u : ℕ} → ReadsPhrase ts (expression primary) i (refused u) → ReadsPhrase ts (expression postfix) i (refused u)
  unfolding rule
  postfix_refused R = reads_refused R (λ z. clear_inner (after_primary z) (λ y. clear_tree (λ t u. omega arith)))

  -- the primary alone is a postfix
  pub postfix_alone : {i m : ℕ} {e : Expression} → ReadsPhrase ts (expression primary) i (read e m) → Derives ts (expression postfix) (rule (expression postfix)) i m e
  unfolding rule
  postfix_alone {m = m} {e = e} R = inner e (R.sound e m refl) (inner e (second nothing) nothing)

  pub send_read : {to : Expression} {es : Expressions} {i m : ℕ} (o : Outcome Expression) (n : Named) → slice_get ts i ≡ Some (tok.Sign sg.Bang) → IsToken ts name (i + 1) n → ReadsPhrase ts args (i + 2) (read es m) →
      ReadsPhrase ts (more_sends (Send to n.name.0 es n.pos)) m o → ReadsPhrase ts (more_sends to) i o
  unfolding rule
  send_read {to = to} {es = es} {i = i} {m = m} o n h k R S = reads_first
      (sign_read h (reads_token tt n k (reads_inner (let e : i + 2 ≡ i + 1 + 1 = omega arith in subst (λ (v : ℕ). ReadsPhrase ts args v (read es m)) e R) (λ z. clear_any (λ t u. u))
      (rw put-id at (reads_last {p = more_sends to} {q = more_sends (Send to n.name.0 es n.pos)} (λ x. x) o (λ t u. u) S)))))
      (off_tree _ h (omega arith))

  pub send_refused : {to : Expression} {i u : ℕ} (n : Named) → slice_get ts i ≡ Some (tok.Sign sg.Bang) → IsToken ts name (i + 1) n → ReadsPhrase ts args (i + 2) (refused u) → ReadsPhrase ts (more_sends to) i (refused u)
  unfolding rule
  send_refused {i = i} {u = u} n h k R = reads_first
      (sign_read h (reads_token tt n k (reads_refused (let e : i + 2 ≡ i + 1 + 1 = omega arith in subst (λ (v : ℕ). ReadsPhrase ts args v (refused u)) e R) (λ z. clear_any (λ t u. u)))))
      (off_tree _ h (omega arith))

  pub send_missing : {to : Expression} {i : ℕ} → slice_get ts i ≡ Some (tok.Sign sg.Bang) → ((n : NameId) → slice_get ts (i + 1) ≢ Some (tok.Name n)) → ReadsPhrase ts (more_sends to) i (refused (i + 1))
  unfolding rule
  send_missing h k = reads_first (sign_read h (name_missing k)) (off_tree _ h (omega arith))

  pub sends_end : {to : Expression} {i : ℕ} → slice_get ts i ≢ Some (tok.Sign sg.Bang) → ReadsPhrase ts (more_sends to) i (read to i)
  unfolding rule
  sends_end h = reads_second reads_tree (off_sign h)

  -- invocations

  pub call_invokes : {i m : ℕ} {n : NameId} {es : Expressions} → slice_get ts i ≡ Some (tok.Name n) → ReadsPhrase ts args (i + 1) (read es m) → Derives ts invoke (rule invoke) i m (Call n.0 es i)
  unfolding rule
  call_invokes {i = i} {m = m} {n = n} {es = es} h R = let v : Named = record { name = n; pos = i } in first (token v (h, refl) (inner es (R.sound es m refl) nothing))

  pub new_invokes : {i : ℕ} (n : Named) → slice_get ts i ≡ Some (tok.Word kw.New) → IsToken ts name (i + 1) n → Derives ts invoke (rule invoke) i (i + 2) (Create n.name.0 n.pos)
  unfolding rule
  new_invokes {i = i} n h k = let e : i + 1 + 1 ≡ i + 2 = omega arith in subst (λ (v : ℕ). Derives ts invoke (rule invoke) i v (Create n.name.0 n.pos)) e (second (first (token i (h, refl) (token n k nothing))))

  pub send_invokes : {i k m : ℕ} {to : Expression} {es : Expressions} (n : Named) → Derives ts (expression postfix) (rule (expression postfix)) i k to → slice_get ts k ≡ Some (tok.Sign sg.Bang) → IsToken ts name (k + 1) n →
      ReadsPhrase ts args (k + 2) (read es m) → Derives ts invoke (rule invoke) i m (Send to n.name.0 es n.pos)
  unfolding rule
  send_invokes {i = i} {k = k} {m = m} {to = to} {es = es} n d h a R = second (second (inner to d (token k (h, refl) (token n a
      (inner es (let e : k + 2 ≡ k + 1 + 1 = omega arith in subst (λ (v : ℕ). Derives ts args (rule args) v m es) e (R.sound es m refl)) nothing)))))

  -- a primary that is read to its end is no send
  no_send : {i j : ℕ} {e x : Expression} → ReadsPhrase ts (expression primary) i (read e j) →
      Derives ts invoke (then (phrase (expression postfix)) (λ to. then (sign sg.Bang) (λ y. then name (λ n. then (phrase args) (λ es. tree (Send to n.name.0 es n.pos)))))) i j x → ⊥
  unfolding rule
  no_send {j = j} {e = e} R d =
      let q = Derives-inner d in let b = Derives-token tt q.3 in
      let r = Derives-inner q.2 in let s = Derives-inner r.3 in let z = Derives-tree s.3 in
      let far : q.0 + 1 ≤ j = at_least b.2 in let near : r.0 ≤ s.0 = at_least s.2 in
      let stop : Stops ts (expression primary) r.0 = ⊎_elim
      (λ h. let same : r.0 ≡ q.0 = omega arith in λ t k g. let e : t ≡ tok.Sign sg.Bang = let w : slice_get ts r.0 ≡ Some (tok.Sign sg.Bang) = rw same b.1.0 in cc in let g' : 8 ≤ strength (tok.Sign sg.Bang) = rw e at g in omega arith)
      (λ h. (after_primary r.1).begun r.0 (front_of (r.0 + 1) s.2 (omega arith) (omega arith)))
      (eq-or-lt_of_le near) in
      let u : read e j ≡ read r.1 r.0 = R.only r.1 r.0 r.2 stop in
      let v : j ≡ r.0 = cc in omega arith

  pub not_invoke : {i j : ℕ} {e x : Expression} → ((n : NameId) → slice_get ts i ≡ Some (tok.Name n) → slice_get ts (i + 1) ≢ Some (tok.Sign sg.LeftParen)) → slice_get ts i ≢ Some (tok.Word kw.New) →
      ReadsPhrase ts (expression primary) i (read e j) → Derives ts invoke (rule invoke) i j x → ⊥
  unfolding rule
  not_invoke a b R d = ⊎_elim
      (λ d'. let u = Derives-token tt d' in let w = Derives-inner u.2 in let v = Derives-token tt w.2 in a _ u.1.0 v.1.0)
      (λ c. ⊎_elim (λ d'. let u = Derives-token tt d' in b u.1.0) (λ d'. no_send R d') (Derives-either c))
      (Derives-either d)

  pub literal_not : (t : Tok) {i : ℕ} {e x : Expression} → slice_get ts i ≡ Some t → literal_of t i ≡ Some e → Derives ts invoke (rule invoke) i (i + 1) x → ⊥
  literal_not t {i = i} {e = e} h k = not_invoke
      (λ n a. let s : t ≡ tok.Name n = cc in let l : literal_of (tok.Name n) i ≡ Some e = rw s at k in cc)
      (λ a. let s : t ≡ tok.Word kw.New = cc in let l : literal_of (tok.Word kw.New) i ≡ Some e = rw s at k in cc)
      (literal_read t h k)
