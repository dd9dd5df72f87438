-- The parsing of lists of arguments.
use Rattle.std.proofs.Common.{◌≡◌, ◌≢◌, ℕ, ◌+◌, inl, inr, ⊎_elim, List, Some, slice_get, refl, subst, arith}
use Rattle.pool_syntax.specs.declared.token.Tok.{Tok}
use Rattle.pool_syntax.specs.declared.token.Tok.TheVariants as tok
use Rattle.pool_syntax.specs.declared.token.Sign.TheVariants as sg
use Rattle.pool_syntax.specs.Terms.{Expression, Expressions, NoArgs, Arg}
use Rattle.pool_grammar.specs.Rules.{Phrase, Tree, args, more_args, sign, phrase, Rule, tree, then}
use Rattle.pool_grammar.specs.Grammar.{rule, expr, arg_last}
use Rattle.expression_parser.specs.Reads.{Outcome, read, refused, Reads, ReadsPhrase}
use Rattle.expression_parser.proofs.ClearRules.{Clear}
use Rattle.expression_parser.proofs.RuleComposition.{reads_tree, reads_first, reads_second, reads_inner, reads_refused, reads_last, reads_nothing, put-id, clear_tree, clear_inner, clear_either, clear_sign, misses_inner, off, off_tree}
use Rattle.expression_parser.proofs.SingleTokens.{sign_there, sign_read, off_sign}
use Rattle.expression_parser.proofs.Primaries.{misses_args, misses_expr, closes_expression}

module _ {ts : List Tok} where
  pub after_arg : {es : Expressions} → Clear ts (more_args es) (rule (more_args es)) expr
  unfolding rule
  after_arg = clear_either (clear_sign (λ u. omega arith)) (clear_tree (λ t u. inr u))

  pub closes_args : {p : Phrase} {f : ℕ → Rule (Tree p)} {es : Expressions} → Clear ts p (then (sign sg.RightParen) f) (more_args es)
  closes_args = clear_sign (⊎_elim (λ e. cc) (λ u. omega arith))

  args_inside : {i : ℕ} {o : Outcome Expressions} → slice_get ts i ≡ Some (tok.Sign sg.LeftParen) → slice_get ts (i + 1) ≢ Some (tok.Sign sg.RightParen) →
      Reads ts args (then (phrase expr) (λ e. then (phrase (more_args (Arg e NoArgs))) (λ es. then (sign sg.RightParen) (λ y. tree es)))) (i + 1) o → ReadsPhrase ts args i o
  unfolding rule
  args_inside h k R = sign_read h (reads_first R (off_sign k))

  pub args_missing : {i : ℕ} → slice_get ts i ≢ Some (tok.Sign sg.LeftParen) → ReadsPhrase ts args i (refused i)
  args_missing h = reads_nothing (misses_args h)

  pub args_empty : {i : ℕ} → slice_get ts i ≡ Some (tok.Sign sg.LeftParen) → slice_get ts (i + 1) ≡ Some (tok.Sign sg.RightParen) → ReadsPhrase ts args i (read NoArgs (i + 2))
  unfolding rule
  args_empty {i = i} h k = let e : i + 1 + 1 ≡ i + 2 = omega arith in subst (λ (v : ℕ). ReadsPhrase ts args i (read NoArgs v)) e
      (sign_read h (reads_second (sign_there k) (off (misses_inner (misses_expr k refl refl)))))

  pub args_read : {i m n : ℕ} {e : Expression} {es : Expressions} {o : Outcome Expressions} → slice_get ts i ≡ Some (tok.Sign sg.LeftParen) → slice_get ts (i + 1) ≢ Some (tok.Sign sg.RightParen) →
      ReadsPhrase ts expr (i + 1) (read e m) → ReadsPhrase ts (more_args (Arg e NoArgs)) m (read es n) → Reads ts args (then (sign sg.RightParen) (λ y. tree es)) n o → ReadsPhrase ts args i o
  args_read h k R S T = args_inside h k (reads_inner R (λ z. clear_inner after_arg (λ y. closes_expression)) (reads_inner S (λ z. closes_args) T))

  pub args_refused : {i u : ℕ} → slice_get ts i ≡ Some (tok.Sign sg.LeftParen) → slice_get ts (i + 1) ≢ Some (tok.Sign sg.RightParen) →
      ReadsPhrase ts expr (i + 1) (refused u) → ReadsPhrase ts args i (refused u)
  args_refused h k R = args_inside h k (reads_refused R (λ z. clear_inner after_arg (λ y. closes_expression)))

  pub args_refused_later : {i m u : ℕ} {e : Expression} → slice_get ts i ≡ Some (tok.Sign sg.LeftParen) → slice_get ts (i + 1) ≢ Some (tok.Sign sg.RightParen) →
      ReadsPhrase ts expr (i + 1) (read e m) → ReadsPhrase ts (more_args (Arg e NoArgs)) m (refused u) → ReadsPhrase ts args i (refused u)
  args_refused_later h k R S = args_inside h k (reads_inner R (λ z. clear_inner after_arg (λ y. closes_expression)) (reads_refused S (λ z. closes_args)))

  pub arg_read : {i m : ℕ} {e : Expression} {es : Expressions} (o : Outcome Expressions) → slice_get ts i ≡ Some (tok.Sign sg.Comma) →
      ReadsPhrase ts expr (i + 1) (read e m) → ReadsPhrase ts (more_args (arg_last es e)) m o → ReadsPhrase ts (more_args es) i o
  unfolding rule
  arg_read {e = e} {es = es} o h R S = reads_first (sign_read h (reads_inner R (λ z. clear_inner after_arg (λ y. clear_tree (λ t u. inr u)))
      (rw put-id at (reads_last {p = more_args es} {q = more_args (arg_last es e)} (λ x. x) o (λ t u. u) S)))) (off_tree _ h (inl refl))

  pub arg_refused : {i u : ℕ} {es : Expressions} → slice_get ts i ≡ Some (tok.Sign sg.Comma) → ReadsPhrase ts expr (i + 1) (refused u) → ReadsPhrase ts (more_args es) i (refused u)
  unfolding rule
  arg_refused h R = reads_first (sign_read h (reads_refused R (λ z. clear_inner after_arg (λ y. clear_tree (λ t u. inr u))))) (off_tree _ h (inl refl))

  pub arg_end : {i : ℕ} {es : Expressions} → slice_get ts i ≢ Some (tok.Sign sg.Comma) → ReadsPhrase ts (more_args es) i (read es i)
  unfolding rule
  arg_end h = reads_second reads_tree (off_sign h)
