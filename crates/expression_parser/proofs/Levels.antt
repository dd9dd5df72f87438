-- The parsing of the levels of expressions.
use Rattle.std.proofs.Common.{◌≡◌, ℕ, ◌+◌, ◌<◌, List, Some, None, slice_get, refl, arith}
use Rattle.pool_syntax.specs.declared.token.Tok.{Tok}
use Rattle.pool_syntax.specs.declared.token.Tok.TheVariants as tok
use Rattle.text_scan.specs.declared.keywords.Keyword.TheVariants as kw
use Rattle.pool_syntax.specs.declared.token.Sign.TheVariants as sg
use Rattle.run_types.specs.declared.types.Op.{Op}
use Rattle.pool_syntax.specs.Terms.{Expression, Infix}
use Rattle.pool_grammar.specs.Rules.{Group, disjunction, conjunction, addition, multiplication, Level, group, comparison, factor, postfix, primary, expression, more_operands}
use Rattle.pool_grammar.specs.Grammar.{rule, operator_of, operand}
use Rattle.expression_parser.specs.Reads.{Outcome, read, refused, ReadsPhrase, strength, level_number}
use Rattle.expression_parser.proofs.ClearRules.{Clear}
use Rattle.expression_parser.proofs.RuleComposition.{reads_tree, reads_token, reads_first, reads_second, reads_inner, reads_refused, reads_last, put-id, clear_tree, clear_inner, clear_either, clear_token, misses_token, off, off_tree}

-- an operator between operands binds as its level says
pub operator_strength : (l : Level) (t : Tok) (o : Op) → operator_of l t ≡ Some o → level_number l < 6 → strength t ≡ level_number l
operator_strength (group disjunction) (tok.Word kw.Or) o h b = refl
operator_strength (group conjunction) (tok.Word kw.And) o h b = refl
operator_strength comparison (tok.Sign sg.Equal) o h b = refl
operator_strength comparison (tok.Sign sg.Differs) o h b = refl
operator_strength comparison (tok.Sign sg.Less) o h b = refl
operator_strength comparison (tok.Sign sg.LessEq) o h b = refl
operator_strength comparison (tok.Sign sg.More) o h b = refl
operator_strength comparison (tok.Sign sg.MoreEq) o h b = refl
operator_strength (group addition) (tok.Sign sg.Plus) o h b = refl
operator_strength (group addition) (tok.Sign sg.Minus) o h b = refl
operator_strength (group multiplication) (tok.Sign sg.Star) o h b = refl
operator_strength (group multiplication) (tok.Sign sg.Slash) o h b = refl
operator_strength (group multiplication) (tok.Sign sg.Percent) o h b = refl
operator_strength factor t o h b = absurd (omega arith)
operator_strength postfix t o h b = absurd (omega arith)
operator_strength primary t o h b = absurd (omega arith)
operator_strength _ _ o h b = cc

pub group_strength : (g : Group) (t : Tok) (o : Op) → operator_of (group g) t ≡ Some o → strength t ≡ level_number (group g)
group_strength disjunction t o h = operator_strength (group disjunction) t o h (omega arith)
group_strength conjunction t o h = operator_strength (group conjunction) t o h (omega arith)
group_strength addition t o h = operator_strength (group addition) t o h (omega arith)
group_strength multiplication t o h = operator_strength (group multiplication) t o h (omega arith)

pub operand_above : (g : Group) → level_number (group g) < level_number (operand g)
operand_above disjunction = omega arith
operand_above conjunction = omega arith
operand_above addition = omega arith
operand_above multiplication = omega arith

module _ {ts : List Tok} (g : Group) where
  pub after_operand : (l : Expression) → Clear ts (more_operands g l) (rule (more_operands g l)) (expression (operand g))
  unfolding rule
  after_operand l = clear_either
      (clear_token tt (λ k y a t h u. let e : a.0 ≡ t = cc (a.1, h) in let s : strength t ≡ level_number (group g) = group_strength g t y.0 (rw e at a.2) in omega (arith, operand_above g)))
      (clear_tree (λ t u. omega (arith, operand_above g)))

  -- the first operand, and what follows it
  pub grouped_read : {l : Expression} {i m : ℕ} (o : Outcome Expression) → ReadsPhrase ts (expression (operand g)) i (read l m) →
      ReadsPhrase ts (more_operands g l) m o → ReadsPhrase ts (expression (group g)) i o
  unfolding rule
  grouped_read {l = l} o C R = reads_inner C (λ z. clear_inner (after_operand z) (λ e. clear_tree (λ t u. omega (arith, operand_above g))))
      (rw put-id at (reads_last {p = expression (group g)} {q = more_operands g l} (λ e. e) o (λ t h. h) R))

  pub grouped_refused : {i u : ℕ} → ReadsPhrase ts (expression (operand g)) i (refused u) →
      ReadsPhrase ts (expression (group g)) i (refused u)
  unfolding rule
  grouped_refused C = reads_refused C (λ z. clear_inner (after_operand z) (λ e. clear_tree (λ t u. omega (arith, operand_above g))))

  -- an operator and its right operand, and what follows them
  pub operator_read : {l r : Expression} {i m : ℕ} {t : Tok} {op : Op} (o : Outcome Expression) → slice_get ts i ≡ Some t → operator_of (group g) t ≡ Some op →
      ReadsPhrase ts (expression (operand g)) (i + 1) (read r m) →
      ReadsPhrase ts (more_operands g (Infix op l r i)) m o → ReadsPhrase ts (more_operands g l) i o
  unfolding rule
  operator_read {l = l} {r = r} {i = i} {t = t} {op = op} o h k C R = reads_first
      (reads_token tt (op, i) (t, h, k, refl) (reads_inner C (λ z. clear_inner (after_operand _) (λ e. clear_tree (λ t u. omega (arith, operand_above g))))
      (rw put-id at (reads_last {p = more_operands g l} {q = more_operands g (Infix op l r i)} (λ e. e) o (λ t h. h) R))))
      (off_tree t h (let e : strength t ≡ level_number (group g) = group_strength g t op k in omega arith))

  pub operator_refused : {l : Expression} {i u : ℕ} {t : Tok} {op : Op} → slice_get ts i ≡ Some t → operator_of (group g) t ≡ Some op →
      ReadsPhrase ts (expression (operand g)) (i + 1) (refused u) → ReadsPhrase ts (more_operands g l) i (refused u)
  unfolding rule
  operator_refused {i = i} {t = t} {op = op} h k C = reads_first
      (reads_token tt (op, i) (t, h, k, refl) (reads_refused C (λ z. clear_inner (after_operand _) (λ e. clear_tree (λ t u. omega (arith, operand_above g))))))
      (off_tree t h (let e : strength t ≡ level_number (group g) = group_strength g t op k in omega arith))

  -- no further operator
  pub operators_end : {l : Expression} {i : ℕ} {t : Tok} → slice_get ts i ≡ Some t → operator_of (group g) t ≡ None → ReadsPhrase ts (more_operands g l) i (read l i)
  unfolding rule
  operators_end h k = reads_second reads_tree (off (misses_token tt (λ y a. let e : a.0 ≡ _ = cc (a.1, h) in let n : operator_of (group g) a.0 ≡ None = rw e k in cc (n, a.2))))
