-- Frames that represent a part are at its redex, at a silent instruction, or at its end.
use Rattle.std.proofs.Common.{◌≡◌, ap, subst, ℕ, List, [], ◌∷◌, Option, None}
use Rattle.run_types.specs.declared.types.Value.{Value}
use Rattle.pool_syntax.specs.Terms as T
use Rattle.pool_syntax.specs.Terms.{Store, Expression, Expressions, Statement, Statements, Alternatives}
use Rattle.pool_relation.specs.Reducible as R
use Rattle.pool_relation.specs.Reducible.{fill_expression, fill_expressions, fill_guards}
use Rattle.code_semantics.specs.declared.unit.ClassCode.{ClassCode}
use Rattle.code_semantics.specs.Frames.{code_of, post_passed}
use Rattle.pool_compile.specs.Code.{Numbering}
use Rattle.pool_compile.specs.StandsFor.{Point, Head, keys, IsServing, Under, UnderAll, UnderStatement, UnderStatements, UnderGuards}
use Rattle.pool_compile.proofs.Focus.{guards_of}
use Rattle.pool_compile.proofs.PositionBasics.{There, AllThere, SeenExpression, SeenAll, in_turn}
use Rattle.pool_compile.proofs.ExpressionPositions.{me_seen, variable_seen, create_seen, wait_seen, prefix_seen, infix_seen, call_seen, send_seen, literal_seen, arg_seen, no_args_seen}
use Rattle.pool_compile.proofs.MethodPositions.{SeenStatements, method_seen, frame_seen}
use Rattle.pool_compile.proofs.StatementPositions.{SeenStatement, SeenGuards, assign_seen, write_seen, text_seen, do_seen, async_seen, if_seen, while_seen, answer_seen, serve_seen, select_seen, guard_seen, no_guards_seen, statements_seen, done_seen}

mutual
  pub see : (k : Option ClassCode) (h : Head) (t : Store) (g : Numbering) (e : Expression) (base : List Value) (s : Point) (end : ℕ) → keys t ≡ g.temps
      → Under k (code_of k h.method) g e base s end → SeenExpression k h t g e base s end
  see k h t g (T.Literal v p) base s end names u = literal_seen k h t g base s end names v p u
  see k h t g (T.Me p) base s end names u = me_seen k h t g base s end names p u
  see k h t g (T.Variable x p) base s end names u = variable_seen k h t g base s end names x p u
  see k h t g (T.Create c p) base s end names u = create_seen k h t g base s end names c p u
  see k h t g (T.Prefix op e p) base s end names u =
      prefix_seen k h t g base s end names op e p u.0 u.2 (see k h t g e base s u.0 names u.1)
  see k h t g (T.Infix op l r p) base s end names u =
      infix_seen k h t g base s end names op l r p u.0 u.2
      (in_turn k h t g l (R.expression_redex t r) (Under k (code_of k h.method) g r) (λ part. Under k (code_of k h.method) g (fill_expression r part)) (λ b z q. There r b z q) u.0 base s
      (λ m w. see k h t g l base s m names w) (λ b w. see k h t g r b s u.0 names w) u.1)
  see k h t g (T.Call m es p) base s end names u =
      call_seen k h t g base s end names m es p u.0 u.2 (see_all k h t g es base s u.0 names u.1)
  see k h t g (T.Send e m es p) base s end names u =
      send_seen k h t g base s end names e m es p u.0 u.2
      (in_turn k h t g e (R.expressions_redex t es) (UnderAll k (code_of k h.method) g es) (λ part. UnderAll k (code_of k h.method) g (fill_expressions es part)) (λ b z q. AllThere b z q) u.0 base s
      (λ m w. see k h t g e base s m names w) (λ b w. see_all k h t g es b s u.0 names w) u.1)
  see k h t g (T.Frame m v ss e qs) base s end names u =
      let hd = u.1.0 in
      let a = u.1.1 in
      let ns = u.1.2 in
      let i : Numbering = record g { temps = ns } in
      frame_seen k h t g base s end names m v ss e qs hd a ns u.0 u.1.3 u.1.4 u.1.5 u.1.6
      (method_seen k None hd v i ss e qs a
      (λ q w. see_statements k hd v i ss [] a q u.1.6 w) (λ q w. see k hd v i e [] a q u.1.6 w)
      (λ x q w. see_statements k hd v i qs (x ∷ []) a q u.1.6 w) (λ n f. ap (post_passed f) u.1.5) u.1.7)
  see k h t g (T.Wait b m) base s end names u = wait_seen k h t g base s end names b m u

  pub see_all : (k : Option ClassCode) (h : Head) (t : Store) (g : Numbering) (es : Expressions) (base : List Value) (s : Point) (end : ℕ) → keys t ≡ g.temps
      → UnderAll k (code_of k h.method) g es base s end → SeenAll k h t g es base s end
  see_all k h t g T.NoArgs base s end names u = no_args_seen k h t g base s end names u
  see_all k h t g (T.Arg e es) base s end names u =
      arg_seen k h t g base s end names e es
      (in_turn k h t g e (R.expressions_redex t es) (UnderAll k (code_of k h.method) g es) (λ part. UnderAll k (code_of k h.method) g (fill_expressions es part)) (λ b z q. AllThere b z q) end base s
      (λ m w. see k h t g e base s m names w) (λ b w. see_all k h t g es b s end names w) u)

  pub see_statement : (k : Option ClassCode) (h : Head) (t : Store) (g : Numbering) (st : Statement) (ss : Statements) (base : List Value) (s : Point) (end : ℕ) → keys t ≡ g.temps
      → UnderStatement k (code_of k h.method) g st base s end → SeenStatement k h t g st ss base s end
  see_statement k h t g (T.Assign x p e) ss base s end names u =
      assign_seen k h t g ss base s end names x p e u.0 u.2 (see k h t g e base s u.0 names u.1)
  see_statement k h t g (T.Write e) ss base s end names u = write_seen k h t g ss base s end names e u.0 u.2 (see k h t g e base s u.0 names u.1)
  see_statement k h t g (T.WriteText n) ss base s end names u = text_seen k h t g ss base s end names n u
  see_statement k h t g (T.Do e) ss base s end names u = do_seen k h t g ss base s end names e u.0 u.2 (see k h t g e base s u.0 names u.1)
  see_statement k h t g (T.Async e m p es) ss base s end names u =
      async_seen k h t g ss base s end names e m p es u.0 u.2
      (in_turn k h t g e (R.expressions_redex t es) (UnderAll k (code_of k h.method) g es) (λ part. UnderAll k (code_of k h.method) g (fill_expressions es part)) (λ b z q. AllThere b z q) u.0 base s
      (λ m w. see k h t g e base s m names w) (λ b w. see_all k h t g es b s u.0 names w) u.1)
  see_statement k h t g (T.If e these those) ss base s end names u =
      if_seen k h t g ss base s end names e these those u.0 u.1 u.3 u.4 u.5 (see k h t g e base s u.0 names u.2)
  see_statement k h t g (T.While e work) ss base s end names u = while_seen k h t g ss base s end names e work u
  see_statement k h t g (T.Answer ns) ss base s end names u = answer_seen k h t g ss base s end names ns u
  see_statement k h t g (T.Select alts) ss base s end names u =
      select_seen k h t g ss base s end names alts u.0 u.1 u.3 u.4 (see_guards k h t g alts base s u.0 names u.2)
  see_statement k h t g (T.Serve m w v work e qs) ss base s end names u =
      let hd = u.1.0 in
      let a = u.1.1 in
      let ns = u.1.2 in
      let i : Numbering = record g { temps = ns } in
      serve_seen k h t g ss base s end names m w v work e qs hd a ns u.0 u.1.3 u.1.4 u.1.5 u.1.6
      (method_seen k w hd v i work e qs a
      (λ q w. see_statements k hd v i work [] a q u.1.6 w) (λ q w. see k hd v i e [] a q u.1.6 w)
      (λ x q w. see_statements k hd v i qs (x ∷ []) a q u.1.6 w) (λ n f. ap (post_passed f) (subst (λ c. IsServing c hd.serves) n u.1.5)) u.1.7)

  pub see_statements : (k : Option ClassCode) (h : Head) (t : Store) (g : Numbering) (ss : Statements) (base : List Value) (s : Point) (end : ℕ) → keys t ≡ g.temps
      → UnderStatements k (code_of k h.method) g ss base s end → SeenStatements k h t g ss base s end
  see_statements k h t g T.Done base s end names u = done_seen k h t g base s end u
  see_statements k h t g (T.Then st ss) base s end names u =
      statements_seen k h t g base s end st ss u.0 u.1 u.2 (λ w. see_statement k h t g st ss base s u.0 names w)

  pub see_guards : (k : Option ClassCode) (h : Head) (t : Store) (g : Numbering) (alts : Alternatives) (base : List Value) (s : Point) (end : ℕ) → keys t ≡ g.temps
      → UnderGuards k (code_of k h.method) g alts base s end → SeenGuards k h t g alts base s end
  see_guards k h t g T.NoAlts base s end names u = no_guards_seen k h t g T.Done base s end names u
  see_guards k h t g (T.Alt e ns work alts) base s end names u =
      guard_seen k h t g T.Done base s end names e ns work alts
      (in_turn k h t g e (R.guards_redex t alts) (UnderGuards k (code_of k h.method) g alts) (λ part. UnderGuards k (code_of k h.method) g (fill_guards alts part)) (λ b z q cs. AllThere b z q (guards_of cs)) end base s
      (λ m w. see k h t g e base s m names w) (λ b w. see_guards k h t g alts b s end names w) u)
