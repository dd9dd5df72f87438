-- The number of frames above a place is the number of methods under way in the part that the place represents.
use Rattle.run_types.specs.declared.frames.CodeObject.{CodeObject}
use Rattle.std.proofs.Common.{◌≡◌, refl, sym, ap, ◌∙◌, ℕ, suc, ◌+◌, List, [], ◌∷◌, length, Option, Some, IsTrue, inl, inr, arith, length-append, None, ◌++◌}
use Rattle.run_types.specs.declared.types.Value.{Value}
use Rattle.pool_syntax.specs.Terms as T
use Rattle.pool_syntax.specs.Terms.{Store, Expression, Expressions, Statement, Statements, Alternatives, ProgramTree}
use Rattle.pool_relation.specs.Reducible.{is_done}
use Rattle.pool_relation.specs.UnderWay.{in_expression, in_expressions, in_statement, in_statements, in_guards, frames_of}
use Rattle.code_semantics.specs.declared.unit.Instr.{Instr}
use Rattle.code_semantics.specs.declared.unit.ClassCode.{ClassCode}
use Rattle.code_semantics.specs.Frames.{code_of}
use Rattle.pool_relation.specs.Action.{Object}
use Rattle.pool_compile.specs.Code.{Numbering}
use Rattle.pool_compile.specs.StandsFor.{Point, Head, level, fresh, Led, as_value, PointsOf, InTurn, InMethod, Under, UnderAll, UnderStatement, UnderStatements, UnderGuards, StandsFor, Behind}

level_length : (h : Head) (t : Store) (a : Point) → length (level h t a) ≡ suc (length a.above)
level_length h t a = length-append a.above _ ∙ (let e : length a.above + 1 ≡ suc (length a.above) = omega arith in e)

-- two parts in turn
turn_count : (first : PointsOf) (value : Option Value) (second : PointsOf) (a b : ℕ) (base : List Value) (s : Point) (end : ℕ)
    → ((base : List Value) (s : Point) (end : ℕ) → first base s end → length s.above ≡ a)
    → ((base : List Value) (s : Point) (end : ℕ) → second base s end → length s.above ≡ b)
    → ((v : Value) → value ≡ Some v → a ≡ 0)
    → InTurn first value second base s end → length s.above ≡ a + b
turn_count first value second a b base s end f g none (inl w) =
    let x = f base s w.0 w.1 in
    let y : length (fresh w.0 base).above ≡ b = g base (fresh w.0 base) end (w.2 base) in
    omega (arith, x, y)
turn_count first value second a b base s end f g none (inr w) =
    let x = g (w.0 ∷ base) s end w.2 in
    let y = none w.0 w.1 in
    omega (arith, x, y)

value_none : (e : Expression) (v : Value) → as_value e ≡ Some v → length (in_expression e) ≡ 0
value_none (T.Literal w p) v h = refl
value_none _ v h = absurd (grind (arith, h))

empty : (s : Point) → s.above ≡ [] → length s.above ≡ 0
empty s e = ap length e

-- a method under way: its statements, its value and its post statements
method_count : (c : List Instr) (k : Option ClassCode) (g : Numbering) (caller : Option ℕ) (ss : Statements) (e : Expression) (qs : Statements) (a : Point)
    → ((base : List Value) (s : Point) (end : ℕ) → UnderStatements k c g ss base s end → length s.above ≡ length (in_statements ss))
    → ((base : List Value) (s : Point) (end : ℕ) → Under k c g e base s end → length s.above ≡ length (in_expression e))
    → ((base : List Value) (s : Point) (end : ℕ) → UnderStatements k c g qs base s end → length s.above ≡ length (in_statements qs))
    → ((v : Value) → as_value e ≡ Some v → length (in_expression e) ≡ 0)
    → InMethod c caller (UnderStatements k c g ss []) (is_done ss) (Under k c g e []) (as_value e) (UnderStatements k c g qs) (is_done qs) a
    → length a.above ≡ length (in_statements ss) + (length (in_expression e) + length (in_statements qs))
method_count c k g caller ss e qs a f h fq value w = by w
  where
    none : (ss : Statements) → IsTrue (is_done ss) → length (in_statements ss) ≡ 0
    none T.Done i = refl
    none (T.Then s ss) i = absurd (grind (arith, i))

    posts : (q : ℕ) → Behind c (is_done qs) (UnderStatements k c g qs) q → length (in_statements qs) ≡ 0
    posts q (inl w) = none qs w.0
    posts q (inr w) = let x : length (fresh (suc q) []).above ≡ length (in_statements qs) = fq [] (fresh (suc q) []) w.2.0 (w.2.2 []) in sym x

    by : InMethod c caller (UnderStatements k c g ss []) (is_done ss) (Under k c g e []) (as_value e) (UnderStatements k c g qs) (is_done qs) a
        → length a.above ≡ length (in_statements ss) + (length (in_expression e) + length (in_statements qs))
    by (inl (q, b, inl (r, x, y))) =
        let m = f [] a r x in
        let n : length (fresh r []).above ≡ length (in_expression e) = h [] (fresh r []) q y in
        let o = posts q b in
        omega (arith, m, n, o)
    by (inl (q, b, inr (d, y))) =
        let m = h [] a q y in
        let n = none ss d in
        let o = posts q b in
        omega (arith, m, n, o)
    by (inr (v, d, is, n, (p, ret, u))) =
        let m = fq (v ∷ []) a p u in
        let o = none ss d in
        let x = value v is in
        omega (arith, m, o, x)

led_count : (c : List Instr) (part : PointsOf) (n : ℕ) (base : List Value) (s : Point) (end : ℕ)
    → ((base : List Value) (s : Point) (end : ℕ) → part base s end → length s.above ≡ n) → Led c part base s end → length s.above ≡ n
led_count c part n base s end f (inl w) = f base s end w
led_count c part n base s end f (inr w) =
    let x : length (fresh w.1.1 base).above ≡ n = f base (fresh w.1.1 base) end w.1.3 in
    ap length w.0.1 ∙ x

mutual
  pub expression_count : (k : Option ClassCode) (c : List Instr) (g : Numbering) (e : Expression) (base : List Value) (s : Point) (end : ℕ)
      → Under k c g e base s end → length s.above ≡ length (in_expression e)
  expression_count k c g (T.Literal v p) base s end u = empty s u.0
  expression_count k c g (T.Me p) base s end u = empty s u.0.1
  expression_count k c g (T.Variable x p) base s end u = empty s u.0.1
  expression_count k c g (T.Create n p) base s end u = empty s u.0.1
  expression_count k c g (T.Prefix op e p) base s end u = expression_count k c g e base s u.0 u.1
  expression_count k c g (T.Infix op l r p) base s end u =
      turn_count (Under k c g l) (as_value l) (Under k c g r) (length (in_expression l)) (length (in_expression r)) base s u.0
      (λ b z q w. expression_count k c g l b z q w) (λ b z q w. expression_count k c g r b z q w) (value_none l) u.1
      ∙ sym (length-append (in_expression l) (in_expression r))
  expression_count k c g (T.Call m es p) base s end u = all_count k c g es base s u.0 u.1
  expression_count k c g (T.Send e m es p) base s end u =
      turn_count (Under k c g e) (as_value e) (UnderAll k c g es) (length (in_expression e)) (length (in_expressions es)) base s u.0
      (λ b z q w. expression_count k c g e b z q w) (λ b z q w. all_count k c g es b z q w) (value_none e) u.1
      ∙ sym (length-append (in_expression e) (in_expressions es))
  expression_count k c g (T.Frame m t ss e qs) base s end u =
      let i : Numbering = record g { temps = u.1.2 } in
      let d = code_of k u.1.0.method in
      let n = method_count d k i None ss e qs u.1.1 (λ b z q w. statements_count k d i ss b z q w) (λ b z q w. expression_count k d i e b z q w) (λ b z q w. statements_count k d i qs b z q w) (value_none e) u.1.7 in
      ap length u.1.3 ∙ level_length u.1.0 t u.1.1 ∙ ap suc (n ∙ sym (length-append (in_statements ss) (in_expression e ++ in_statements qs) ∙ ap (λ m. length (in_statements ss) + m) (length-append (in_expression e) (in_statements qs))))
  expression_count k c g (T.Wait b m) base s end u = empty s u.1

  pub all_count : (k : Option ClassCode) (c : List Instr) (g : Numbering) (es : Expressions) (base : List Value) (s : Point) (end : ℕ)
      → UnderAll k c g es base s end → length s.above ≡ length (in_expressions es)
  all_count k c g T.NoArgs base s end u = empty s u.0.1
  all_count k c g (T.Arg e es) base s end u =
      turn_count (Under k c g e) (as_value e) (UnderAll k c g es) (length (in_expression e)) (length (in_expressions es)) base s end
      (λ b z q w. expression_count k c g e b z q w) (λ b z q w. all_count k c g es b z q w) (value_none e) u
      ∙ sym (length-append (in_expression e) (in_expressions es))

  pub statement_count : (k : Option ClassCode) (c : List Instr) (g : Numbering) (st : Statement) (base : List Value) (s : Point) (end : ℕ)
      → UnderStatement k c g st base s end → length s.above ≡ length (in_statement st)
  statement_count k c g (T.Assign x p e) base s end u = expression_count k c g e base s u.0 u.1
  statement_count k c g (T.Write e) base s end u = expression_count k c g e base s u.0 u.1
  statement_count k c g (T.WriteText n) base s end u = empty s u.0.1
  statement_count k c g (T.Do e) base s end u = expression_count k c g e base s u.0 u.1
  statement_count k c g (T.Async e m p es) base s end u =
      turn_count (Under k c g e) (as_value e) (UnderAll k c g es) (length (in_expression e)) (length (in_expressions es)) base s u.0
      (λ b z q w. expression_count k c g e b z q w) (λ b z q w. all_count k c g es b z q w) (value_none e) u.1
      ∙ sym (length-append (in_expression e) (in_expressions es))
  statement_count k c g (T.If e these those) base s end u = expression_count k c g e base s u.0 u.2
  statement_count k c g (T.While e ss) base s end u = empty s u.1.1
  statement_count k c g (T.Answer ns) base s end u = empty s u.0.1
  statement_count k c g (T.Select alts) base s end u = guards_count k c g alts base s u.0 u.2
  statement_count k c g (T.Serve m w t ss e qs) base s end u =
      let i : Numbering = record g { temps = u.1.2 } in
      let d = code_of k u.1.0.method in
      let n = method_count d k i w ss e qs u.1.1 (λ b z q w. statements_count k d i ss b z q w) (λ b z q w. expression_count k d i e b z q w) (λ b z q w. statements_count k d i qs b z q w) (value_none e) u.1.7 in
      ap length u.1.3 ∙ level_length u.1.0 t u.1.1 ∙ ap suc (n ∙ sym (length-append (in_statements ss) (in_expression e ++ in_statements qs) ∙ ap (λ m. length (in_statements ss) + m) (length-append (in_expression e) (in_statements qs))))

  pub statements_count : (k : Option ClassCode) (c : List Instr) (g : Numbering) (ss : Statements) (base : List Value) (s : Point) (end : ℕ)
      → UnderStatements k c g ss base s end → length s.above ≡ length (in_statements ss)
  statements_count k c g T.Done base s end u = empty s u.0.1
  statements_count k c g (T.Then st ss) base s end u =
      let x = led_count c (UnderStatement k c g st) (length (in_statement st)) base s u.0 (λ b z q w. statement_count k c g st b z q w) u.1 in
      let y : 0 ≡ length (in_statements ss) = statements_count k c g ss base (fresh u.0 base) end u.2 in
      x ∙ (let e : length (in_statement st) ≡ length (in_statement st) + length (in_statements ss) = omega (arith, y) in e)
      ∙ sym (length-append (in_statement st) (in_statements ss))

  pub guards_count : (k : Option ClassCode) (c : List Instr) (g : Numbering) (alts : Alternatives) (base : List Value) (s : Point) (end : ℕ)
      → UnderGuards k c g alts base s end → length s.above ≡ length (in_guards alts)
  guards_count k c g T.NoAlts base s end u = empty s u.0.1
  guards_count k c g (T.Alt e ns ss alts) base s end u =
      turn_count (Under k c g e) (as_value e) (UnderGuards k c g alts) (length (in_expression e)) (length (in_guards alts)) base s end
      (λ b z q w. expression_count k c g e b z q w) (λ b z q w. guards_count k c g alts b z q w) (value_none e) u
      ∙ sym (length-append (in_expression e) (in_guards alts))

-- one frame for the body, and one for each method under way
pub frame_count : (p : ProgramTree) (x : Object) (y : CodeObject) → StandsFor p x y → length y.frames ≡ suc (frames_of x.term)
frame_count p x y s =
    ap length s.frames ∙ level_length _ [] s.at ∙ ap suc (statements_count _ _ _ x.term [] s.at s.end s.term)
