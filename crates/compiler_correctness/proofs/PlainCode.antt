-- The code of statements writes strings of the table, and does not end a method or a body.
use Rattle.std.proofs.Common.{◌≡◌, subst, IsTrue, ℕ, zero, suc, ◌+◌, List, [], ◌∷◌, ◌++◌, length, Some, None, Bool, true, false}
use Rattle.std.specs.Prelude.{slice_get, if◌then◌else◌}
use Rattle.text_scan.specs.Text.{Text}
use Rattle.run_types.specs.declared.types.Value.{Value}
use Rattle.run_types.specs.declared.types.Value.TheVariants as V
use Rattle.pool_syntax.specs.Terms as T
use Rattle.pool_syntax.specs.Terms.{Expression, Expressions, Statement, Statements, Alternatives}
use Rattle.text_scan.specs.Keywords.{is_string_number}
use Rattle.pool_syntax.specs.Spelled.{is_spelled_expression, is_spelled_statement, are_spelled_statements, are_spelled_alternatives}
use Rattle.pool_syntax.specs.Typing.{contains, size}
use Rattle.run_types.proofs.Laws.{first, second, same_some}
use Rattle.code_semantics.specs.declared.unit.Instr.{Instr}
use Rattle.code_semantics.specs.declared.unit.Instr.TheVariants as I
use Rattle.pool_compile.specs.Code.{Numbering, name, push, load, store, number_of, expression_code, expressions_code, guards_code, statement_code, statements_code, alternatives_code, alternatives_at}

module _ (names : List Text) where
  abbrev pub IsPlain : Instr → Type 0
  IsPlain I.Halt = ⊥
  IsPlain I.Ret = ⊥
  IsPlain I.Post = ⊥
  IsPlain (I.WriteText s) = IsTrue (is_string_number names s.0)
  IsPlain _ = Unit {0}

  abbrev pub ArePlain : List Instr → Type 0
  ArePlain [] = Unit {0}
  ArePlain (i ∷ c) = IsPlain i × ArePlain c

  pub plain_append : (a b : List Instr) → ArePlain a → ArePlain b → ArePlain (a ++ b)
  plain_append [] b x y = y
  plain_append (i ∷ a) b x y = (x.0, plain_append a b x.1 y)

  pub plain_at : (c : List Instr) (j : ℕ) (i : Instr) → ArePlain c → slice_get c j ≡ Some i → IsPlain i
  plain_at [] j i x e = absurd (let z : None ≡ Some i = e in cc)
  plain_at (d ∷ c) zero i x e = subst IsPlain (same_some e) x.0
  plain_at (d ∷ c) (suc j) i x e = plain_at c j i x.1 e

  module _ (g : Numbering) where
    push_plain : (v : Value) → ArePlain (push v ∷ [])
    push_plain (V.Int z) = (tt, tt)
    push_plain (V.Bool b) = (tt, tt)
    push_plain (V.Ref n) = (tt, tt)
    push_plain V.Nil = (tt, tt)

    load_plain : (x : ℕ) → ArePlain (load g x ∷ [])
    load_plain x = by (contains g.temps x)
      where
        by : (b : Bool) → ArePlain ((if b then I.LoadT (number_of g.temps x) else I.LoadI (number_of g.vars x)) ∷ [])
        by true = (tt, tt)
        by false = (tt, tt)

    store_plain : (x : ℕ) → ArePlain (store g x ∷ [])
    store_plain x = by (contains g.temps x)
      where
        by : (b : Bool) → ArePlain ((if b then I.StoreT (number_of g.temps x) else I.StoreI (number_of g.vars x)) ∷ [])
        by true = (tt, tt)
        by false = (tt, tt)

    mutual
      pub expression_plain : (e : Expression) → ArePlain (expression_code g e)
      expression_plain (T.Literal v p) = push_plain v
      expression_plain (T.Me p) = (tt, tt)
      expression_plain (T.Variable x p) = load_plain x
      expression_plain (T.Create c p) = (tt, tt)
      expression_plain (T.Prefix op e p) = plain_append (expression_code g e) (I.Oper op ∷ []) (expression_plain e) (tt, tt)
      expression_plain (T.Infix op l r p) =
          plain_append (expression_code g l) (expression_code g r ++ I.Oper op ∷ []) (expression_plain l) (plain_append (expression_code g r) (I.Oper op ∷ []) (expression_plain r) (tt, tt))
      expression_plain (T.Call m es p) = plain_append (expressions_code g es) (I.Call (name m) ∷ []) (expressions_plain es) (tt, tt)
      expression_plain (T.Send e m es p) =
          plain_append (expression_code g e) (expressions_code g es ++ I.Send (name m) (size es) ∷ []) (expression_plain e)
          (plain_append (expressions_code g es) (I.Send (name m) (size es) ∷ []) (expressions_plain es) (tt, tt))
      expression_plain (T.Frame m t ss e qs) = tt
      expression_plain (T.Wait b m) = tt

      expressions_plain : (es : Expressions) → ArePlain (expressions_code g es)
      expressions_plain T.NoArgs = tt
      expressions_plain (T.Arg e es) = plain_append (expression_code g e) (expressions_code g es) (expression_plain e) (expressions_plain es)

    guards_plain : (alts : Alternatives) → ArePlain (guards_code g alts)
    guards_plain T.NoAlts = tt
    guards_plain (T.Alt e n ss alts) = plain_append (expression_code g e) (guards_code g alts) (expression_plain e) (guards_plain alts)

    mutual
      statement_plain : (st : Statement) (at : ℕ) → is_spelled_statement names st ≡ true → ArePlain (statement_code g at st)
      statement_plain (T.Assign x p e) at s = plain_append (expression_code g e) (store g x ∷ []) (expression_plain e) (store_plain x)
      statement_plain (T.Write e) at s = plain_append (expression_code g e) (I.Write ∷ []) (expression_plain e) (tt, tt)
      statement_plain (T.WriteText n) at s = (s, tt)
      statement_plain (T.Do e) at s = plain_append (expression_code g e) (I.Pop ∷ []) (expression_plain e) (tt, tt)
      statement_plain (T.Async e m p es) at s =
          plain_append (expression_code g e) (expressions_code g es ++ I.Async (name m) (size es) ∷ []) (expression_plain e)
          (plain_append (expressions_code g es) (I.Async (name m) (size es) ∷ []) (expressions_plain es) (tt, tt))
      statement_plain (T.If e these those) at s =
          let s2 = first _ (are_spelled_statements names those) s in
          let yes = suc (at + length (expression_code g e)) in
          let one = statements_code g yes these in
          let no = suc (yes + length one) in
          let two = statements_code g no those in
          plain_append (expression_code g e) (I.Branch no ∷ (one ++ I.Jump (no + length two) ∷ two)) (expression_plain e) (
            tt,
            plain_append one (I.Jump (no + length two) ∷ two) (statements_plain these yes (second (is_spelled_expression names e) (are_spelled_statements names these) s2))
                (tt, statements_plain those no (second _ (are_spelled_statements names those) s)),
          )
      statement_plain (T.While e ss) at s =
          let go = suc (suc at + length (expression_code g e)) in
          let turn = statements_code g go ss in (
            tt,
            plain_append (expression_code g e) (I.Branch (suc (go + length turn)) ∷ (turn ++ I.Jump at ∷ [])) (expression_plain e)
                (tt, plain_append turn (I.Jump at ∷ []) (statements_plain ss go (second (is_spelled_expression names e) (are_spelled_statements names ss) s)) (tt, tt)),
          )
      statement_plain (T.Answer ns) at s = (tt, tt)
      statement_plain (T.Select alts) at s =
          let go = suc (at + length (guards_code g alts)) in
          let last = go + length (alternatives_code g go 0 alts) in
          plain_append (guards_code g alts) (I.Select (alternatives_at g go alts) ∷ alternatives_code g go last alts) (guards_plain alts) (tt, works_plain alts go last s)
      statement_plain (T.Serve m k t ss e qs) at s = tt

      pub statements_plain : (ss : Statements) (at : ℕ) → are_spelled_statements names ss ≡ true → ArePlain (statements_code g at ss)
      statements_plain T.Done at s = tt
      statements_plain (T.Then st ss) at s =
          plain_append (statement_code g at st) (statements_code g (at + length (statement_code g at st)) ss)
          (statement_plain st at (first (is_spelled_statement names st) (are_spelled_statements names ss) s))
          (statements_plain ss (at + length (statement_code g at st)) (second (is_spelled_statement names st) (are_spelled_statements names ss) s))

      works_plain : (alts : Alternatives) (at last : ℕ) → are_spelled_alternatives names alts ≡ true → ArePlain (alternatives_code g at last alts)
      works_plain T.NoAlts at last s = tt
      works_plain (T.Alt e n ss alts) at last s =
          let s1 = first _ (are_spelled_alternatives names alts) s in
          let w = statements_code g at ss in
          plain_append w (I.Jump last ∷ alternatives_code g (suc (at + length w)) last alts) (statements_plain ss at (second _ (are_spelled_statements names ss) s1))
          (tt, works_plain alts (suc (at + length w)) last (second _ (are_spelled_alternatives names alts) s))
