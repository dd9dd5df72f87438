-- The code of a part represents it, at its first place and with nothing of it done.
use Rattle.std.proofs.Common.{◌≡◌, refl, sym, ap, ◌∙◌, subst, ℕ, zero, suc, ◌+◌, List, [], ◌∷◌, ◌++◌, length, Option, Some, true, inl, arith, append_assoc, length-append}
use Rattle.std.specs.Prelude.{slice_get}
use Rattle.run_types.specs.declared.types.Value.{Value}
use Rattle.run_types.specs.declared.types.Value.TheVariants as V
use Rattle.pool_syntax.specs.Terms as T
use Rattle.pool_syntax.specs.Terms.{Expression, Expressions, Statement, Statements, Alternatives}
use Rattle.pool_syntax.specs.Typing.{size}
use Rattle.code_semantics.specs.declared.unit.Instr.{Instr}
use Rattle.code_semantics.specs.declared.unit.Instr.TheVariants as I
use Rattle.code_semantics.specs.declared.unit.ClassCode.{ClassCode}
use Rattle.pool_compile.specs.Code.{Numbering, name, push, store, expression_code, expressions_code, guards_code, statement_code, statements_code, alternatives_code, alternatives_at}
use Rattle.pool_compile.specs.StandsFor.{Point, fresh, Jumps, pushed, Under, UnderAll, UnderStatement, UnderStatements, UnderGuards, Works}
use Rattle.pool_compile.specs.TextPrograms.{is_text, are_text, is_text_statement, are_text_statements, are_text_alternatives}

-- these instructions stand at this place
abbrev pub Has : List Instr → ℕ → List Instr → Type 0
Has c at [] = Unit {0}
Has c at (i ∷ is) = (slice_get c at ≡ Some i) × Has c (suc at) is

pub front : (c : List Instr) (at : ℕ) (a b : List Instr) → Has c at (a ++ b) → Has c at a
front c at [] b h = tt
front c at (i ∷ a) b h = (h.0, front c (suc at) a b h.1)

pub back : (c : List Instr) (at : ℕ) (a b : List Instr) → Has c at (a ++ b) → Has c (at + length a) b
back c at [] b h = subst (λ n. Has c n b) (let e : at ≡ at + 0 = omega arith in e) h
back c at (i ∷ a) b h = subst (λ n. Has c n b) (let e : suc at + length a ≡ at + suc (length a) = omega arith in e) (back c (suc at) a b h.1)

-- the code itself stands at its front
has_after : (a c : List Instr) → Has (a ++ c) (length a) c
has_after a [] = tt
has_after a (i ∷ c) = (
  get_after a i c,
  subst (λ l. Has l (suc (length a)) c) (append_assoc a (i ∷ []) c)
      (subst (λ n. Has ((a ++ i ∷ []) ++ c) n c) (length-append a (i ∷ []) ∙ (let e : length a + 1 ≡ suc (length a) = omega arith in e)) (has_after (a ++ i ∷ []) c)),
)
  where
    get_after : (a : List Instr) (i : Instr) (c : List Instr) → slice_get (a ++ i ∷ c) (length a) ≡ Some i
    get_after [] i c = refl
    get_after (j ∷ a) i c = get_after a i c

pub has_all : (c : List Instr) → Has c 0 c
has_all c = has_after [] c

-- a jump behind a list
module _ (k : Option ClassCode) (c : List Instr) (g : Numbering) where
  jumps_more : (n a b d : ℕ) → Jumps c n a b → slice_get c b ≡ Some (I.Jump d) → Jumps c (suc n) a d
  jumps_more zero a b d j e = (d, ap (slice_get c) j ∙ e, refl)
  jumps_more (suc n) a b d j e = (j.0, j.1, jumps_more n j.0 b d j.2 e)

  jump_behind : (ss : Statements) (base : List Value) (z : Point) (m end : ℕ) → UnderStatements k c g ss base z m → slice_get c m ≡ Some (I.Jump end)
      → UnderStatements k c g ss base z end
  jump_behind T.Done base z m end u e = (u.0, (suc u.1.0, jumps_more u.1.0 z.at m end u.1.1 e))
  jump_behind (T.Then st ss) base z m end u e = (u.0, u.1, jump_behind ss base (fresh u.0 base) m end u.2 e)

  push_pushes : (at : ℕ) (v : Value) (p : ℕ) → is_text (T.Literal v p) ≡ true → slice_get c at ≡ Some (push v) → (i : Instr) × (slice_get c at ≡ Some i) × (pushed i ≡ Some v)
  push_pushes at (V.Int z) p q e = (I.PushInt z, e, refl)
  push_pushes at (V.Bool b) p q e = (I.PushBool b, e, refl)
  push_pushes at V.Nil p q e = (I.PushNil, e, refl)
  push_pushes at (V.Ref n) p q e = absurd (grind (arith, q))

  mutual
    pub coded : (e : Expression) (at : ℕ) → is_text e ≡ true → Has c at (expression_code g e)
        → (base : List Value) (end : ℕ) → end ≡ at + length (expression_code g e) → Under k c g e base (fresh at base) end
    coded (T.Literal v p) at q h base end e = (refl, inl (refl, push_pushes at v p q h.0, omega arith))
    coded (T.Me p) at q h base end e = ((refl, refl), (h.0, omega arith))
    coded (T.Variable x p) at q h base end e = ((refl, refl), (h.0, omega arith))
    coded (T.Create n p) at q h base end e = ((refl, refl), (h.0, omega arith))
    coded (T.Prefix op a p) at q h base end e =
        let ca = expression_code g a in
        let i = back c at ca (I.Oper op ∷ []) h in
        (at + length ca, coded a at q (front c at ca (I.Oper op ∷ []) h) base _ refl, (i.0, omega (arith, length-append ca (I.Oper op ∷ []))))
    coded (T.Infix op l r p) at q h base end e =
        let cl = expression_code g l in
        let cr = expression_code g r in
        let b = back c at cl (cr ++ I.Oper op ∷ []) h in
        let i = back c (at + length cl) cr (I.Oper op ∷ []) b in (
          at + length cl + length cr,
          inl (
            at + length cl,
            coded l at (grind (arith, q)) (front c at cl (cr ++ I.Oper op ∷ []) h) base _ refl,
            λ base. coded r (at + length cl) (grind (arith, q)) (front c (at + length cl) cr (I.Oper op ∷ []) b) base _ refl,
          ),
          (i.0, omega (arith, length-append cl (cr ++ I.Oper op ∷ []), length-append cr (I.Oper op ∷ []))),
        )
    coded (T.Call m es p) at q h base end e =
        let ca = expressions_code g es in
        let i = back c at ca (I.Call (name m) ∷ []) h in
        (at + length ca, coded_all es at q (front c at ca (I.Call (name m) ∷ []) h) base _ refl, (i.0, omega (arith, length-append ca (I.Call (name m) ∷ []))))
    coded (T.Send a m es p) at q h base end e =
        let cl = expression_code g a in
        let cr = expressions_code g es in
        let x = I.Send (name m) (size es) in
        let b = back c at cl (cr ++ x ∷ []) h in
        let i = back c (at + length cl) cr (x ∷ []) b in (
          at + length cl + length cr,
          inl (
            at + length cl,
            coded a at (grind (arith, q)) (front c at cl (cr ++ x ∷ []) h) base _ refl,
            λ base. coded_all es (at + length cl) (grind (arith, q)) (front c (at + length cl) cr (x ∷ []) b) base _ refl,
          ),
          (i.0, omega (arith, length-append cl (cr ++ x ∷ []), length-append cr (x ∷ []))),
        )
    coded (T.Frame m t ss a qs) at q h base end e = absurd (grind (arith, q))
    coded (T.Wait b m) at q h base end e = absurd (grind (arith, q))

    pub coded_all : (es : Expressions) (at : ℕ) → are_text es ≡ true → Has c at (expressions_code g es)
        → (base : List Value) (end : ℕ) → end ≡ at + length (expressions_code g es) → UnderAll k c g es base (fresh at base) end
    coded_all T.NoArgs at q h base end e = ((refl, refl), omega arith)
    coded_all (T.Arg a es) at q h base end e =
        let ca = expression_code g a in
        let cs = expressions_code g es in
        inl (
          at + length ca,
          coded a at (grind (arith, q)) (front c at ca cs h) base _ refl,
          λ base. coded_all es (at + length ca) (grind (arith, q)) (back c at ca cs h) base end (omega (arith, length-append ca cs)),
        )

  coded_guards : (alts : Alternatives) (at : ℕ) → are_text_alternatives alts ≡ true → Has c at (guards_code g alts)
      → (base : List Value) (end : ℕ) → end ≡ at + length (guards_code g alts) → UnderGuards k c g alts base (fresh at base) end
  coded_guards T.NoAlts at q h base end e = ((refl, refl), omega arith)
  coded_guards (T.Alt a names ss alts) at q h base end e =
      let ca = expression_code g a in
      let cs = guards_code g alts in
      inl (
        at + length ca,
        coded a at (grind (arith, q)) (front c at ca cs h) base _ refl,
        λ base. coded_guards alts (at + length ca) (grind (arith, q)) (back c at ca cs h) base end (omega (arith, length-append ca cs)),
      )

  -- the length does not depend on where the jumps lead
  pub works_length : (alts : Alternatives) (at x y : ℕ) → length (alternatives_code g at x alts) ≡ length (alternatives_code g at y alts)
  works_length T.NoAlts at x y = refl
  works_length (T.Alt a names ss alts) at x y =
      let w = statements_code g at ss in
      let next = suc (at + length w) in
      omega (arith, length-append w (I.Jump x ∷ alternatives_code g next x alts), length-append w (I.Jump y ∷ alternatives_code g next y alts), works_length alts next x y)

  mutual
    pub coded_statement : (st : Statement) (at : ℕ) → is_text_statement st ≡ true → Has c at (statement_code g at st)
        → (base : List Value) (end : ℕ) → end ≡ at + length (statement_code g at st) → UnderStatement k c g st base (fresh at base) end
    coded_statement (T.Assign x p a) at q h base end e =
        let ca = expression_code g a in
        let i = back c at ca (store g x ∷ []) h in
        (at + length ca, coded a at q (front c at ca (store g x ∷ []) h) base _ refl, (i.0, omega (arith, length-append ca (store g x ∷ []))))
    coded_statement (T.Write a) at q h base end e =
        let ca = expression_code g a in
        let i = back c at ca (I.Write ∷ []) h in
        (at + length ca, coded a at q (front c at ca (I.Write ∷ []) h) base _ refl, (i.0, omega (arith, length-append ca (I.Write ∷ []))))
    coded_statement (T.WriteText n) at q h base end e = ((refl, refl), (h.0, omega arith))
    coded_statement (T.Do a) at q h base end e =
        let ca = expression_code g a in
        let i = back c at ca (I.Pop ∷ []) h in
        (at + length ca, coded a at q (front c at ca (I.Pop ∷ []) h) base _ refl, (i.0, omega (arith, length-append ca (I.Pop ∷ []))))
    coded_statement (T.Async a m p es) at q h base end e =
        let cl = expression_code g a in
        let cr = expressions_code g es in
        let x = I.Async (name m) (size es) in
        let b = back c at cl (cr ++ x ∷ []) h in
        let i = back c (at + length cl) cr (x ∷ []) b in (
          at + length cl + length cr,
          inl (
            at + length cl,
            coded a at (grind (arith, q)) (front c at cl (cr ++ x ∷ []) h) base _ refl,
            λ base. coded_all es (at + length cl) (grind (arith, q)) (front c (at + length cl) cr (x ∷ []) b) base _ refl,
          ),
          (i.0, omega (arith, length-append cl (cr ++ x ∷ []), length-append cr (x ∷ []))),
        )
    coded_statement (T.If a these those) at q h base end e =
        let test = expression_code g a in
        let yes = suc (at + length test) in
        let first = statements_code g yes these in
        let other = suc (yes + length first) in
        let second = statements_code g other those in
        let branch = I.Branch other in
        let jump = I.Jump (other + length second) in
        let b = back c at test (branch ∷ (first ++ jump ∷ second)) h in
        let d = back c yes first (jump ∷ second) b.1 in
        let all : other + length second ≡ end = omega (arith, length-append test (branch ∷ (first ++ jump ∷ second)), length-append first (jump ∷ second)) in (
          at + length test,
          other,
          coded a at (grind (arith, q)) (front c at test _ h) base _ refl,
          b.0,
          jump_behind these base (fresh yes base) (yes + length first) end
              (coded_statements these yes (grind (arith, q)) (front c yes first (jump ∷ second) b.1) base _ refl) (d.0 ∙ ap (λ n. Some (I.Jump n)) all),
          coded_statements those other (grind (arith, q)) d.1 base end (sym all),
        )
    coded_statement (T.While a ss) at q h base end e =
        let test = expression_code g a in
        let go = suc (suc at + length test) in
        let turn = statements_code g go ss in
        let branch = I.Branch (suc (go + length turn)) in
        let b = back c (suc at) test (branch ∷ (turn ++ I.Jump at ∷ [])) h.1 in
        let d = back c go turn (I.Jump at ∷ []) b.1 in
        let all : suc (go + length turn) ≡ end = omega (arith, length-append test (branch ∷ (turn ++ I.Jump at ∷ [])), length-append turn (I.Jump at ∷ [])) in (
          suc at + length test,
          (refl, refl),
          h.0,
          coded a (suc at) (grind (arith, q)) (front c (suc at) test _ h.1) base _ refl,
          b.0 ∙ ap (λ n. Some (I.Branch n)) all,
          jump_behind ss base (fresh go base) (go + length turn) at
              (coded_statements ss go (grind (arith, q)) (front c go turn (I.Jump at ∷ []) b.1) base _ refl) d.0,
        )
    coded_statement (T.Answer names) at q h base end e = ((refl, refl), (h.0, omega arith))
    coded_statement (T.Select alts) at q h base end e =
        let gs = guards_code g alts in
        let go = suc (at + length gs) in
        let last = go + length (alternatives_code g go 0 alts) in
        let works = alternatives_code g go last alts in
        let i = I.Select (alternatives_at g go alts) in
        let b = back c at gs (i ∷ works) h in
        let all : last ≡ end = omega (arith, length-append gs (i ∷ works), works_length alts go 0 last) in (
          at + length gs,
          alternatives_at g go alts,
          coded_guards alts at q (front c at gs _ h) base _ refl,
          b.0,
          coded_works alts go last q b.1 base end all,
        )
    coded_statement (T.Serve m w v ss a qs) at q h base end e = absurd (grind (arith, q))

    pub coded_statements : (ss : Statements) (at : ℕ) → are_text_statements ss ≡ true → Has c at (statements_code g at ss)
        → (base : List Value) (end : ℕ) → end ≡ at + length (statements_code g at ss) → UnderStatements k c g ss base (fresh at base) end
    coded_statements T.Done at q h base end e = ((refl, refl), (0, omega arith))
    coded_statements (T.Then st ss) at q h base end e =
        let cs = statement_code g at st in
        let more = statements_code g (at + length cs) ss in (
          at + length cs,
          inl (coded_statement st at (grind (arith, q)) (front c at cs more h) base _ refl),
          coded_statements ss (at + length cs) (grind (arith, q)) (back c at cs more h) base end (omega (arith, length-append cs more)),
        )

    pub coded_works : (alts : Alternatives) (at last : ℕ) → are_text_alternatives alts ≡ true → Has c at (alternatives_code g at last alts)
        → (base : List Value) (end : ℕ) → last ≡ end → Works k c g alts base (alternatives_at g at alts) end
    coded_works T.NoAlts at last q h base end e = tt
    coded_works (T.Alt a names ss alts) at last q h base end e =
        let w = statements_code g at ss in
        let next = suc (at + length w) in
        let b = back c at w (I.Jump last ∷ alternatives_code g next last alts) h in (
          refl,
          jump_behind ss base (fresh at base) (at + length w) end (coded_statements ss at (grind (arith, q)) (front c at w _ h) base _ refl)
              (b.0 ∙ ap (λ n. Some (I.Jump n)) e),
          coded_works alts next last (grind (arith, q)) b.1 base end e,
        )
