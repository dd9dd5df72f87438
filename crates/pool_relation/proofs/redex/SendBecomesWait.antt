-- A term in which a wait has replaced a send waits next.
use Rattle.std.proofs.Common.{◌≡◌, refl, sym, ap, ℕ, List, [], ◌∷◌, Option, None, Bool, true, false, ◌⊎◌, inl, inr, arith}
use Rattle.run_types.specs.declared.types.Value.{Value}
use Rattle.run_types.specs.declared.types.Op.{Op}
use Rattle.run_types.specs.declared.types.Item.TheVariants as I
use Rattle.pool_syntax.specs.declared.tree.Named.{Named}
use Rattle.pool_syntax.specs.Terms.{Store, Expression, Literal, Me, Variable, Create, Prefix, Infix, Call, Send, Frame, Wait, Expressions, NoArgs, Arg, Statement, Assign, Write, WriteText, Do, Async, If, While, Answer, Select, Serve, Statements, Done, Then, Alternatives, NoAlts, Alt, append}
use Rattle.pool_relation.specs.Reducible.{Choice, Reducible, Found, Evaluated, At, and_then, OwnName, Read, Make, Unary, Binary, Invoke, SynchronousSend, Leave, Waiting, Set, Print, Drop, Post, Branch, Loop, Accept, Choose, Finish, left_served, Contractum, AsExpression, is_value, assigned, fill_expression, fill_expressions, fill_statement, fill_statements, fill_guards, expression_redex, expressions_redex, statement_redex, statements_redex}
use Rattle.pool_relation.specs.Reducible.{guards_redex}
use Rattle.pool_relation.proofs.redex.RedexSearch.{split, split_last, split_more, literal_is, not_value, not_values, not_guards, arguments_are, at_is_no_value, InMethod, InBody, InValue, InPost, AtEnd, in_method}

abbrev is_request : Reducible → Bool
is_request (SynchronousSend v m vs) = true
is_request _ = false

at_no_request : {A : Type 0} (a : Reducible) (t : Store) (r : Reducible) (u : Store) → is_request r ≡ true
    → is_request a ≡ false → ¬ (◌≡◌ {A = Found A} (At a t) (At r u))
at_no_request a t r u i j q = let e : a ≡ r = cc in absurd (grind (arith, i, j, e))

-- a part of one kind that waits, wherever its temps stand
abbrev pub NowWaits : {A B : Type 0} → ℕ → ℕ → (Store → B → Found A) → B → Type 0
NowWaits {A} {B} b m search e = (t : Store) → (w : Store) × (search t e ≡ At (Waiting b m) w)

literal_again : (t t' : Store) (e : Expression) (v : Value) → expression_redex t e ≡ Evaluated v → expression_redex t' e ≡ Evaluated v
literal_again t t' e v q = ap (expression_redex t') (literal_is t e v q).1

module _ (b m : ℕ) (r : Reducible) (u : Store) (is : is_request r ≡ true) where
  abbrev x : Contractum
  x = AsExpression (Wait b m)

  prefix_waits : (t : Store) (op : Op) (e : Expression) (p : ℕ)
      → (expression_redex t e ≡ At r u → NowWaits b m expression_redex (fill_expression e x))
      → expression_redex t (Prefix op e p) ≡ At r u → NowWaits b m expression_redex (fill_expression (Prefix op e p) x)
  prefix_waits t op e p inner q t' = by (split_last (expression_redex t e) (Unary op) t r u q)
    where
      by : (expression_redex t e ≡ At r u) ⊎ ((v : Value) × (expression_redex t e ≡ Evaluated v) × (Unary op v ≡ r) × (t ≡ u))
          → (w : Store) × (expression_redex t' (fill_expression (Prefix op e p) x) ≡ At (Waiting b m) w)
      by (inl k) = let i = inner k t' in (i.0, rw (not_value t e r u k) (rw i.1 refl))
      by (inr k) = absurd (grind (arith, is, k.2))

  infix_waits : (t : Store) (op : Op) (l n : Expression) (p : ℕ)
      → (expression_redex t l ≡ At r u → NowWaits b m expression_redex (fill_expression l x))
      → (expression_redex t n ≡ At r u → NowWaits b m expression_redex (fill_expression n x))
      → expression_redex t (Infix op l n p) ≡ At r u → NowWaits b m expression_redex (fill_expression (Infix op l n p) x)
  infix_waits t op l n p left right q t' = by (split (expression_redex t l) _ r u q)
    where
      behind : (v : Value) → expression_redex t l ≡ Evaluated v
          → (expression_redex t n ≡ At r u) ⊎ ((a : Value) × (expression_redex t n ≡ Evaluated a) × (Binary op v a ≡ r) × (t ≡ u))
          → (w : Store) × (expression_redex t' (fill_expression (Infix op l n p) x) ≡ At (Waiting b m) w)
      behind v e (inl k) =
          let i = right k t' in
          let f : is_value l ≡ true = ap is_value (literal_is t l v e).1 in
          (i.0, rw (f, not_value t n r u k) (rw (literal_again t t' l v e, i.1) refl))
      behind v e (inr k) = absurd (grind (arith, is, k.2))

      by : (expression_redex t l ≡ At r u) ⊎ ((v : Value) × (expression_redex t l ≡ Evaluated v) × (and_then {B = Value} (expression_redex t n) (λ a. At (Binary op v a) t) ≡ At r u))
          → (w : Store) × (expression_redex t' (fill_expression (Infix op l n p) x) ≡ At (Waiting b m) w)
      by (inl k) = let i = left k t' in (i.0, rw (not_value t l r u k) (rw i.1 refl))
      by (inr k) = behind k.0 k.1 (split_last (expression_redex t n) (Binary op k.0) t r u k.2)

  call_waits : (t : Store) (n : ℕ) (es : Expressions) (p : ℕ)
      → (expressions_redex t es ≡ At r u → NowWaits b m expressions_redex (fill_expressions es x))
      → expression_redex t (Call n es p) ≡ At r u → NowWaits b m expression_redex (fill_expression (Call n es p) x)
  call_waits t n es p inner q t' = by (split_last (expressions_redex t es) (Invoke n) t r u q)
    where
      by : (expressions_redex t es ≡ At r u) ⊎ ((vs : List Value) × (expressions_redex t es ≡ Evaluated vs) × (Invoke n vs ≡ r) × (t ≡ u))
          → (w : Store) × (expression_redex t' (fill_expression (Call n es p) x) ≡ At (Waiting b m) w)
      by (inl k) = let i = inner k t' in (i.0, rw (not_values t es r u k) (rw i.1 refl))
      by (inr k) = absurd (grind (arith, is, k.2))

  send_waits : (t : Store) (e : Expression) (n : ℕ) (es : Expressions) (p : ℕ)
      → (expression_redex t e ≡ At r u → NowWaits b m expression_redex (fill_expression e x))
      → (expressions_redex t es ≡ At r u → NowWaits b m expressions_redex (fill_expressions es x))
      → expression_redex t (Send e n es p) ≡ At r u → NowWaits b m expression_redex (fill_expression (Send e n es p) x)
  send_waits t e n es p to rest q t' = by (split (expression_redex t e) _ r u q)
    where
      behind : (v : Value) → expression_redex t e ≡ Evaluated v
          → (expressions_redex t es ≡ At r u) ⊎ ((vs : List Value) × (expressions_redex t es ≡ Evaluated vs) × (SynchronousSend v n vs ≡ r) × (t ≡ u))
          → (w : Store) × (expression_redex t' (fill_expression (Send e n es p) x) ≡ At (Waiting b m) w)
      behind v a (inl k) =
          let i = rest k t' in
          let f : is_value e ≡ true = ap is_value (literal_is t e v a).1 in
          (i.0, rw (f, not_values t es r u k) (rw (literal_again t t' e v a, i.1) refl))
      behind v a (inr k) =
          let f : is_value e ≡ true = ap is_value (literal_is t e v a).1 in
          (t', rw (f, arguments_are t es k.0 k.1) refl)

      by : (expression_redex t e ≡ At r u) ⊎ ((v : Value) × (expression_redex t e ≡ Evaluated v) × (and_then {B = Value} (expressions_redex t es) (λ vs. At (SynchronousSend v n vs) t) ≡ At r u))
          → (w : Store) × (expression_redex t' (fill_expression (Send e n es p) x) ≡ At (Waiting b m) w)
      by (inl k) = let i = to k t' in (i.0, rw (not_value t e r u k) (rw i.1 refl))
      by (inr k) = behind k.0 k.1 (split_last (expressions_redex t es) (λ vs. SynchronousSend k.0 n vs) t r u k.2)

  frame_waits : (t : Store) (n : ℕ) (a : Store) (ss : Statements) (e : Expression) (qs : Statements)
      → (statements_redex a ss ≡ At r u → NowWaits b m statements_redex (fill_statements ss x))
      → (expression_redex a e ≡ At r u → NowWaits b m expression_redex (fill_expression e x))
      → (statements_redex a qs ≡ At r u → NowWaits b m statements_redex (fill_statements qs x))
      → expression_redex t (Frame n a ss e qs) ≡ At r u → NowWaits b m expression_redex (fill_expression (Frame n a ss e qs) x)
  frame_waits t n a ss e qs body value post q t' = by (in_method None a ss e qs Leave r u q)
    where
      by : InMethod None a ss e qs Leave r u → (w : Store) × (expression_redex t' (fill_expression (Frame n a ss e qs) x) ≡ At (Waiting b m) w)
      by (InBody k f) = let i = body k (assigned ss a) in (i.0, rw f (rw i.1 refl))
      by (InValue d k f) = let i = value k a in (i.0, rw (d, f) (rw i.1 refl))
      by (InPost d v k f c p o) = let i = post p (assigned qs a) in (i.0, rw (d, f, o) (rw (literal_again a (assigned qs a) e v k, i.1) refl))
      by (AtEnd d v k f o s w) = absurd (grind (arith, is, s))

  argument_waits : (t : Store) (e : Expression) (es : Expressions)
      → (expression_redex t e ≡ At r u → NowWaits b m expression_redex (fill_expression e x))
      → (expressions_redex t es ≡ At r u → NowWaits b m expressions_redex (fill_expressions es x))
      → expressions_redex t (Arg e es) ≡ At r u → NowWaits b m expressions_redex (fill_expressions (Arg e es) x)
  argument_waits t e es first rest q t' = by (split (expression_redex t e) _ r u q)
    where
      by : (expression_redex t e ≡ At r u) ⊎ ((v : Value) × (expression_redex t e ≡ Evaluated v) × (and_then {B = List Value} (expressions_redex t es) (λ vs. Evaluated (v ∷ vs)) ≡ At r u))
          → (w : Store) × (expressions_redex t' (fill_expressions (Arg e es) x) ≡ At (Waiting b m) w)
      by (inl k) = let i = first k t' in (i.0, rw (not_value t e r u k) (rw i.1 refl))
      by (inr k) =
          let i = rest (split_more (expressions_redex t es) (λ vs. k.0 ∷ vs) r u k.2) t' in
          let f : is_value e ≡ true = ap is_value (literal_is t e k.0 k.1).1 in
          (i.0, rw f (rw (literal_again t t' e k.0 k.1, i.1) refl))

  guard_waits : (t : Store) (e : Expression) (names : Option (List Named)) (ss : Statements) (alts : Alternatives)
      → (expression_redex t e ≡ At r u → NowWaits b m expression_redex (fill_expression e x))
      → (guards_redex t alts ≡ At r u → NowWaits b m guards_redex (fill_guards alts x))
      → guards_redex t (Alt e names ss alts) ≡ At r u → NowWaits b m guards_redex (fill_guards (Alt e names ss alts) x)
  guard_waits t e names ss alts first rest q t' = by (split (expression_redex t e) _ r u q)
    where
      by : (expression_redex t e ≡ At r u) ⊎ ((v : Value) × (expression_redex t e ≡ Evaluated v) × (and_then {B = List Choice} (guards_redex t alts) (λ cs. Evaluated (record { guard = v; answer = names; work = ss } ∷ cs)) ≡ At r u))
          → (w : Store) × (guards_redex t' (fill_guards (Alt e names ss alts) x) ≡ At (Waiting b m) w)
      by (inl k) = let i = first k t' in (i.0, rw (not_value t e r u k) (rw i.1 refl))
      by (inr k) =
          let i = rest (split_more (guards_redex t alts) (λ cs. record { guard = k.0; answer = names; work = ss } ∷ cs) r u k.2) t' in
          let f : is_value e ≡ true = ap is_value (literal_is t e k.0 k.1).1 in
          (i.0, rw f (rw (literal_again t t' e k.0 k.1, i.1) refl))

  -- a statement becomes one statement
  abbrev OneWaits : Statement → Type 0
  OneWaits s = (ss : Statements) → NowWaits b m statements_redex (append (fill_statement s x) ss)

  assign_waits : (t : Store) (n p : ℕ) (e : Expression)
      → (expression_redex t e ≡ At r u → NowWaits b m expression_redex (fill_expression e x))
      → statement_redex t (Assign n p e) ≡ At r u → OneWaits (Assign n p e)
  assign_waits t n p e inner q ss t' = by (split_last (expression_redex t e) (Set n) t r u q)
    where
      by : (expression_redex t e ≡ At r u) ⊎ ((v : Value) × (expression_redex t e ≡ Evaluated v) × (Set n v ≡ r) × (t ≡ u))
          → (w : Store) × (statements_redex t' (append (fill_statement (Assign n p e) x) ss) ≡ At (Waiting b m) w)
      by (inl k) = let i = inner k t' in (i.0, rw (not_value t e r u k) (rw i.1 refl))
      by (inr k) = absurd (grind (arith, is, k.2))

  write_waits : (t : Store) (e : Expression) → (expression_redex t e ≡ At r u → NowWaits b m expression_redex (fill_expression e x))
      → statement_redex t (Write e) ≡ At r u → OneWaits (Write e)
  write_waits t e inner q ss t' = by (split_last (expression_redex t e) (λ v. Print (I.Value v)) t r u q)
    where
      by : (expression_redex t e ≡ At r u) ⊎ ((v : Value) × (expression_redex t e ≡ Evaluated v) × (Print (I.Value v) ≡ r) × (t ≡ u))
          → (w : Store) × (statements_redex t' (append (fill_statement (Write e) x) ss) ≡ At (Waiting b m) w)
      by (inl k) = let i = inner k t' in (i.0, rw (not_value t e r u k) (rw i.1 refl))
      by (inr k) = absurd (grind (arith, is, k.2))

  do_waits : (t : Store) (e : Expression) → (expression_redex t e ≡ At r u → NowWaits b m expression_redex (fill_expression e x))
      → statement_redex t (Do e) ≡ At r u → OneWaits (Do e)
  do_waits t e inner q ss t' = by (split_last (expression_redex t e) Drop t r u q)
    where
      by : (expression_redex t e ≡ At r u) ⊎ ((v : Value) × (expression_redex t e ≡ Evaluated v) × (Drop v ≡ r) × (t ≡ u))
          → (w : Store) × (statements_redex t' (append (fill_statement (Do e) x) ss) ≡ At (Waiting b m) w)
      by (inl k) = let i = inner k t' in (i.0, rw (not_value t e r u k) (rw i.1 refl))
      by (inr k) = absurd (grind (arith, is, k.2))

  if_waits : (t : Store) (e : Expression) (these those : Statements)
      → (expression_redex t e ≡ At r u → NowWaits b m expression_redex (fill_expression e x))
      → statement_redex t (If e these those) ≡ At r u → OneWaits (If e these those)
  if_waits t e these those inner q ss t' = by (split_last (expression_redex t e) (λ v. Branch v these those) t r u q)
    where
      by : (expression_redex t e ≡ At r u) ⊎ ((v : Value) × (expression_redex t e ≡ Evaluated v) × (Branch v these those ≡ r) × (t ≡ u))
          → (w : Store) × (statements_redex t' (append (fill_statement (If e these those) x) ss) ≡ At (Waiting b m) w)
      by (inl k) = let i = inner k t' in (i.0, rw (not_value t e r u k) (rw i.1 refl))
      by (inr k) = absurd (grind (arith, is, k.2))

  select_waits : (t : Store) (alts : Alternatives) → (guards_redex t alts ≡ At r u → NowWaits b m guards_redex (fill_guards alts x))
      → statement_redex t (Select alts) ≡ At r u → OneWaits (Select alts)
  select_waits t alts inner q ss t' = by (split_last (guards_redex t alts) Choose t r u q)
    where
      by : (guards_redex t alts ≡ At r u) ⊎ ((v : List Choice) × (guards_redex t alts ≡ Evaluated v) × (Choose v ≡ r) × (t ≡ u))
          → (w : Store) × (statements_redex t' (append (fill_statement (Select alts) x) ss) ≡ At (Waiting b m) w)
      by (inl k) = let i = inner k t' in (i.0, rw (not_guards t alts r u k) (rw i.1 refl))
      by (inr k) = absurd (grind (arith, is, k.2))

  async_waits : (t : Store) (e : Expression) (n p : ℕ) (es : Expressions)
      → (expression_redex t e ≡ At r u → NowWaits b m expression_redex (fill_expression e x))
      → (expressions_redex t es ≡ At r u → NowWaits b m expressions_redex (fill_expressions es x))
      → statement_redex t (Async e n p es) ≡ At r u → OneWaits (Async e n p es)
  async_waits t e n p es to rest q ss t' = by (split (expression_redex t e) _ r u q)
    where
      behind : (v : Value) → expression_redex t e ≡ Evaluated v
          → (expressions_redex t es ≡ At r u) ⊎ ((vs : List Value) × (expressions_redex t es ≡ Evaluated vs) × (Post v n vs ≡ r) × (t ≡ u))
          → (w : Store) × (statements_redex t' (append (fill_statement (Async e n p es) x) ss) ≡ At (Waiting b m) w)
      behind v a (inl k) =
          let i = rest k t' in
          let f : is_value e ≡ true = ap is_value (literal_is t e v a).1 in
          (i.0, rw (f, not_values t es r u k) (rw (literal_again t t' e v a, i.1) refl))
      behind v a (inr k) = absurd (grind (arith, is, k.2))

      by : (expression_redex t e ≡ At r u) ⊎ ((v : Value) × (expression_redex t e ≡ Evaluated v) × (and_then {B = Unit {0}} (expressions_redex t es) (λ vs. At (Post v n vs) t) ≡ At r u))
          → (w : Store) × (statements_redex t' (append (fill_statement (Async e n p es) x) ss) ≡ At (Waiting b m) w)
      by (inl k) = let i = to k t' in (i.0, rw (not_value t e r u k) (rw i.1 refl))
      by (inr k) = behind k.0 k.1 (split_last (expressions_redex t es) (λ vs. Post k.0 n vs) t r u k.2)

  serve_waits : (t : Store) (n : ℕ) (c : Option ℕ) (a : Store) (ss : Statements) (e : Expression) (qs : Statements)
      → (statements_redex a ss ≡ At r u → NowWaits b m statements_redex (fill_statements ss x))
      → (expression_redex a e ≡ At r u → NowWaits b m expression_redex (fill_expression e x))
      → (statements_redex a qs ≡ At r u → NowWaits b m statements_redex (fill_statements qs x))
      → statement_redex t (Serve n c a ss e qs) ≡ At r u → OneWaits (Serve n c a ss e qs)
  serve_waits t n c a ss e qs body value post q rest t' = by (in_method c a ss e qs (λ v. Finish c v (left_served c n a ss e qs)) r u q)
    where
      by : InMethod c a ss e qs (λ v. Finish c v (left_served c n a ss e qs)) r u
          → (w : Store) × (statements_redex t' (append (fill_statement (Serve n c a ss e qs) x) rest) ≡ At (Waiting b m) w)
      by (InBody k f) = let i = body k (assigned ss a) in (i.0, rw f (rw i.1 refl))
      by (InValue d k f) = let i = value k a in (i.0, rw (d, f) (rw i.1 refl))
      by (InPost d v k f z p o) = let i = post p (assigned qs a) in (i.0, rw (d, f, o) (rw (literal_again a (assigned qs a) e v k, z, i.1) refl))
      by (AtEnd d v k f o s w) = absurd (grind (arith, is, s))

  mutual
    expression_waits : (t : Store) (e : Expression) → expression_redex t e ≡ At r u → NowWaits b m expression_redex (fill_expression e x)
    expression_waits t (Literal v p) q = absurd (at_is_no_value r u v (sym q))
    expression_waits t (Me p) q = absurd (at_no_request OwnName t r u is refl q)
    expression_waits t (Variable n p) q = absurd (at_no_request (Read n) t r u is refl q)
    expression_waits t (Create c p) q = absurd (at_no_request (Make c) t r u is refl q)
    expression_waits t (Prefix op e p) q = prefix_waits t op e p (expression_waits t e) q
    expression_waits t (Infix op l n p) q = infix_waits t op l n p (expression_waits t l) (expression_waits t n) q
    expression_waits t (Call n es p) q = call_waits t n es p (arguments_wait t es) q
    expression_waits t (Send e n es p) q = send_waits t e n es p (expression_waits t e) (arguments_wait t es) q
    expression_waits t (Frame n a ss e qs) q = frame_waits t n a ss e qs (statements_wait a ss) (expression_waits a e) (statements_wait a qs) q
    expression_waits t (Wait c n) q = absurd (at_no_request (Waiting c n) t r u is refl q)

    arguments_wait : (t : Store) (es : Expressions) → expressions_redex t es ≡ At r u
        → NowWaits b m expressions_redex (fill_expressions es x)
    arguments_wait t NoArgs q = absurd (at_is_no_value r u [] (sym q))
    arguments_wait t (Arg e es) q = argument_waits t e es (expression_waits t e) (arguments_wait t es) q

    statement_waits : (t : Store) (s : Statement) → statement_redex t s ≡ At r u → OneWaits s
    statement_waits t (Assign n p e) q = assign_waits t n p e (expression_waits t e) q
    statement_waits t (Write e) q = write_waits t e (expression_waits t e) q
    statement_waits t (WriteText n) q = absurd (at_no_request (Print (I.Text (record { 0 = n }))) t r u is refl q)
    statement_waits t (Do e) q = do_waits t e (expression_waits t e) q
    statement_waits t (Async e n p es) q = async_waits t e n p es (expression_waits t e) (arguments_wait t es) q
    statement_waits t (If e these those) q = if_waits t e these those (expression_waits t e) q
    statement_waits t (While e ss) q = absurd (at_no_request (Loop e ss) t r u is refl q)
    statement_waits t (Answer names) q = absurd (at_no_request (Accept names) t r u is refl q)
    statement_waits t (Select alts) q = select_waits t alts (alternatives_wait t alts) q
    statement_waits t (Serve n c a ss e qs) q = serve_waits t n c a ss e qs (statements_wait a ss) (expression_waits a e) (statements_wait a qs) q

    pub statements_wait : (t : Store) (ss : Statements) → statements_redex t ss ≡ At r u
        → NowWaits b m statements_redex (fill_statements ss x)
    statements_wait t Done q = absurd (at_is_no_value r u tt (sym q))
    statements_wait t (Then s ss) q = statement_waits t s q ss

    alternatives_wait : (t : Store) (alts : Alternatives) → guards_redex t alts ≡ At r u → NowWaits b m guards_redex (fill_guards alts x)
    alternatives_wait t NoAlts q = absurd (at_is_no_value r u [] (sym q))
    alternatives_wait t (Alt e names ss alts) q = guard_waits t e names ss alts (expression_waits t e) (alternatives_wait t alts) q
