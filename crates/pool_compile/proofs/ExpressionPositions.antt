-- The position in each form of expression, from the positions in its parts.
use Rattle.run_types.specs.declared.frames.Frame.{Frame}
use Rattle.std.proofs.Common.{◌≡◌, refl, sym, ap, ◌∙◌, subst, ℕ, suc, List, [], ◌∷◌, ◌++◌, length, Option, Some, Bool, true, false, ◌⊎◌, inl, inr, arith}
use Rattle.std.specs.Prelude.{if◌then◌else◌}
use Rattle.run_types.specs.declared.types.Op.{Op}
use Rattle.run_types.specs.declared.types.Value.{Value}
use Rattle.run_types.specs.declared.types.Value.TheVariants as V
use Rattle.pool_syntax.specs.Terms as T
use Rattle.pool_syntax.specs.Terms.{Store, Expression, Expressions, Statement, Statements, Alternatives, append}
use Rattle.pool_syntax.specs.Typing.{size}
use Rattle.pool_relation.specs.Reducible as R
use Rattle.pool_relation.specs.Reducible.{Choice, Reducible, Found, Evaluated, At, Contractum, AsExpression, AsStatements, as_expression, as_statements, set_value, assigned, fill_expression, fill_expressions, fill_statement, fill_statements, fill_guards, is_value, are_values, is_done}
use Rattle.pool_relation.proofs.Laws.{not_value, not_values, arguments_are, passed}
use Rattle.code_semantics.specs.declared.unit.Instr.{Instr}
use Rattle.code_semantics.specs.declared.unit.Instr.TheVariants as I
use Rattle.code_semantics.specs.declared.unit.ClassCode.{ClassCode}
use Rattle.code_semantics.specs.Frames.{code_of, next, silent}
use Rattle.pool_compile.specs.Code.{Numbering, name}
use Rattle.pool_compile.specs.StandsFor.{Point, Head, keys, frame_of, level, Ends, pushed, Pushes, Under, UnderAll}
use Rattle.pool_compile.proofs.Focus.{is_inner, after, UnderPart, Spot, Focus, over, redex, idle, within, idle_within}
use Rattle.pool_compile.proofs.PositionBasics.{is_value_of, value_at, Refills, There, AllThere, SeenExpression, SeenAll, Turn, both, first, second, quiet}

-- the part at an expression's redex is an expression
pub put : (k : Option ClassCode) (c : List Instr) (g : Numbering) (base : List Value) (z : Point) (end : ℕ) (inner : Bool) → inner ≡ true
    → (part : Contractum) → UnderPart inner k c g part base z end → (old : Expression) → Under k c g (as_expression part old) base z end
put k c g base z end true i (AsExpression e) q old = q
put k c g base z end true i (AsStatements ss) q old = absurd q
put k c g base z end false i part q old = absurd (grind arith)

-- an expression that is its own redex
pub here : (k : Option ClassCode) (h : Head) (t : Store) (g : Numbering) (base : List Value) (s : Point) (end : ℕ) (e : Expression) (r : Reducible)
    → is_inner r ≡ true → after r t ≡ t → keys t ≡ g.temps → s.above ≡ []
    → ((part : Contractum) → fill_expression e part ≡ as_expression part e) → Spot k [] h t g base s end r t
    → Focus k g.vars (level h t s) r t (Refills h t (λ part. Under k (code_of k h.method) g (fill_expression e part)) base end)
here k h t g base s end e r inner same names empty fills spot = record {
  host = h;
  own = t;
  g = g;
  base = base;
  s = s;
  stop = end;
  over = [];
  rest = [];
  split = ap (λ a. a ++ frame_of h t s ∷ []) empty;
  names = names;
  vars = refl;
  spot = spot;
  rebuild = λ part z q. (
    z,
    ap (λ u. z.above ++ frame_of h u z ∷ []) same,
    subst (λ x. Under k (code_of k h.method) g x base z end) (sym (fills part)) (put k (code_of k h.method) g base z end (is_inner r) inner part q e),
  );
}

-- the instruction after a part that ends here
pub ends_at : (c : List Instr) (i : Instr) (a m end : ℕ) → a ≡ m → Ends c m i end → Ends c a i end
ends_at c i a m end e x = subst (λ n. Ends c n i end) (sym e) x

pub count_values : (t : Store) (es : Expressions) (vs : List Value) → R.expressions_redex t es ≡ Evaluated vs → size es ≡ length vs
count_values t T.NoArgs [] q = refl
count_values t T.NoArgs (v ∷ vs) q = absurd (grind arith)
count_values t (T.Arg e es) vs q =
    let a = passed (R.expression_redex t e) _ vs q in
    let b = passed (R.expressions_redex t es) _ vs a.2 in
    let f : a.0 ∷ b.0 ≡ vs = cc in
    ap suc (count_values t es b.0 b.1) ∙ ap length f

size_if : (b : Bool) (a d : Expressions) (n : ℕ) → size a ≡ n → size d ≡ n → size (if b then a else d) ≡ n
size_if true a d n p q = p
size_if false a d n p q = q

pub size_fill : (es : Expressions) (part : Contractum) → size (fill_expressions es part) ≡ size es
size_fill T.NoArgs part = refl
size_fill (T.Arg e es) part =
    size_if (is_value e) (T.Arg e (fill_expressions es part)) (T.Arg (fill_expression e part) es) _ (ap suc (size_fill es part)) refl

-- what an instruction pushes without a step
pushes : (f : Frame) (i : Instr) (v : Value) → pushed i ≡ Some v → silent f (Some i) ≡ Some (next f (v ∷ f.operands))
pushes f (I.PushInt z) v q = let e : V.Int z ≡ v = grind (arith, q) in ap (λ w. Some (next f (w ∷ f.operands))) e
pushes f (I.PushBool b) v q = let e : V.Bool b ≡ v = grind (arith, q) in ap (λ w. Some (next f (w ∷ f.operands))) e
pushes f I.PushNil v q = let e : V.Nil ≡ v = grind (arith, q) in ap (λ w. Some (next f (w ∷ f.operands))) e
pushes f _ v q = absurd (grind (arith, q))

module _ (k : Option ClassCode) (h : Head) (t : Store) (g : Numbering) (base : List Value) (s : Point) (end : ℕ) (names : keys t ≡ g.temps) where
  abbrev c : List Instr
  c = code_of k h.method

  abbrev leaf : (e : Expression) (r : Reducible) → is_inner r ≡ true → after r t ≡ t → s.above ≡ []
      → ((part : Contractum) → fill_expression e part ≡ as_expression part e) → Spot k [] h t g base s end r t
      → Focus k g.vars (level h t s) r t (Refills h t (λ part. Under k c g (fill_expression e part)) base end)
  leaf e r inner same empty fills spot = here k h t g base s end e r inner same names empty fills spot

  pub me_seen : (p : ℕ) → Under k c g (T.Me p) base s end → SeenExpression k h t g (T.Me p) base s end
  me_seen p u = redex R.OwnName t refl (leaf (T.Me p) R.OwnName refl refl u.0.1 (λ part. refl) (refl, refl, (u.0.0, u.1)))

  pub variable_seen : (x p : ℕ) → Under k c g (T.Variable x p) base s end → SeenExpression k h t g (T.Variable x p) base s end
  variable_seen x p u = redex (R.Read x) t refl (leaf (T.Variable x p) (R.Read x) refl refl u.0.1 (λ part. refl) (refl, refl, (u.0.0, u.1)))

  pub create_seen : (n p : ℕ) → Under k c g (T.Create n p) base s end → SeenExpression k h t g (T.Create n p) base s end
  create_seen n p u = redex (R.Make n) t refl (leaf (T.Create n p) (R.Make n) refl refl u.0.1 (λ part. refl) (refl, refl, (u.0.0, u.1)))

  pub wait_seen : (b m : ℕ) → Under k c g (T.Wait b m) base s end → SeenExpression k h t g (T.Wait b m) base s end
  wait_seen b m u =
      redex (R.Waiting b m) t refl (leaf (T.Wait b m) (R.Waiting b m) refl refl u.1 (λ part. refl) (refl, refl, (u.0, (u.2, u.3))))

  pub prefix_seen : (op : Op) (e : Expression) (p m : ℕ) → Ends c m (I.Oper op) end → SeenExpression k h t g e base s m
      → SeenExpression k h t g (T.Prefix op e p) base s end
  prefix_seen op e p m ends (over v f fin) =
      redex (R.Unary op v) t (rw f refl)
      (leaf (T.Prefix op e p) (R.Unary op v) refl refl fin.1 (λ part. rw (is_value_of e v fin.0) refl)
      (refl, refl, (fin.2, ends_at c (I.Oper op) s.at m end fin.3 ends)))
  prefix_seen op e p m ends (redex r u f x) =
      redex r u (rw f refl) (within k g.vars (level h t s) r u _ _ x (λ fs part z. (z.0, z.1, rw (not_value t e r u f) (m, z.2, ends))))
  prefix_seen op e p m ends (idle x) = idle (idle_within k (level h t s) _ _ x (λ fs z. (z.0, z.1, (m, z.2, ends))))

  pub infix_seen : (op : Op) (l n : Expression) (p m : ℕ) → Ends c m (I.Oper op) end
      → Turn k h t g l (R.expression_redex t n) (Under k c g n) (λ part. Under k c g (fill_expression n part)) (λ b z q. There n b z q) base s m
      → SeenExpression k h t g (T.Infix op l n p) base s end
  infix_seen op l n p m ends (both v w is f fin) =
      redex (R.Binary op v w) t (rw (value_at t l v is, f) refl)
      (leaf (T.Infix op l n p) (R.Binary op v w) refl refl fin.1 (λ part. rw (is_value_of l v is, is_value_of n w fin.0) refl)
      (refl, refl, (fin.2, ends_at c (I.Oper op) s.at m end fin.3 ends)))
  infix_seen op l n p m ends (first r u f x) =
      redex r u (rw f refl) (within k g.vars (level h t s) r u _ _ x (λ fs part z. (z.0, z.1, rw (not_value t l r u f) (m, z.2, ends))))
  infix_seen op l n p m ends (second v r u is f x) =
      redex r u (rw (value_at t l v is, f) refl)
      (within k g.vars (level h t s) r u _ _ x (λ fs part z. (z.0, z.1, rw (is_value_of l v is, not_value t n r u f) (m, z.2, ends))))
  infix_seen op l n p m ends (quiet x) = idle (idle_within k (level h t s) _ _ x (λ fs z. (z.0, z.1, (m, z.2, ends))))

  pub call_seen : (n : ℕ) (es : Expressions) (p m : ℕ) → Ends c m (I.Call (name n)) end → SeenAll k h t g es base s m
      → SeenExpression k h t g (T.Call n es p) base s end
  call_seen n es p m ends (over vs f fin) =
      redex (R.Invoke n vs) t (rw f refl)
      (leaf (T.Call n es p) (R.Invoke n vs) refl refl fin.0 (λ part. rw (arguments_are t es vs f) refl)
      (refl, refl, (fin.1, ends_at c (I.Call (name n)) s.at m end fin.2 ends)))
  call_seen n es p m ends (redex r u f x) =
      redex r u (rw f refl) (within k g.vars (level h t s) r u _ _ x (λ fs part z. (z.0, z.1, rw (not_values t es r u f) (m, z.2, ends))))
  call_seen n es p m ends (idle x) = idle (idle_within k (level h t s) _ _ x (λ fs z. (z.0, z.1, (m, z.2, ends))))

  pub send_seen : (e : Expression) (n : ℕ) (es : Expressions) (p m : ℕ) → Ends c m (I.Send (name n) (size es)) end
      → Turn k h t g e (R.expressions_redex t es) (UnderAll k c g es) (λ part. UnderAll k c g (fill_expressions es part)) (λ b z q. AllThere b z q) base s m
      → SeenExpression k h t g (T.Send e n es p) base s end
  send_seen e n es p m ends (both v vs is f fin) =
      let counted : Ends c m (I.Send (name n) (length vs)) end = subst (λ j. Ends c m (I.Send (name n) j) end) (count_values t es vs f) ends in
      redex (R.SynchronousSend v n vs) t (rw (value_at t e v is, f) refl)
      (leaf (T.Send e n es p) (R.SynchronousSend v n vs) refl refl fin.0 (λ part. rw (is_value_of e v is, arguments_are t es vs f) refl)
      (refl, refl, (fin.1, ends_at c (I.Send (name n) (length vs)) s.at m end fin.2 counted)))
  send_seen e n es p m ends (first r u f x) =
      redex r u (rw f refl) (within k g.vars (level h t s) r u _ _ x (λ fs part z. (z.0, z.1, rw (not_value t e r u f) (m, z.2, ends))))
  send_seen e n es p m ends (second v r u is f x) =
      redex r u (rw (value_at t e v is, f) refl)
      (within k g.vars (level h t s) r u _ _ x (λ fs part z. (
        z.0,
        z.1,
        rw (is_value_of e v is, not_values t es r u f)
            (m, z.2, subst (λ j. Ends c m (I.Send (name n) j) end) (sym (size_fill es part)) ends),
      )))
  send_seen e n es p m ends (quiet x) = idle (idle_within k (level h t s) _ _ x (λ fs z. (z.0, z.1, (m, z.2, ends))))

  pub literal_seen : (v : Value) (p : ℕ) → Under k c g (T.Literal v p) base s end → SeenExpression k h t g (T.Literal v p) base s end
  literal_seen v p u = by u.1
    where
      by : ((s.operands ≡ base) × Pushes c s.at v × (end ≡ suc s.at)) ⊎ ((s.operands ≡ v ∷ base) × (s.at ≡ end))
          → SeenExpression k h t g (T.Literal v p) base s end
      by (inr w) = over v refl (refl, u.0, w.0, w.1)
      by (inl w) = idle (record {
        f = frame_of h t s;
        g = next (frame_of h t s) (v ∷ s.operands);
        rest = [];
        split = ap (λ a. a ++ frame_of h t s ∷ []) u.0;
        quiet = ap (silent (frame_of h t s)) w.1.1 ∙ pushes (frame_of h t s) w.1.0 v w.1.2;
        kept = (record { at = suc s.at; operands = v ∷ s.operands; above = [] }, refl, (refl, inr (ap (λ vs. v ∷ vs) w.0, sym w.2)));
      })

  pub arg_seen : (e : Expression) (es : Expressions)
      → Turn k h t g e (R.expressions_redex t es) (UnderAll k c g es) (λ part. UnderAll k c g (fill_expressions es part)) (λ b z q. AllThere b z q) base s end
      → SeenAll k h t g (T.Arg e es) base s end
  arg_seen e es (both v vs is f fin) = over (v ∷ vs) (rw (value_at t e v is, f) refl) fin
  arg_seen e es (first r u f x) =
      redex r u (rw f refl) (within k g.vars (level h t s) r u _ _ x (λ fs part z. (z.0, z.1, rw (not_value t e r u f) z.2)))
  arg_seen e es (second v r u is f x) =
      redex r u (rw (value_at t e v is, f) refl)
      (within k g.vars (level h t s) r u _ _ x (λ fs part z. (z.0, z.1, rw (is_value_of e v is) z.2)))
  arg_seen e es (quiet x) = idle (idle_within k (level h t s) _ _ x (λ fs z. z))

  pub no_args_seen : UnderAll k c g T.NoArgs base s end → SeenAll k h t g T.NoArgs base s end
  no_args_seen u = over [] refl (u.0.1, u.0.0, u.1)
