-- The position in each form of statement, from the positions in its parts.
use Rattle.run_types.specs.declared.frames.Frame.{Frame}
use Rattle.run_types.specs.declared.types.Serves.TheVariants as S
use Rattle.std.proofs.Common.{◌≡◌, refl, sym, ap, ◌∙◌, subst, ℕ, zero, suc, ◌+◌, List, [], ◌∷◌, ◌++◌, length, Option, Some, Bool, true, false, inl, inr, arith, None, is_some, IsTrue}
use Rattle.std.specs.Prelude.{slice_get, if◌then◌else◌}
use Rattle.run_types.specs.declared.types.Value.{Value}
use Rattle.run_types.specs.declared.types.Item.TheVariants as Item
use Rattle.pool_syntax.specs.declared.tree.Named.{Named}
use Rattle.pool_syntax.specs.Terms as T
use Rattle.pool_syntax.specs.Terms.{Store, Expression, Expressions, Statement, Statements, Alternatives, append}
use Rattle.pool_syntax.specs.Typing.{size}
use Rattle.pool_relation.specs.Reducible as R
use Rattle.pool_relation.specs.Reducible.{Choice, Reducible, Found, Evaluated, At, and_then, Contractum, AsExpression, AsStatements, as_expression, as_statements, set_value, assigned, fill_expression, fill_expressions, fill_statement, fill_statements, fill_guards, is_value, are_values, is_done, left_served}
use Rattle.pool_relation.proofs.Laws.{not_value, not_values, not_done, not_guards, arguments_are, guards_are, passed}
use Rattle.code_semantics.specs.declared.unit.Instr.{Instr}
use Rattle.code_semantics.specs.declared.unit.Instr.TheVariants as I
use Rattle.code_semantics.specs.declared.unit.AltCode.{AltCode}
use Rattle.code_semantics.specs.declared.unit.ClassCode.{ClassCode}
use Rattle.code_semantics.specs.Frames.{code_of, silent, next}
use Rattle.pool_compile.specs.Code.{Numbering, name, store}
use Rattle.pool_compile.specs.StandsFor.{Point, Head, keys, frame_of, level, fresh, Fresh, Jumps, Led, Ends, as_value, IsOf, IsServing, Held, UnderAll, UnderStatement, UnderStatements, UnderGuards, Works, values}
use Rattle.pool_compile.proofs.Focus.{is_inner, after, UnderPart, Lists, guards_of, Spot, Focus, Idle, Sight, over, redex, idle, within, beneath, idle_within, idle_beneath}
use Rattle.pool_compile.proofs.PositionBasics.{is_value_of, value_at, Refills, Keeps, AllThere, SeenExpression, Turn, both, first, second, quiet}
use Rattle.pool_compile.proofs.ExpressionPositions.{ends_at, count_values, size_fill}
use Rattle.pool_compile.proofs.MethodPositions.{assigned_keys, done_has_none, Rewrites, SeenStatements, Method, ended, body, value, waits, returning, post, Posts, true_done}

-- the part at a statement's redex is a list of statements
put_statements : (k : Option ClassCode) (c : List Instr) (g : Numbering) (base : List Value) (z : Point) (end : ℕ) (inner : Bool) → inner ≡ false
    → (part : Contractum) → UnderPart inner k c g part base z end → (old : Statement) → UnderStatements k c g (as_statements part old) base z end
put_statements k c g base z end false i (AsStatements ss) q old = q
put_statements k c g base z end false i (AsExpression e) q old = absurd q
put_statements k c g base z end true i part q old = absurd (grind arith)

assigned_value : (x p : ℕ) (e : Expression) (ss : Statements) (t : Store) (v : Value) → as_value e ≡ Some v
    → set_value t x v ≡ assigned (T.Then (T.Assign x p e) ss) t
assigned_value x p (T.Literal w q) ss t v h = let f : v ≡ w = grind (arith, h) in ap (set_value t x) f
assigned_value x p _ ss t v h = absurd (grind (arith, h))

assigned_other : (x p : ℕ) (e : Expression) (ss : Statements) (t : Store) → is_value e ≡ false → t ≡ assigned (T.Then (T.Assign x p e) ss) t
assigned_other x p (T.Literal w q) ss t h = absurd (grind (arith, h))
assigned_other x p _ ss t h = refl

-- where no post statement is left, or a caller is served, none comes next
over_none : (w : Option ℕ) (t : Store) (qs : Statements) → is_done qs ≡ true → R.in_post w (R.statements_redex t qs) ≡ Evaluated tt
over_none None t qs d = done_has_none t qs d
over_none (Some c) t qs d = refl

over_some : (w : Option ℕ) (t : Store) (qs : Statements) → IsTrue (is_some w) → R.in_post w (R.statements_redex t qs) ≡ Evaluated tt
over_some None t qs i = absurd (grind (arith, i))
over_some (Some c) t qs i = refl

over_done : (w : Option ℕ) (qs : Statements) → is_done qs ≡ true → R.is_over w qs ≡ true
over_done None qs d = d
over_done (Some c) qs d = refl

some_over : (w : Option ℕ) (qs : Statements) → IsTrue (is_some w) → R.is_over w qs ≡ true
some_over None qs i = absurd (grind (arith, i))
some_over (Some c) qs i = refl

not_over : (w : Option ℕ) (t : Store) (qs : Statements) (r : Reducible) (u : Store) → w ≡ None → R.statements_redex t qs ≡ At r u → R.is_over w qs ≡ false
not_over w t qs r u n f = rw (n, not_done t qs r u f) refl

left_none : (w : Option ℕ) (m : ℕ) (t : Store) (ss : Statements) (e : Expression) (qs : Statements) → is_done qs ≡ true → left_served w m t ss e qs ≡ T.Done
left_none None m t ss e qs d = refl
left_none (Some c) m t ss e T.Done d = refl
left_none (Some c) m t ss e (T.Then s qs) d = absurd (grind (arith, d))

left_some : (w : Option ℕ) (m : ℕ) (t : Store) (ss : Statements) (e : Expression) (qs : Statements) → IsTrue (is_some w) → is_done qs ≡ false
    → left_served w m t ss e qs ≡ T.Then (T.Serve m None t ss e qs) T.Done
left_some None m t ss e qs i d = absurd (grind (arith, i))
left_some (Some c) m t ss e T.Done i d = absurd (grind (arith, d))
left_some (Some c) m t ss e (T.Then s qs) i d = refl

module _ (k : Option ClassCode) where
  -- a statement in front of others
  abbrev pub SeenStatement : Head → Store → Numbering → Statement → Statements → List Value → Point → ℕ → Type 0
  SeenStatement h t g st ss base s end =
      Sight k g.vars (level h t s) (R.statement_redex t st) (λ u. ⊥)
      (Rewrites h t (T.Then st ss) (λ part. UnderStatements k (code_of k h.method) g (fill_statement st part)) base end)
      (Keeps h t (UnderStatement k (code_of k h.method) g st) base end)

  abbrev pub SeenGuards : Head → Store → Numbering → Alternatives → List Value → Point → ℕ → Type 0
  SeenGuards h t g alts base s end =
      Sight k g.vars (level h t s) (R.guards_redex t alts) (λ cs. AllThere base s end (guards_of cs))
      (Refills h t (λ part. UnderGuards k (code_of k h.method) g (fill_guards alts part)) base end)
      (Keeps h t (UnderGuards k (code_of k h.method) g alts) base end)

  -- the lists of a select whose guards are values
  lists_of : (c : List Instr) (g : Numbering) (t : Store) (alts : Alternatives) (cs : List Choice) (base : List Value) (targets : List AltCode) (end : ℕ)
      → R.guards_redex t alts ≡ Evaluated cs → Works k c g alts base targets end → Lists k c g cs base targets end
  lists_of c g t T.NoAlts [] base [] end q w = tt
  lists_of c g t T.NoAlts (x ∷ cs) base targets end q w = absurd (grind arith)
  lists_of c g t T.NoAlts [] base (a ∷ targets) end q w = absurd w
  lists_of c g t (T.Alt e names ss alts) cs base [] end q w = absurd w
  lists_of c g t (T.Alt e names ss alts) cs base (a ∷ targets) end q w =
      let i = passed (R.expression_redex t e) _ cs q in
      let j = passed (R.guards_redex t alts) _ cs i.2 in
      let x : Choice = record { guard = i.0; answer = names; work = ss } in
      let f : x ∷ j.0 ≡ cs = cc in
      subst (λ l. Lists k c g l base (a ∷ targets) end) f (w.0, w.1, lists_of c g t alts j.0 base targets end j.1 w.2)

  works_if : (c : List Instr) (g : Numbering) (b : Bool) (x y : Alternatives) (base : List Value) (targets : List AltCode) (end : ℕ)
      → Works k c g x base targets end → Works k c g y base targets end → Works k c g (if b then x else y) base targets end
  works_if c g true x y base targets end p q = p
  works_if c g false x y base targets end p q = q

  works_fill : (c : List Instr) (g : Numbering) (alts : Alternatives) (part : Contractum) (base : List Value) (targets : List AltCode) (end : ℕ)
      → Works k c g alts base targets end → Works k c g (fill_guards alts part) base targets end
  works_fill c g T.NoAlts part base targets end w = w
  works_fill c g (T.Alt e names ss alts) part base [] end w = absurd w
  works_fill c g (T.Alt e names ss alts) part base (a ∷ targets) end w =
      works_if c g (is_value e) (T.Alt e names ss (fill_guards alts part)) (T.Alt (fill_expression e part) names ss alts) base (a ∷ targets) end
      (w.0, w.1, works_fill c g alts part base targets end w.2) w

  -- one statement as a list
  pub one : (c : List Instr) (g : Numbering) (st : Statement) (base : List Value) (z : Point) (end : ℕ)
      → UnderStatement k c g st base z end → UnderStatements k c g (T.Then st T.Done) base z end
  one c g st base z end u = (end, inl u, ((refl, refl), (0, refl)))

  module _ (h : Head) (t : Store) (g : Numbering) (ss : Statements) (base : List Value) (s : Point) (end : ℕ) (names : keys t ≡ g.temps) where
    abbrev c : List Instr
    c = code_of k h.method

    abbrev Target : Statement → List Frame → Contractum → Type 0
    Target st = Rewrites h t (T.Then st ss) (λ part. UnderStatements k c g (fill_statement st part)) base end

    abbrev Same : Statement → List Frame → Type 0
    Same st = Keeps h t (UnderStatement k c g st) base end

    -- a statement that is its own redex
    leaf : (st : Statement) (r : Reducible) → is_inner r ≡ false → after r t ≡ assigned (T.Then st ss) t → s.above ≡ []
        → ((part : Contractum) → fill_statement st part ≡ as_statements part st) → Spot k [] h t g base s end r t
        → Focus k g.vars (level h t s) r t (Target st)
    leaf st r inner same empty fills spot = record {
      host = h;
      own = t;
      g = g;
      base = base;
      s = s;
      stop = end;
      over = [];
      rest = [];
      split = ap (λ a. a ++ frame_of h t s ∷ []) empty;
      names = names;
      vars = refl;
      spot = spot;
      rebuild = λ part z q. (
        z,
        ap (λ u. z.above ++ frame_of h u z ∷ []) same,
        subst (λ x. UnderStatements k c g x base z end) (sym (fills part)) (put_statements k c g base z end (is_inner r) inner part q st),
      );
    }

    pub assign_seen : (x p : ℕ) (e : Expression) (m : ℕ) → Ends c m (store g x) end → SeenExpression k h t g e base s m
        → SeenStatement h t g (T.Assign x p e) ss base s end
    assign_seen x p e m ends (over v f fin) =
        redex (R.Set x v) t (rw f refl)
        (leaf (T.Assign x p e) (R.Set x v) refl (assigned_value x p e ss t v fin.0) fin.1 (λ part. rw (is_value_of e v fin.0) refl)
        (refl, refl, (fin.2, ends_at c (store g x) s.at m end fin.3 ends)))
    assign_seen x p e m ends (redex r u f x') =
        redex r u (rw f refl) (within k g.vars (level h t s) r u _ (Target (T.Assign x p e)) x'
        (λ fs part z. (
          z.0,
          z.1 ∙ ap (λ w. level h w z.0) (assigned_other x p e ss t (not_value t e r u f)),
          rw (not_value t e r u f) (one c g (T.Assign x p (fill_expression e part)) base z.0 end (m, z.2, ends)),
        )))
    assign_seen x p e m ends (idle x') = idle (idle_within k (level h t s) _ (Same (T.Assign x p e)) x' (λ fs z. (z.0, z.1, (m, z.2, ends))))

    pub write_seen : (e : Expression) (m : ℕ) → Ends c m I.Write end → SeenExpression k h t g e base s m
        → SeenStatement h t g (T.Write e) ss base s end
    write_seen e m ends (over v f fin) =
        redex (R.Print (Item.Value v)) t (rw f refl)
        (leaf (T.Write e) (R.Print (Item.Value v)) refl refl fin.1 (λ part. rw (is_value_of e v fin.0) refl)
        (refl, refl, (fin.2, ends_at c I.Write s.at m end fin.3 ends)))
    write_seen e m ends (redex r u f x) =
        redex r u (rw f refl) (within k g.vars (level h t s) r u _ (Target (T.Write e)) x
        (λ fs part z. (z.0, z.1, rw (not_value t e r u f) (one c g (T.Write (fill_expression e part)) base z.0 end (m, z.2, ends)))))
    write_seen e m ends (idle x) = idle (idle_within k (level h t s) _ (Same (T.Write e)) x (λ fs z. (z.0, z.1, (m, z.2, ends))))

    pub text_seen : (n : ℕ) → UnderStatement k c g (T.WriteText n) base s end → SeenStatement h t g (T.WriteText n) ss base s end
    text_seen n u =
        redex (R.Print (Item.Text (name n))) t refl
        (leaf (T.WriteText n) (R.Print (Item.Text (name n))) refl refl u.0.1 (λ part. refl) (refl, refl, (u.0.0, u.1)))

    pub do_seen : (e : Expression) (m : ℕ) → Ends c m I.Pop end → SeenExpression k h t g e base s m
        → SeenStatement h t g (T.Do e) ss base s end
    do_seen e m ends (over v f fin) =
        redex (R.Drop v) t (rw f refl)
        (leaf (T.Do e) (R.Drop v) refl refl fin.1 (λ part. rw (is_value_of e v fin.0) refl)
        (refl, refl, (fin.2, ends_at c I.Pop s.at m end fin.3 ends)))
    do_seen e m ends (redex r u f x) =
        redex r u (rw f refl) (within k g.vars (level h t s) r u _ (Target (T.Do e)) x
        (λ fs part z. (z.0, z.1, rw (not_value t e r u f) (one c g (T.Do (fill_expression e part)) base z.0 end (m, z.2, ends)))))
    do_seen e m ends (idle x) = idle (idle_within k (level h t s) _ (Same (T.Do e)) x (λ fs z. (z.0, z.1, (m, z.2, ends))))

    pub async_seen : (e : Expression) (n p : ℕ) (es : Expressions) (m : ℕ) → Ends c m (I.Async (name n) (size es)) end
        → Turn k h t g e (R.expressions_redex t es) (UnderAll k c g es) (λ part. UnderAll k c g (fill_expressions es part)) (λ b z q. AllThere b z q) base s m
        → SeenStatement h t g (T.Async e n p es) ss base s end
    async_seen e n p es m ends (both v vs is f fin) =
        let counted : Ends c m (I.Async (name n) (length vs)) end = subst (λ j. Ends c m (I.Async (name n) j) end) (count_values t es vs f) ends in
        redex (R.Post v n vs) t (rw (value_at t e v is, f) refl)
        (leaf (T.Async e n p es) (R.Post v n vs) refl refl fin.0 (λ part. rw (is_value_of e v is, arguments_are t es vs f) refl)
        (refl, refl, (fin.1, ends_at c (I.Async (name n) (length vs)) s.at m end fin.2 counted)))
    async_seen e n p es m ends (first r u f x) =
        redex r u (rw f refl) (within k g.vars (level h t s) r u _ (Target (T.Async e n p es)) x
        (λ fs part z. (z.0, z.1, rw (not_value t e r u f) (one c g (T.Async (fill_expression e part) n p es) base z.0 end (m, z.2, ends)))))
    async_seen e n p es m ends (second v r u is f x) =
        redex r u (rw (value_at t e v is, f) refl)
        (within k g.vars (level h t s) r u _ (Target (T.Async e n p es)) x
        (λ fs part z. (
          z.0,
          z.1,
          rw (is_value_of e v is, not_values t es r u f)
              (one c g (T.Async e n p (fill_expressions es part)) base z.0 end
              (m, z.2, subst (λ j. Ends c m (I.Async (name n) j) end) (sym (size_fill es part)) ends)),
        )))
    async_seen e n p es m ends (quiet x) = idle (idle_within k (level h t s) _ (Same (T.Async e n p es)) x (λ fs z. (z.0, z.1, (m, z.2, ends))))

    pub if_seen : (e : Expression) (these those : Statements) (m other : ℕ) → slice_get c m ≡ Some (I.Branch other)
        → UnderStatements k c g these base (fresh (suc m) base) end → UnderStatements k c g those base (fresh other base) end
        → SeenExpression k h t g e base s m → SeenStatement h t g (T.If e these those) ss base s end
    if_seen e these those m other is a b (over v f fin) =
        redex (R.Branch v these those) t (rw f refl)
        (leaf (T.If e these those) (R.Branch v these those) refl refl fin.1 (λ part. rw (is_value_of e v fin.0) refl) (
          refl,
          refl,
          (
            other,
            (fin.2, (ap (slice_get c) fin.3 ∙ is, refl)),
            subst (λ n. UnderStatements k c g these base (fresh (suc n) base) end) (sym fin.3) a,
            b,
          ),
        ))
    if_seen e these those m other is a b (redex r u f x) =
        redex r u (rw f refl) (within k g.vars (level h t s) r u _ (Target (T.If e these those)) x
        (λ fs part z. (
          z.0,
          z.1,
          rw (not_value t e r u f)
              (one c g (T.If (fill_expression e part) these those) base z.0 end (m, other, z.2, is, a, b)),
        )))
    if_seen e these those m other is a b (idle x) =
        idle (idle_within k (level h t s) _ (Same (T.If e these those)) x (λ fs z. (z.0, z.1, (m, other, z.2, is, a, b))))

    pub while_seen : (e : Expression) (work : Statements) → UnderStatement k c g (T.While e work) base s end
        → SeenStatement h t g (T.While e work) ss base s end
    while_seen e work u =
        redex (R.Loop e work) t refl
        (leaf (T.While e work) (R.Loop e work) refl refl u.1.1 (λ part. refl)
        (refl, refl, ((u.1.0, (u.2, refl)), (u.0, (refl, refl), u.2, u.3, u.4, u.5))))

    pub answer_seen : (ns : List Named) → UnderStatement k c g (T.Answer ns) base s end → SeenStatement h t g (T.Answer ns) ss base s end
    answer_seen ns u =
        redex (R.Accept ns) t refl (leaf (T.Answer ns) (R.Accept ns) refl refl u.0.1 (λ part. refl) (refl, refl, (u.0.0, u.1)))

    -- after the return the frame goes on, for no one
    goes_on : (m : ℕ) (w : Option ℕ) (v : Store) (work : Statements) (e : Expression) (qs : Statements) (hd : Head) (a : Point) (ns : List ℕ) (x : Value)
        → Held base s end → IsOf k hd m → keys v ≡ ns → is_done work ≡ true → as_value e ≡ Some x → is_done qs ≡ false → IsTrue (is_some w) → a.operands ≡ x ∷ []
        → Posts k hd (record g { temps = ns }) qs x (fresh (suc a.at) (x ∷ []))
        → UnderStatements k c g (left_served w m v work e qs) base (record s { above = next (record (frame_of hd v a) { serves = S.Sender }) (frame_of hd v a).operands ∷ [] }) end
    goes_on m w v work e qs hd a ns x held of ks done is more some ops rest =
        let hd' : Head = record { method = hd.method; serves = S.Sender } in
        let z : Point = fresh (suc a.at) (x ∷ []) in
        let top : Frame = next (record (frame_of hd v a) { serves = S.Sender }) (frame_of hd v a).operands in
        let same : top ∷ [] ≡ level hd' v z = λ i. record { method = hd.method; at = suc a.at; temps = values v; operands = ops i; serves = S.Sender } ∷ [] in
        let s' : Point = record s { above = top ∷ [] } in
        let st : UnderStatement k c g (T.Serve m None v work e qs) base s' end =
        (held, (hd', z, ns, same, (of.0, of.1, of.2), refl, ks, inr (x, true_done work done, is, refl, rest))) in
        subst (λ l. UnderStatements k c g l base s' end) (sym (left_some w m v work e qs some more)) (one c g (T.Serve m None v work e qs) base s' end st)

    pub serve_seen : (m : ℕ) (w : Option ℕ) (v : Store) (work : Statements) (e : Expression) (qs : Statements) (hd : Head) (a : Point) (ns : List ℕ)
        → Held base s end → s.above ≡ level hd v a → IsOf k hd m → IsServing w hd.serves → keys v ≡ ns
        → Method k w hd v (record g { temps = ns }) work e qs a → SeenStatement h t g (T.Serve m w v work e qs) ss base s end
    serve_seen m w v work e qs hd a ns held above of serves ks (ended x done is last empty ops ret) =
        redex (R.Finish w x (left_served w m v work e qs)) v (rw (done_has_none v work done, value_at v e x is, over_none w v qs last) refl)
        (record {
          host = h;
          own = t;
          g = g;
          base = base;
          s = s;
          stop = end;
          over = frame_of hd v a ∷ [];
          rest = [];
          split = ap (λ l. l ++ frame_of h t s ∷ []) (above ∙ ap (λ l. l ++ frame_of hd v a ∷ []) empty);
          names = names;
          vars = refl;
          spot = inl ((frame_of hd v a, refl, serves, ops, ret, held.0, held.1), left_none w m v work e qs last);
          rebuild = λ part z q.
              (z, refl, rw (done, is_value_of e x is, over_done w qs last) (put_statements k c g base z end false refl part q (T.Serve m w v work e qs)));
        })
    serve_seen m w v work e qs hd a ns held above of serves ks (returning x done is more some empty ops ins rest) =
        redex (R.Finish w x (left_served w m v work e qs)) v (rw (done_has_none v work done, value_at v e x is, over_some w v qs some) refl)
        (record {
          host = h;
          own = t;
          g = g;
          base = base;
          s = s;
          stop = end;
          over = frame_of hd v a ∷ [];
          rest = [];
          split = ap (λ l. l ++ frame_of h t s ∷ []) (above ∙ ap (λ l. l ++ frame_of hd v a ∷ []) empty);
          names = names;
          vars = refl;
          spot = inr (frame_of hd v a, refl, serves, some, ops, ins, goes_on m w v work e qs hd a ns x held of ks done is more some ops rest);
          rebuild = λ part z q.
              (z, refl, rw (done, is_value_of e x is, some_over w qs some) (put_statements k c g base z end false refl part q (T.Serve m w v work e qs)));
        })
    serve_seen m w v work e qs hd a ns held above of serves ks (body r u f x) =
        redex r u (rw f refl) (subst (λ l. Focus k g.vars (l ++ frame_of h t s ∷ []) r u (Target (T.Serve m w v work e qs))) (sym above)
        (beneath k g.vars (level hd v a) r u _ (Target (T.Serve m w v work e qs)) (frame_of h t s) x
        (λ fs part z. (
          record { at = s.at; operands = s.operands; above = fs },
          refl,
          rw (not_done v work r u f)
              (one c g (T.Serve m w (assigned work v) (fill_statements work part) e qs) base (record { at = s.at; operands = s.operands; above = fs }) end
              (held, (hd, z.0, ns, z.1, of, serves, assigned_keys work v ∙ ks, z.2))),
        ))))
    serve_seen m w v work e qs hd a ns held above of serves ks (value r u done f x) =
        redex r u (rw (done_has_none v work done, f) refl) (subst (λ l. Focus k g.vars (l ++ frame_of h t s ∷ []) r u (Target (T.Serve m w v work e qs))) (sym above)
        (beneath k g.vars (level hd v a) r u _ (Target (T.Serve m w v work e qs)) (frame_of h t s) x
        (λ fs part z. (
          record { at = s.at; operands = s.operands; above = fs },
          refl,
          rw (done, not_value v e r u f)
              (one c g (T.Serve m w v work (fill_expression e part) qs) base (record { at = s.at; operands = s.operands; above = fs }) end
              (held, (hd, z.0, ns, z.1, of, serves, ks, z.2))),
        ))))
    serve_seen m w v work e qs hd a ns held above of serves ks (post r u x done is n f y) =
        redex r u (rw (done_has_none v work done, value_at v e x is, n, f) refl) (subst (λ l. Focus k g.vars (l ++ frame_of h t s ∷ []) r u (Target (T.Serve m w v work e qs))) (sym above)
        (beneath k g.vars (level hd v a) r u _ (Target (T.Serve m w v work e qs)) (frame_of h t s) y
        (λ fs part z. (
          record { at = s.at; operands = s.operands; above = fs },
          refl,
          rw (done, is_value_of e x is, not_over w v qs r u n f)
              (one c g (T.Serve m w (assigned qs v) work e (fill_statements qs part)) base (record { at = s.at; operands = s.operands; above = fs }) end
              (held, (hd, z.0, ns, z.1, of, serves, assigned_keys qs v ∙ ks, z.2))),
        ))))
    serve_seen m w v work e qs hd a ns held above of serves ks (waits x) =
        idle (subst (λ l. Idle k (l ++ frame_of h t s ∷ []) (Same (T.Serve m w v work e qs))) (sym above)
        (idle_beneath k (level hd v a) _ (Same (T.Serve m w v work e qs)) (frame_of h t s) x
        (λ fs z. (record { at = s.at; operands = s.operands; above = fs }, refl, (held, (hd, z.0, ns, z.1, of, serves, ks, z.2))))))

    -- what follows a list of statements
    pub select_seen : (alts : Alternatives) (m : ℕ) (targets : List AltCode) → slice_get c m ≡ Some (I.Select targets) → Works k c g alts base targets end
        → SeenGuards h t g alts base s m → SeenStatement h t g (T.Select alts) ss base s end
    select_seen alts m targets is w (over cs f fin) =
        redex (R.Choose cs) t (rw f refl)
        (leaf (T.Select alts) (R.Choose cs) refl refl fin.0 (λ part. rw (guards_are t alts cs f) refl)
        (refl, refl, (targets, (fin.1, (ap (slice_get c) fin.2 ∙ is, refl)), lists_of c g t alts cs base targets end f w)))
    select_seen alts m targets is w (redex r u f x) =
        redex r u (rw f refl) (within k g.vars (level h t s) r u _ (Target (T.Select alts)) x
        (λ fs part z. (
          z.0,
          z.1,
          rw (not_guards t alts r u f)
              (one c g (T.Select (fill_guards alts part)) base z.0 end (m, targets, z.2, is, works_fill c g alts part base targets end w)),
        )))
    select_seen alts m targets is w (idle x) =
        idle (idle_within k (level h t s) _ (Same (T.Select alts)) x (λ fs z. (z.0, z.1, (m, targets, z.2, is, w))))

    pub guard_seen : (e : Expression) (ns : Option (List Named)) (work : Statements) (alts : Alternatives)
        → Turn k h t g e (R.guards_redex t alts) (UnderGuards k c g alts) (λ part. UnderGuards k c g (fill_guards alts part)) (λ b z q cs. AllThere b z q (guards_of cs)) base s end
        → SeenGuards h t g (T.Alt e ns work alts) base s end
    guard_seen e ns work alts (both v cs is f fin) =
        over (record { guard = v; answer = ns; work = work } ∷ cs) (rw (value_at t e v is, f) refl) fin
    guard_seen e ns work alts (first r u f x) =
        redex r u (rw f refl) (within k g.vars (level h t s) r u _ _ x (λ fs part z. (z.0, z.1, rw (not_value t e r u f) z.2)))
    guard_seen e ns work alts (second v r u is f x) =
        redex r u (rw (value_at t e v is, f) refl) (within k g.vars (level h t s) r u _ _ x (λ fs part z. (z.0, z.1, rw (is_value_of e v is) z.2)))
    guard_seen e ns work alts (quiet x) = idle (idle_within k (level h t s) _ _ x (λ fs z. z))

    pub no_guards_seen : UnderGuards k c g T.NoAlts base s end → SeenGuards h t g T.NoAlts base s end
    no_guards_seen u = over [] refl (u.0.1, u.0.0, u.1)

  -- a list of statements

  jumps_append : (c : List Instr) (n i a b d : ℕ) → Jumps c n a b → Jumps c i b d → Jumps c (n + i) a d
  jumps_append c zero i a b d j l = subst (λ q. Jumps c q a d) (let q : i ≡ zero + i = omega arith in q) (subst (λ q. Jumps c i q d) (sym j) l)
  jumps_append c (suc n) i a b d j l =
      subst (λ q. Jumps c q a d) (let q : suc (n + i) ≡ suc n + i = omega arith in q) (j.0, j.1, jumps_append c n i j.0 b d j.2 l)

  -- jumps in front of a list
  after_jumps : (c : List Instr) (g : Numbering) (ss : Statements) (base : List Value) (z : Point) (n m end : ℕ) → Fresh base z → Jumps c n z.at m
      → UnderStatements k c g ss base (fresh m base) end → UnderStatements k c g ss base z end
  after_jumps c g T.Done base z n m end f j u = (f, (n + u.1.0, jumps_append c n u.1.0 z.at m end j u.1.1))
  after_jumps c g (T.Then st ss) base z n m end f j u = (u.0, by u.1, u.2)
    where
      by : Led c (UnderStatement k c g st) base (fresh m base) u.0 → Led c (UnderStatement k c g st) base z u.0
      by (inl w) = inr (f, (n, m, j, w))
      by (inr w) = inr (f, (n + w.1.0, w.1.1, jumps_append c n w.1.0 z.at m w.1.1 j w.1.2, w.1.3))

  pub under_append : (c : List Instr) (g : Numbering) (a b : Statements) (base : List Value) (z : Point) (m end : ℕ)
      → UnderStatements k c g a base z m → UnderStatements k c g b base (fresh m base) end → UnderStatements k c g (append a b) base z end
  under_append c g T.Done b base z m end u w = after_jumps c g b base z u.1.0 m end u.0 u.1.1 w
  under_append c g (T.Then st ss) b base z m end u w = (u.0, u.1, under_append c g ss b base (fresh u.0 base) m end u.2 w)

  module _ (h : Head) (t : Store) (g : Numbering) (base : List Value) (s : Point) (end : ℕ) where
    abbrev d : List Instr
    d = code_of k h.method

    abbrev List_target : Statements → List Frame → Contractum → Type 0
    List_target ss = Rewrites h t ss (λ part. UnderStatements k d g (fill_statements ss part)) base end

    -- a jump at hand
    jump_at_hand : (ss : Statements) (m : ℕ) → Fresh base s → slice_get d s.at ≡ Some (I.Jump m) → UnderStatements k d g ss base (fresh m base) end
        → SeenStatements k h t g ss base s end
    jump_at_hand ss m f is u = idle (record {
      f = frame_of h t s;
      g = frame_of h t (fresh m s.operands);
      rest = [];
      split = ap (λ a. a ++ frame_of h t s ∷ []) f.1;
      quiet = ap (silent (frame_of h t s)) is;
      kept = (fresh m s.operands, refl, subst (λ vs. UnderStatements k d g ss base (fresh m vs) end) (sym f.0) u);
    })

    then_seen : (st : Statement) (ss : Statements) (m : ℕ) → UnderStatements k d g ss base (fresh m base) end
        → SeenStatement h t g st ss base s m → SeenStatements k h t g (T.Then st ss) base s end
    then_seen st ss m rest (over v f fin) = absurd fin
    then_seen st ss m rest (redex r u f x) =
        redex r u f (within k g.vars (level h t s) r u _ (List_target (T.Then st ss)) x
        (λ fs part z. (z.0, z.1, under_append d g (fill_statement st part) ss base z.0 m end z.2 rest)))
    then_seen st ss m rest (idle x) = idle (idle_within k (level h t s) _ _ x (λ fs z. (z.0, z.1, (m, inl z.2, rest))))

    led_seen : (st : Statement) (ss : Statements) (m n a : ℕ) → Fresh base s → Jumps d n s.at a → UnderStatement k d g st base (fresh a base) m
        → UnderStatements k d g ss base (fresh m base) end
        → (UnderStatement k d g st base s m → SeenStatement h t g st ss base s m)
        → SeenStatements k h t g (T.Then st ss) base s end
    led_seen st ss m zero a f j u rest see =
        let same : fresh a base ≡ s = λ i. record { at = sym j i; operands = sym f.0 i; above = sym f.1 i } in
        then_seen st ss m rest (see (subst (λ z. UnderStatement k d g st base z m) same u))
    led_seen st ss m (suc n) a f j u rest see =
        jump_at_hand (T.Then st ss) j.0 f j.1 (m, inr ((refl, refl), (n, a, j.2, u)), rest)

    pub statements_seen : (st : Statement) (ss : Statements) → (m : ℕ) → Led d (UnderStatement k d g st) base s m → UnderStatements k d g ss base (fresh m base) end
        → (UnderStatement k d g st base s m → SeenStatement h t g st ss base s m)
        → SeenStatements k h t g (T.Then st ss) base s end
    statements_seen st ss m (inl u) rest see = then_seen st ss m rest (see u)
    statements_seen st ss m (inr w) rest see = led_seen st ss m w.1.0 w.1.1 w.0 w.1.2 w.1.3 rest see

    done_by : (n : ℕ) → Fresh base s → Jumps d n s.at end → SeenStatements k h t g T.Done base s end
    done_by zero f j = over tt refl (refl, f.1, f.0, j)
    done_by (suc n) f j = jump_at_hand T.Done j.0 f j.1 ((refl, refl), (n, j.2))

    pub done_seen : UnderStatements k d g T.Done base s end → SeenStatements k h t g T.Done base s end
    done_seen u = done_by u.1.0 u.0 u.1.1
