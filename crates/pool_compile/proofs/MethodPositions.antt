-- The position in a method under way, from the positions in its statements and its value.
use Rattle.run_types.specs.declared.frames.Frame.{Frame}
use Rattle.std.proofs.Common.{◌≡◌, refl, sym, ap, ◌∙◌, subst, ℕ, ◌==◌, List, [], ◌∷◌, ◌++◌, Option, Some, None, is_some, suc, Bool, true, false, IsTrue, ◌⊎◌, inl, inr, arith}
use Rattle.std.specs.Prelude.{slice_get, if◌then◌else◌}
use Rattle.run_types.specs.declared.types.Value.{Value}
use Rattle.pool_syntax.specs.Terms as T
use Rattle.pool_syntax.specs.Terms.{Store, Expression, Expressions, Statement, Statements, Alternatives, append}
use Rattle.pool_relation.specs.Reducible as R
use Rattle.pool_relation.specs.Reducible.{Choice, Reducible, Found, Evaluated, At, and_then, Contractum, AsExpression, AsStatements, as_expression, as_statements, set_value, assigned, fill_expression, fill_expressions, fill_statement, fill_statements, fill_guards, is_value, are_values, is_done}
use Rattle.pool_relation.proofs.Laws.{not_value, not_done}
use Rattle.code_semantics.specs.declared.unit.Instr.{Instr}
use Rattle.code_semantics.specs.declared.unit.Instr.TheVariants as I
use Rattle.run_types.specs.declared.types.Serves.TheVariants as S
use Rattle.code_semantics.specs.declared.unit.ClassCode.{ClassCode}
use Rattle.code_semantics.specs.Frames.{code_of, next, post_passed, silent}
use Rattle.pool_compile.specs.Code.{Numbering}
use Rattle.pool_compile.specs.StandsFor.{Point, Head, keys, values, Behind, frame_of, level, fresh, as_value, PointsOf, IsOf, InMethod, Held, Under, UnderStatements}
use Rattle.pool_compile.proofs.Focus.{Focus, Idle, Sight, over, redex, idle, within, beneath, idle_within, idle_beneath}
use Rattle.pool_compile.proofs.ExpressionPositions.{put}
use Rattle.pool_compile.proofs.PositionBasics.{is_value_of, value_at, Refills, Keeps, SeenExpression}

-- the names of temps stay
keys_if : (q : Bool) (b : ℕ × Value) (bs more : Store) (x : ℕ) (v : Value) → (b.0 == x) ≡ q → keys more ≡ keys bs
    → keys (if q then (x, v) ∷ bs else b ∷ more) ≡ b.0 ∷ keys bs
keys_if true b bs more x v e m = let f : x ≡ b.0 = grind (arith, e) in ap (λ n. n ∷ keys bs) f
keys_if false b bs more x v e m = ap (λ ks. b.0 ∷ ks) m

pub set_keys : (t : Store) (x : ℕ) (v : Value) → keys (set_value t x v) ≡ keys t
set_keys [] x v = refl
set_keys (b ∷ bs) x v = keys_if (b.0 == x) b bs (set_value bs x v) x v refl (set_keys bs x v)

pub assigned_keys : (ss : Statements) (t : Store) → keys (assigned ss t) ≡ keys t
assigned_keys (T.Then (T.Assign x p (T.Literal v q)) ss) t = set_keys t x v
assigned_keys _ t = refl

pub done_true : (ss : Statements) → IsTrue (is_done ss) → is_done ss ≡ true
done_true T.Done i = refl
done_true (T.Then s ss) i = absurd (grind (arith, i))

pub true_done : (ss : Statements) → is_done ss ≡ true → IsTrue (is_done ss)
true_done ss e = subst IsTrue (sym e) refl

pub done_has_none : (t : Store) (ss : Statements) → is_done ss ≡ true → R.statements_redex t ss ≡ Evaluated tt
done_has_none t T.Done e = refl
done_has_none t (T.Then s ss) e = absurd (grind (arith, e))

-- no statement is left at the end
abbrev pub Over : Statements → List Value → Point → ℕ → Unit {0} → Type 0
Over ss base s end u = (is_done ss ≡ true) × (s.above ≡ []) × (s.operands ≡ base) × (s.at ≡ end)

-- statements with another part in the place of the redex, and the temps after it
abbrev pub Rewrites : Head → Store → Statements → (Contractum → PointsOf) → List Value → ℕ → List Frame → Contractum → Type 0
Rewrites h t ss U base end fs part = (z : Point) × (fs ≡ level h (assigned ss t) z) × U part base z end

module _ (k : Option ClassCode) where
  abbrev pub SeenStatements : Head → Store → Numbering → Statements → List Value → Point → ℕ → Type 0
  SeenStatements h t g ss base s end =
      Sight k g.vars (level h t s) (R.statements_redex t ss) (Over ss base s end)
      (Rewrites h t ss (λ part. UnderStatements k (code_of k h.method) g (fill_statements ss part)) base end)
      (Keeps h t (UnderStatements k (code_of k h.method) g ss) base end)

  -- a method under way for the caller, or for no one, with these statements, this value and these post statements
  abbrev pub Way : Option ℕ → Head → Numbering → Statements → Expression → Statements → Point → Type 0
  Way c h g ss e qs z =
      InMethod (code_of k h.method) c (UnderStatements k (code_of k h.method) g ss []) (is_done ss) (Under k (code_of k h.method) g e []) (as_value e)
      (UnderStatements k (code_of k h.method) g qs) (is_done qs) z

  -- the post statements from a place on, over this value, and behind them the end
  abbrev pub Posts : Head → Numbering → Statements → Value → Point → Type 0
  Posts h g qs v z =
      (p : ℕ) × (slice_get (code_of k h.method) p ≡ Some I.Ret) × UnderStatements k (code_of k h.method) g qs (v ∷ []) z p

  -- what is seen of a method under way
  pub data Method (c : Option ℕ) (h : Head) (t : Store) (g : Numbering) (ss : Statements) (e : Expression) (qs : Statements) (a : Point) : Type 0 where
    ended : (v : Value) → is_done ss ≡ true → as_value e ≡ Some v → is_done qs ≡ true → a.above ≡ [] → a.operands ≡ v ∷ []
        → slice_get (code_of k h.method) a.at ≡ Some I.Ret → Method c h t g ss e qs a
    returning : (v : Value) → is_done ss ≡ true → as_value e ≡ Some v → is_done qs ≡ false → IsTrue (is_some c) → a.above ≡ [] → a.operands ≡ v ∷ []
        → slice_get (code_of k h.method) a.at ≡ Some I.Post → Posts h g qs v (fresh (suc a.at) (v ∷ [])) → Method c h t g ss e qs a
    body : (r : Reducible) (u : Store) → R.statements_redex t ss ≡ At r u
        → Focus k g.vars (level h t a) r u (λ fs part. (z : Point) × (fs ≡ level h (assigned ss t) z) × Way c h g (fill_statements ss part) e qs z)
        → Method c h t g ss e qs a
    value : (r : Reducible) (u : Store) → is_done ss ≡ true → R.expression_redex t e ≡ At r u
        → Focus k g.vars (level h t a) r u (λ fs part. (z : Point) × (fs ≡ level h t z) × Way c h g ss (fill_expression e part) qs z)
        → Method c h t g ss e qs a
    post : (r : Reducible) (u : Store) (v : Value) → is_done ss ≡ true → as_value e ≡ Some v → c ≡ None → R.statements_redex t qs ≡ At r u
        → Focus k g.vars (level h t a) r u (λ fs part. (z : Point) × (fs ≡ level h (assigned qs t) z) × Way c h g ss e (fill_statements qs part) z)
        → Method c h t g ss e qs a
    waits : Idle k (level h t a) (λ fs. (z : Point) × (fs ≡ level h t z) × Way c h g ss e qs z) → Method c h t g ss e qs a

  module _ (c : Option ℕ) (h : Head) (t : Store) (g : Numbering) (ss : Statements) (e : Expression) (qs : Statements) (a : Point) where
    abbrev code : List Instr
    code = code_of k h.method

    -- in the post statements
    posts_seen : (p : ℕ) (v : Value) → slice_get code p ≡ Some I.Ret → is_done ss ≡ true → as_value e ≡ Some v → c ≡ None → SeenStatements h t g qs (v ∷ []) a p
        → Method c h t g ss e qs a
    posts_seen p v ret done is n (over o f fin) = ended v done is fin.0 fin.1 fin.2 (ap (slice_get code) fin.3 ∙ ret)
    posts_seen p v ret done is n (redex r u f x) =
        post r u v done is n f (within k g.vars (level h t a) r u _ _ x (λ fs part z. (z.0, z.1, inr (v, true_done ss done, is, n, (p, ret, z.2)))))
    posts_seen p v ret done is n (idle x) =
        waits (idle_within k (level h t a) _ _ x (λ fs z. (z.0, z.1, inr (v, true_done ss done, is, n, (p, ret, z.2)))))

    -- before them, which are silently gone into where the method is for no one
    at_post : (c' : Option ℕ) → c ≡ c' → (v : Value) → is_done ss ≡ true → as_value e ≡ Some v → is_done qs ≡ false → a.above ≡ [] → a.operands ≡ v ∷ []
        → slice_get code a.at ≡ Some I.Post → Posts h g qs v (fresh (suc a.at) (v ∷ []))
        → (c ≡ None → (f : Frame) → post_passed f h.serves ≡ Some (next f f.operands)) → Method c h t g ss e qs a
    at_post (Some o) n v done is more empty ops ins rest passes = returning v done is more (rw n refl) empty ops ins rest
    at_post None n v done is more empty ops ins rest passes =
        let z : Point = fresh (suc a.at) (v ∷ []) in
        let f : Frame = frame_of h t a in
        waits (record {
          f = f;
          g = next f f.operands;
          rest = [];
          split = ap (λ l. l ++ f ∷ []) empty;
          quiet = ap (silent f) ins ∙ passes n f;
          kept = (z, (λ i. record { method = h.method; at = suc a.at; temps = values t; operands = ops i; serves = h.serves } ∷ []), inr (v, true_done ss done, is, n, rest));
        })

    behind_value : (q : ℕ) (v : Value) → is_done ss ≡ true → as_value e ≡ Some v → a.above ≡ [] → a.operands ≡ v ∷ [] → a.at ≡ q
        → (c ≡ None → (f : Frame) → post_passed f h.serves ≡ Some (next f f.operands))
        → (IsTrue (is_done qs) × (slice_get code q ≡ Some I.Ret))
        ⊎ ((is_done qs ≡ false) × (slice_get code q ≡ Some I.Post) × ((p : ℕ) × (slice_get code p ≡ Some I.Ret) × ((b : List Value) → UnderStatements k code g qs b (fresh (suc q) b) p)))
        → Method c h t g ss e qs a
    behind_value q v done is empty ops at passes (inl w) = ended v done is (done_true qs w.0) empty ops (ap (slice_get code) at ∙ w.1)
    behind_value q v done is empty ops at passes (inr w) =
        at_post c refl v done is w.0 empty ops (ap (slice_get code) at ∙ w.1)
        (w.2.0, w.2.1, subst (λ n. UnderStatements k code g qs (v ∷ []) (fresh (suc n) (v ∷ [])) w.2.0) (sym at) (w.2.2 (v ∷ []))) passes

    abbrev Behind_qs : ℕ → Type 0
    Behind_qs q = Behind code (is_done qs) (UnderStatements k code g qs) q

    value_seen : (q : ℕ) → Behind_qs q → is_done ss ≡ true → (c ≡ None → (f : Frame) → post_passed f h.serves ≡ Some (next f f.operands))
        → SeenExpression k h t g e [] a q → Method c h t g ss e qs a
    value_seen q w done passes (over v f fin) = behind_value q v done fin.0 fin.1 fin.2 fin.3 passes w
    value_seen q w done passes (redex r u f x) =
        value r u done f (within k g.vars (level h t a) r u _ _ x (λ fs part z. (z.0, z.1, inl (q, w, inr (true_done ss done, z.2)))))
    value_seen q w done passes (idle x) = waits (idle_within k (level h t a) _ _ x (λ fs z. (z.0, z.1, inl (q, w, inr (true_done ss done, z.2)))))

    body_seen : (q r : ℕ) → Behind_qs q → Under k code g e [] (fresh r []) q → (c ≡ None → (f : Frame) → post_passed f h.serves ≡ Some (next f f.operands))
        → (Under k code g e [] a q → SeenExpression k h t g e [] a q)
        → SeenStatements h t g ss [] a r → Method c h t g ss e qs a
    body_seen q r w ve passes see (over v f fin) =
        let same : fresh r [] ≡ a = λ i. record { at = sym fin.3 i; operands = sym fin.2 i; above = sym fin.1 i } in
        value_seen q w fin.0 passes (see (subst (λ z. Under k code g e [] z q) same ve))
    body_seen q r w ve passes see (redex p u f x) =
        body p u f (within k g.vars (level h t a) p u _ _ x (λ fs part z. (z.0, z.1, inl (q, w, inl (r, z.2, ve)))))
    body_seen q r w ve passes see (idle x) = waits (idle_within k (level h t a) _ _ x (λ fs z. (z.0, z.1, inl (q, w, inl (r, z.2, ve)))))

    pub method_seen : ((r : ℕ) → UnderStatements k code g ss [] a r → SeenStatements h t g ss [] a r)
        → ((q : ℕ) → Under k code g e [] a q → SeenExpression k h t g e [] a q)
        → ((v : Value) (p : ℕ) → UnderStatements k code g qs (v ∷ []) a p → SeenStatements h t g qs (v ∷ []) a p)
        → (c ≡ None → (f : Frame) → post_passed f h.serves ≡ Some (next f f.operands))
        → Way c h g ss e qs a → Method c h t g ss e qs a
    method_seen see_ss see_e see_qs passes (inl (q, w, inl (r, v, u))) = body_seen q r w u passes (see_e q) (see_ss r v)
    method_seen see_ss see_e see_qs passes (inl (q, w, inr (d, v))) = value_seen q w (done_true ss d) passes (see_e q v)
    method_seen see_ss see_e see_qs passes (inr (v, d, is, n, (p, ret, u))) = posts_seen p v ret (done_true ss d) is n (see_qs v p u)

  -- an own method under way
  module _ (h : Head) (t : Store) (g : Numbering) (base : List Value) (s : Point) (end : ℕ) (names : keys t ≡ g.temps) where
    abbrev inner : List ℕ → Numbering
    inner ns = record g { temps = ns }

    abbrev Target : Expression → List Frame → Contractum → Type 0
    Target e = Refills h t (λ part. Under k (code_of k h.method) g (fill_expression e part)) base end

    abbrev Same : Expression → List Frame → Type 0
    Same e = Keeps h t (Under k (code_of k h.method) g e) base end

    pub frame_seen : (m : ℕ) (v : Store) (ss : Statements) (e : Expression) (qs : Statements) (hd : Head) (a : Point) (ns : List ℕ)
        → Held base s end → s.above ≡ level hd v a → IsOf k hd m → hd.serves ≡ S.Own → keys v ≡ ns
        → Method None hd v (inner ns) ss e qs a → SeenExpression k h t g (T.Frame m v ss e qs) base s end
    frame_seen m v ss e qs hd a ns held above of own ks (ended w done is last empty ops ret) =
        redex (R.Leave w) v (rw (ended_body, value_at v e w is, done_has_none v qs last) refl)
        (record {
          host = h;
          own = t;
          g = g;
          base = base;
          s = s;
          stop = end;
          over = frame_of hd v a ∷ [];
          rest = [];
          split = ap (λ l. l ++ frame_of h t s ∷ []) (above ∙ ap (λ l. l ++ frame_of hd v a ∷ []) empty);
          names = names;
          vars = refl;
          spot = (frame_of hd v a, refl, own, ops, ret, held.0, held.1);
          rebuild = λ part z q. (z, refl, rw (done, is_value_of e w is, last) (put k (code_of k h.method) g base z end true refl part q (T.Frame m v ss e qs)));
        })
      where
        ended_body : R.statements_redex v ss ≡ Evaluated tt
        ended_body = done_has_none v ss done
    frame_seen m v ss e qs hd a ns held above of own ks (returning w done is more some empty ops ins rest) = absurd (grind (arith, some))
    frame_seen m v ss e qs hd a ns held above of own ks (body r u f x) =
        redex r u (rw f refl) (subst (λ l. Focus k g.vars (l ++ frame_of h t s ∷ []) r u (Target (T.Frame m v ss e qs))) (sym above)
        (beneath k g.vars (level hd v a) r u _ (Target (T.Frame m v ss e qs)) (frame_of h t s) x
        (λ fs part z. (
          record { at = s.at; operands = s.operands; above = fs },
          refl,
          rw (not_done v ss r u f) (held, (hd, z.0, ns, z.1, of, own, assigned_keys ss v ∙ ks, z.2)),
        ))))
    frame_seen m v ss e qs hd a ns held above of own ks (value r u done f x) =
        redex r u (rw (done_has_none v ss done, f) refl) (subst (λ l. Focus k g.vars (l ++ frame_of h t s ∷ []) r u (Target (T.Frame m v ss e qs))) (sym above)
        (beneath k g.vars (level hd v a) r u _ (Target (T.Frame m v ss e qs)) (frame_of h t s) x
        (λ fs part z. (
          record { at = s.at; operands = s.operands; above = fs },
          refl,
          rw (done, not_value v e r u f) (held, (hd, z.0, ns, z.1, of, own, ks, z.2)),
        ))))
    frame_seen m v ss e qs hd a ns held above of own ks (post r u w done is n f x) =
        redex r u (rw (done_has_none v ss done, value_at v e w is, f) refl) (subst (λ l. Focus k g.vars (l ++ frame_of h t s ∷ []) r u (Target (T.Frame m v ss e qs))) (sym above)
        (beneath k g.vars (level hd v a) r u _ (Target (T.Frame m v ss e qs)) (frame_of h t s) x
        (λ fs part z. (
          record { at = s.at; operands = s.operands; above = fs },
          refl,
          rw (done, is_value_of e w is, not_done v qs r u f) (held, (hd, z.0, ns, z.1, of, own, assigned_keys qs v ∙ ks, z.2)),
        ))))
    frame_seen m v ss e qs hd a ns held above of own ks (waits x) =
        idle (subst (λ l. Idle k (l ++ frame_of h t s ∷ []) (Same (T.Frame m v ss e qs))) (sym above)
        (idle_beneath k (level hd v a) _ (Same (T.Frame m v ss e qs)) (frame_of h t s) x
        (λ fs z. (record { at = s.at; operands = s.operands; above = fs }, refl, (held, (hd, z.0, ns, z.1, of, own, ks, z.2))))))
