-- The object of code after a local step represents the term after that step.
use Rattle.run_types.specs.declared.frames.CodeObject.{CodeObject}
use Rattle.run_types.specs.declared.frames.Frame.{Frame}
use Rattle.std.proofs.Common.{◌≡◌, refl, sym, ap, ◌∙◌, subst, ℕ, suc, List, [], ◌∷◌, ◌++◌, Option, Some, None, Bool, true, false, inl, inr, arith}
use Rattle.std.specs.Prelude.{slice_get, slice_set, if◌then◌else◌}
use Rattle.run_types.specs.declared.types.Op.{Op}
use Rattle.run_types.specs.declared.types.Op.TheVariants as O
use Rattle.run_types.specs.declared.types.Value.{Value}
use Rattle.run_types.specs.declared.types.Value.TheVariants as V
use Rattle.pool_syntax.specs.Terms as T
use Rattle.pool_syntax.specs.Terms.{Store, Expression, Statement, Statements}
use Rattle.pool_syntax.specs.Typing.{contains}
use Rattle.run_types.specs.Values.{Gives, prefix_value, infix_value}
use Rattle.pool_relation.specs.Reducible as R
use Rattle.pool_relation.specs.Reducible.{Reducible, Contractum, AsExpression, AsStatements, set_value, fill_statements, assigned}
use Rattle.pool_relation.specs.Action.{value_of, literal}
use Rattle.code_semantics.specs.declared.unit.Instr.{Instr}
use Rattle.code_semantics.specs.declared.unit.Instr.TheVariants as I
use Rattle.run_types.specs.declared.types.Serves.TheVariants as S
use Rattle.code_semantics.specs.declared.unit.ClassCode.{ClassCode}
use Rattle.code_semantics.specs.Frames.{code_of, next}
use Rattle.run_types.specs.Operands.{top, below, dropped, nth}
use Rattle.code_semantics.specs.Kinds.{operated, arity}
use Rattle.code_semantics.specs.Step.{at_rest, outcome_value, instr_stepped, frames_stepped}
use Rattle.pool_compile.specs.Code.{Numbering, load, store, number_of}
use Rattle.pool_compile.specs.StandsFor.{Point, Head, keys, values, frame_of, level, fresh, UnderStatements}
use Rattle.pool_compile.proofs.Focus.{is_inner, after, UnderPart, Focus, Spot, Stand, Ending}
use Rattle.pool_compile.proofs.MethodPositions.{Rewrites}
use Rattle.pool_compile.proofs.StatementPositions.{one, under_append}
use Rattle.pool_compile.proofs.SilentSteps.{Whole}
use Rattle.pool_compile.proofs.Stores.{found, absent, set_absent, set_found}

assigned_none : (ss : Statements) → assigned ss [] ≡ []
assigned_none (T.Then (T.Assign x p (T.Literal v q)) ss) = refl
assigned_none _ = refl

unary_made : (op : Op) (v w : Value) (base : List Value) → prefix_value op v ≡ Gives w → outcome_value (operated op (v ∷ base)) ∷ dropped (arity op) (v ∷ base) ≡ w ∷ base
unary_made O.Neg v w base q = ap (λ o. outcome_value o ∷ base) q
unary_made O.Not v w base q = ap (λ o. outcome_value o ∷ base) q
unary_made _ v w base q = absurd (grind (arith, q))

binary_made : (op : Op) (v w x : Value) (base : List Value) → infix_value op v w ≡ Gives x → outcome_value (operated op (w ∷ v ∷ base)) ∷ dropped (arity op) (w ∷ v ∷ base) ≡ x ∷ base
binary_made O.Neg v w x base q = absurd (grind (arith, q))
binary_made O.Not v w x base q = absurd (grind (arith, q))
binary_made op v w x base q = ap (λ o. outcome_value o ∷ base) q

module _ (k : Option ClassCode) (h : Head) (g : Numbering) (none : g.temps ≡ []) (end : ℕ) (halt : slice_get (code_of k h.method) end ≡ Some I.Halt) (ss : Statements) (L : List Frame) where
  abbrev pub Term : Statements → List Frame → Type 0
  Term = Whole k h g none end halt

  abbrev pub Target : List Frame → Contractum → Type 0
  Target = Rewrites h [] ss (λ part. UnderStatements k (code_of k h.method) g (fill_statements ss part)) [] end

  pub whole_of : (fs : List Frame) (part : Contractum) → Target fs part → Term (fill_statements ss part) fs
  whole_of fs part x = (x.0, x.1 ∙ ap (λ t. level h t x.0) (assigned_none ss), x.2)

  -- the object w is y with other variables and these frames, of which the innermost was brought to a step instruction
  abbrev pub Lands : CodeObject → List Value → Statements → CodeObject → Type 0
  Lands y vs term w = (f : Frame) × (fs : List Frame) × (w ≡ at_rest k (record y { vars = vs }) f fs) × Term term (f ∷ fs)

  module _ (r : Reducible) (u : Store) (f : Focus k g.vars L r u Target) where
    -- the frame at hand, with these operands
    abbrev pub now : List Value → Frame
    now vs = frame_of f.host f.own (record f.s { operands = vs })

    -- the step is that of the instruction at hand
    pub stepped_here : (o : ℕ) (y : CodeObject) (vs : List Value) (i : Instr) (stop : ℕ) → f.over ≡ [] → Stand k f.host f.s vs i stop
        → frames_stepped k o y L ≡ instr_stepped k o y (now vs) f.rest (Some i)
    stepped_here o y vs i stop empty st =
        ap (frames_stepped k o y) (f.split ∙ ap (λ l. l ++ frame_of f.host f.own f.s ∷ f.rest) empty)
        ∙ ap (instr_stepped k o y (frame_of f.host f.own f.s) f.rest) st.1.0
        ∙ ap (λ l. instr_stepped k o y (now l) f.rest (Some i)) st.0

    -- a value takes the place of an expression
    pub value_lands : (y w : CodeObject) (vs : List Value) (i : Instr) (v : Value) → is_inner r ≡ true → after r f.own ≡ f.own → Stand k f.host f.s vs i f.stop
        → w ≡ at_rest k y (next (now vs) (v ∷ f.base)) f.rest
        → Lands y y.vars (fill_statements ss (AsExpression (literal v))) w
    value_lands y w vs i v inner same st e =
        let z : Point = record { at = suc f.s.at; operands = v ∷ f.base; above = [] } in
        let part : UnderPart (is_inner r) k (code_of k f.host.method) f.g (AsExpression (literal v)) f.base z f.stop =
        subst (λ b. UnderPart b k (code_of k f.host.method) f.g (AsExpression (literal v)) f.base z f.stop) (sym inner) (refl, inr (refl, sym st.1.1)) in (
          next (now vs) (v ∷ f.base),
          f.rest,
          e,
          subst (λ t. Term (fill_statements ss (AsExpression (literal v))) (frame_of f.host t z ∷ f.rest)) same
              (whole_of _ (AsExpression (literal v)) (f.rebuild (AsExpression (literal v)) z part)),
        )

    -- a list of statements takes the place of a statement
    pub list_lands : (y w : CodeObject) (vs : List Value) (z : Point) (some : Statements) → is_inner r ≡ false → z.above ≡ []
        → w ≡ at_rest k (record y { vars = vs }) (frame_of f.host (after r f.own) z) f.rest
        → UnderStatements k (code_of k f.host.method) f.g some f.base z f.stop
        → Lands y vs (fill_statements ss (AsStatements some)) w
    list_lands y w vs z some inner empty e u =
        let part : UnderPart (is_inner r) k (code_of k f.host.method) f.g (AsStatements some) f.base z f.stop =
        subst (λ b. UnderPart b k (code_of k f.host.method) f.g (AsStatements some) f.base z f.stop) (sym inner) u in (
          frame_of f.host (after r f.own) z,
          f.rest,
          e,
          subst (λ l. Term (fill_statements ss (AsStatements some)) (l ++ frame_of f.host (after r f.own) z ∷ f.rest)) empty
              (whole_of _ (AsStatements some) (f.rebuild (AsStatements some) z part)),
        )

  pub own_name : (o : ℕ) (y : CodeObject) (u : Store) (f : Focus k g.vars L R.OwnName u Target)
      → Lands y y.vars (fill_statements ss (AsExpression (literal (V.Ref o)))) (frames_stepped k o y L)
  own_name o y u f = value_lands R.OwnName u f y _ f.base I.SelfRef (V.Ref o) refl refl f.spot.2 (stepped_here R.OwnName u f o y f.base I.SelfRef f.stop f.spot.0 f.spot.2)

  pub done_statement : (k' : Option ClassCode) (c : List Instr) (g' : Numbering) (base : List Value) (at stop : ℕ) → at ≡ stop → UnderStatements k' c g' T.Done base (fresh at base) stop
  done_statement k' c g' base at stop e = ((refl, refl), (0, e))

  pub drop : (o : ℕ) (y : CodeObject) (v : Value) (u : Store) (f : Focus k g.vars L (R.Drop v) u Target)
      → Lands y y.vars (fill_statements ss (AsStatements T.Done)) (frames_stepped k o y L)
  drop o y v u f =
      list_lands (R.Drop v) u f y _ y.vars (fresh (suc f.s.at) f.base) T.Done refl refl (stepped_here (R.Drop v) u f o y (v ∷ f.base) I.Pop f.stop f.spot.0 f.spot.2)
      (done_statement k _ f.g f.base (suc f.s.at) f.stop (sym f.spot.2.1.1))

  -- a loop unfolds: the place after `Loop` stands for the choice
  pub loop : (o : ℕ) (y : CodeObject) (e : Expression) (work : Statements) (u : Store) (f : Focus k g.vars L (R.Loop e work) u Target)
      → Lands y y.vars (fill_statements ss (AsStatements (T.Then (T.If e (T.append work (T.Then (T.While e work) T.Done)) T.Done) T.Done))) (frames_stepped k o y L)
  loop o y e work u f =
      let c = code_of k f.host.method in
      let w = f.spot.2.1 in
      let again = one k c f.g (T.While e work) f.base (fresh f.s.at f.base) f.stop w in
      let turn = under_append k c f.g work (T.Then (T.While e work) T.Done) f.base (fresh (suc w.0) f.base) f.s.at f.stop w.5 again in
      list_lands (R.Loop e work) u f y _ y.vars (fresh (suc f.s.at) f.base) (T.Then (T.If e (T.append work (T.Then (T.While e work) T.Done)) T.Done) T.Done) refl refl
      (stepped_here (R.Loop e work) u f o y f.base I.Loop (suc f.s.at) f.spot.0 f.spot.2.0)
      (one k c f.g (T.If e (T.append work (T.Then (T.While e work) T.Done)) T.Done) f.base (fresh (suc f.s.at) f.base) f.stop
      (w.0, f.stop, w.3, w.4, turn, done_statement k c f.g f.base f.stop f.stop refl))

  pub branch : (o : ℕ) (y : CodeObject) (b : Bool) (these those : Statements) (u : Store) (f : Focus k g.vars L (R.Branch (V.Bool b) these those) u Target)
      → Lands y y.vars (fill_statements ss (AsStatements (if b then these else those))) (frames_stepped k o y L)
  branch o y true these those u f =
      list_lands (R.Branch (V.Bool true) these those) u f y _ y.vars (fresh (suc f.s.at) f.base) these refl refl
      (stepped_here (R.Branch (V.Bool true) these those) u f o y (V.Bool true ∷ f.base) (I.Branch f.spot.2.0) (suc f.s.at) f.spot.0 f.spot.2.1) f.spot.2.2
  branch o y false these those u f =
      list_lands (R.Branch (V.Bool false) these those) u f y _ y.vars (fresh f.spot.2.0 f.base) those refl refl
      (stepped_here (R.Branch (V.Bool false) these those) u f o y (V.Bool false ∷ f.base) (I.Branch f.spot.2.0) (suc f.s.at) f.spot.0 f.spot.2.1) f.spot.2.3

  pub unary : (o : ℕ) (y : CodeObject) (op : Op) (v w : Value) (u : Store) (f : Focus k g.vars L (R.Unary op v) u Target) → prefix_value op v ≡ Gives w
      → Lands y y.vars (fill_statements ss (AsExpression (literal w))) (frames_stepped k o y L)
  unary o y op v w u f q =
      value_lands (R.Unary op v) u f y _ (v ∷ f.base) (I.Oper op) w refl refl f.spot.2
      (stepped_here (R.Unary op v) u f o y (v ∷ f.base) (I.Oper op) f.stop f.spot.0 f.spot.2
      ∙ ap (λ vs. at_rest k y (next (now (R.Unary op v) u f (v ∷ f.base)) vs) f.rest) (unary_made op v w f.base q))

  pub binary : (o : ℕ) (y : CodeObject) (op : Op) (v w x : Value) (u : Store) (f : Focus k g.vars L (R.Binary op v w) u Target) → infix_value op v w ≡ Gives x
      → Lands y y.vars (fill_statements ss (AsExpression (literal x))) (frames_stepped k o y L)
  binary o y op v w x u f q =
      value_lands (R.Binary op v w) u f y _ (w ∷ v ∷ f.base) (I.Oper op) x refl refl f.spot.2
      (stepped_here (R.Binary op v w) u f o y (w ∷ v ∷ f.base) (I.Oper op) f.stop f.spot.0 f.spot.2
      ∙ ap (λ vs. at_rest k y (next (now (R.Binary op v w) u f (w ∷ v ∷ f.base)) vs) f.rest) (binary_made op v w x f.base q))

  -- the end of a method: its frame goes
  ending_stepped : (o : ℕ) (y : CodeObject) (r : Reducible) (u : Store) (f : Focus k g.vars L r u Target) (v : Value) (serves : Frame → Type 0)
      → (e : Ending k f.over f.base f.s f.stop v u serves)
      → frames_stepped k o y L ≡ instr_stepped k o y e.0 (frame_of f.host f.own f.s ∷ f.rest) (Some I.Ret)
  ending_stepped o y r u f v serves e =
      ap (frames_stepped k o y) (f.split ∙ ap (λ l. l ++ frame_of f.host f.own f.s ∷ f.rest) e.1)
      ∙ ap (instr_stepped k o y e.0 (frame_of f.host f.own f.s ∷ f.rest)) e.4

  -- a value is handed back from an own call
  pub leave : (o : ℕ) (y : CodeObject) (v : Value) (u : Store) (f : Focus k g.vars L (R.Leave v) u Target)
      → Lands y y.vars (fill_statements ss (AsExpression (literal v))) (frames_stepped k o y L)
  leave o y v u f =
      let e = f.spot in
      let z : Point = record { at = f.s.at; operands = v ∷ f.s.operands; above = [] } in
      let own_step : instr_stepped k o y e.0 (frame_of f.host f.own f.s ∷ f.rest) (Some I.Ret) ≡ at_rest k y (frame_of f.host f.own z) f.rest =
      rw e.2 (ap (λ vs. at_rest k y (frame_of f.host f.own (record f.s { operands = top vs ∷ f.s.operands })) f.rest) e.3) in (
        frame_of f.host f.own z,
        f.rest,
        ending_stepped o y (R.Leave v) u f v (λ x. x.serves ≡ S.Own) e ∙ own_step,
        whole_of _ (AsExpression (literal v)) (f.rebuild (AsExpression (literal v)) z (refl, inr (ap (λ vs. v ∷ vs) e.5, e.6))),
      )

  -- a method that was served for no one is over
  pub finish : (o : ℕ) (y : CodeObject) (v : Value) (work : Statements) (u : Store) (f : Focus k g.vars L (R.Finish None v work) u Target)
      → Lands y y.vars (fill_statements ss (AsStatements work)) (frames_stepped k o y L)
  finish o y v work u f = by f.spot
    where
      by : Spot k f.over f.host f.own f.g f.base f.s f.stop (R.Finish None v work) u → Lands y y.vars (fill_statements ss (AsStatements work)) (frames_stepped k o y L)
      by (inl (e, d)) =
          let own_step : instr_stepped k o y e.0 (frame_of f.host f.own f.s ∷ f.rest) (Some I.Ret) ≡ at_rest k y (frame_of f.host f.own f.s) f.rest = rw e.2 refl in
          subst (λ q. Lands y y.vars (fill_statements ss (AsStatements q)) (frames_stepped k o y L)) (sym d)
          (list_lands (R.Finish None v work) u f y _ y.vars (record f.s { above = [] }) T.Done refl refl
          (ending_stepped o y (R.Finish None v work) u f v (λ x. x.serves ≡ S.Sender) e ∙ own_step)
          ((e.5, refl), (0, e.6)))
      by (inr e) = absurd (grind (arith, e.3))

  -- a variable is read
  read_lands : (o : ℕ) (y : CodeObject) (n : ℕ) (v : Value) (u : Store) (f : Focus k g.vars L (R.Read n) u Target)
      → instr_stepped k o y (now (R.Read n) u f f.base) f.rest (Some (load f.g n)) ≡ at_rest k y (next (now (R.Read n) u f f.base) (v ∷ f.base)) f.rest
      → Lands y y.vars (fill_statements ss (AsExpression (literal v))) (frames_stepped k o y L)
  read_lands o y n v u f e =
      value_lands (R.Read n) u f y _ f.base (load f.g n) v refl refl f.spot.2
      (stepped_here (R.Read n) u f o y f.base (load f.g n) f.stop f.spot.0 f.spot.2 ∙ e)

  load_temp : (x : Frame) (y : CodeObject) (o n : ℕ) (i : Numbering) (fs : List Frame) → contains i.temps n ≡ true
      → instr_stepped k o y x fs (Some (load i n)) ≡ at_rest k y (next x (nth x.temps (number_of i.temps n) ∷ x.operands)) fs
  load_temp x y o n i fs e = ap (λ b. instr_stepped k o y x fs (Some (if b then I.LoadT (number_of i.temps n) else I.LoadI (number_of i.vars n)))) e

  load_var : (x : Frame) (y : CodeObject) (o n : ℕ) (i : Numbering) (fs : List Frame) → contains i.temps n ≡ false
      → instr_stepped k o y x fs (Some (load i n)) ≡ at_rest k y (next x (nth y.vars (number_of i.vars n) ∷ x.operands)) fs
  load_var x y o n i fs e = ap (λ b. instr_stepped k o y x fs (Some (if b then I.LoadT (number_of i.temps n) else I.LoadI (number_of i.vars n)))) e

  pub read_temp : (o : ℕ) (y : CodeObject) (n : ℕ) (v : Value) (u : Store) (f : Focus k g.vars L (R.Read n) u Target) → value_of u n ≡ Some v
      → Lands y y.vars (fill_statements ss (AsExpression (literal v))) (frames_stepped k o y L)
  read_temp o y n v u f q =
      let a = found f.own n v (subst (λ t. value_of t n ≡ Some v) f.spot.1 q) in
      let there : contains f.g.temps n ≡ true = subst (λ ks. contains ks n ≡ true) f.names a.0 in
      let value : nth (values f.own) (number_of f.g.temps n) ≡ v = subst (λ ks. nth (values f.own) (number_of ks n) ≡ v) f.names a.1 in
      read_lands o y n v u f
      (load_temp (now (R.Read n) u f f.base) y o n f.g f.rest there
      ∙ ap (λ w. at_rest k y (next (now (R.Read n) u f f.base) (w ∷ f.base)) f.rest) value)

  pub read_var : (o : ℕ) (y : CodeObject) (n : ℕ) (v : Value) (u vars : Store) (f : Focus k g.vars L (R.Read n) u Target)
      → y.vars ≡ values vars → keys vars ≡ g.vars → value_of u n ≡ None → value_of vars n ≡ Some v
      → Lands y y.vars (fill_statements ss (AsExpression (literal v))) (frames_stepped k o y L)
  read_var o y n v u vars f yv ks q w =
      let a = found vars n v w in
      let away : contains f.g.temps n ≡ false = subst (λ ks. contains ks n ≡ false) f.names (absent f.own n (subst (λ t. value_of t n ≡ None) f.spot.1 q)) in
      let number : number_of f.g.vars n ≡ number_of (keys vars) n = ap (λ l. number_of l n) (f.vars ∙ sym ks) in
      let value : nth y.vars (number_of f.g.vars n) ≡ v = ap (nth y.vars) number ∙ ap (λ l. nth l (number_of (keys vars) n)) yv ∙ a.1 in
      read_lands o y n v u f
      (load_var (now (R.Read n) u f f.base) y o n f.g f.rest away
      ∙ ap (λ w. at_rest k y (next (now (R.Read n) u f f.base) (w ∷ f.base)) f.rest) value)

  store_temp : (x : Frame) (y : CodeObject) (o n : ℕ) (i : Numbering) (fs : List Frame) → contains i.temps n ≡ true
      → instr_stepped k o y x fs (Some (store i n)) ≡ at_rest k y (next (record x { temps = slice_set x.temps (number_of i.temps n) (top x.operands) }) (below x.operands)) fs
  store_temp x y o n i fs e = ap (λ b. instr_stepped k o y x fs (Some (if b then I.StoreT (number_of i.temps n) else I.StoreI (number_of i.vars n)))) e

  store_var : (x : Frame) (y : CodeObject) (o n : ℕ) (i : Numbering) (fs : List Frame) → contains i.temps n ≡ false
      → instr_stepped k o y x fs (Some (store i n)) ≡ at_rest k (record y { vars = slice_set y.vars (number_of i.vars n) (top x.operands) }) (next x (below x.operands)) fs
  store_var x y o n i fs e = ap (λ b. instr_stepped k o y x fs (Some (if b then I.StoreT (number_of i.temps n) else I.StoreI (number_of i.vars n)))) e

  -- a temp is assigned
  pub set_temp : (o : ℕ) (y : CodeObject) (n : ℕ) (v w : Value) (u : Store) (f : Focus k g.vars L (R.Set n v) u Target) → value_of u n ≡ Some w
      → Lands y y.vars (fill_statements ss (AsStatements T.Done)) (frames_stepped k o y L)
  set_temp o y n v w u f q =
      let own : value_of f.own n ≡ Some w = subst (λ t. value_of t n ≡ Some w) f.spot.1 q in
      let there : contains f.g.temps n ≡ true = subst (λ ks. contains ks n ≡ true) f.names (found f.own n w own).0 in
      let number : number_of f.g.temps n ≡ number_of (keys f.own) n = ap (λ l. number_of l n) (sym f.names) in
      let temps : slice_set (values f.own) (number_of f.g.temps n) v ≡ values (set_value f.own n v) =
      ap (λ j. slice_set (values f.own) j v) number ∙ set_found f.own n v w own in
      list_lands (R.Set n v) u f y _ y.vars (fresh (suc f.s.at) f.base) T.Done refl refl
      (stepped_here (R.Set n v) u f o y (v ∷ f.base) (store f.g n) f.stop f.spot.0 f.spot.2
      ∙ store_temp (now (R.Set n v) u f (v ∷ f.base)) y o n f.g f.rest there
      ∙ ap (λ t. at_rest k y (record { method = f.host.method; at = suc f.s.at; temps = t; operands = f.base; serves = f.host.serves }) f.rest) temps)
      (done_statement k _ f.g f.base (suc f.s.at) f.stop (sym f.spot.2.1.1))

  -- a variable of the object is assigned
  pub set_var : (o : ℕ) (y : CodeObject) (n : ℕ) (v w : Value) (u vars : Store) (f : Focus k g.vars L (R.Set n v) u Target)
      → y.vars ≡ values vars → keys vars ≡ g.vars → value_of u n ≡ None → value_of vars n ≡ Some w
      → Lands y (values (set_value vars n v)) (fill_statements ss (AsStatements T.Done)) (frames_stepped k o y L)
  set_var o y n v w u vars f yv ks q m =
      let own : value_of f.own n ≡ None = subst (λ t. value_of t n ≡ None) f.spot.1 q in
      let away : contains f.g.temps n ≡ false = subst (λ ks. contains ks n ≡ false) f.names (absent f.own n own) in
      let number : number_of f.g.vars n ≡ number_of (keys vars) n = ap (λ l. number_of l n) (f.vars ∙ sym ks) in
      let all : slice_set y.vars (number_of f.g.vars n) v ≡ values (set_value vars n v) =
      ap (λ j. slice_set y.vars j v) number ∙ ap (λ l. slice_set l (number_of (keys vars) n) v) yv ∙ set_found vars n v w m in
      list_lands (R.Set n v) u f y _ (values (set_value vars n v)) (fresh (suc f.s.at) f.base) T.Done refl refl
      (stepped_here (R.Set n v) u f o y (v ∷ f.base) (store f.g n) f.stop f.spot.0 f.spot.2
      ∙ store_var (now (R.Set n v) u f (v ∷ f.base)) y o n f.g f.rest away
      ∙ ap (λ l. at_rest k (record y { vars = l }) (next (now (R.Set n v) u f (v ∷ f.base)) f.base) f.rest) all
      ∙ ap (λ t. at_rest k (record y { vars = values (set_value vars n v) }) (frame_of f.host t (fresh (suc f.s.at) f.base)) f.rest) (sym (set_absent f.own n v own)))
      (done_statement k _ f.g f.base (suc f.s.at) f.stop (sym f.spot.2.1.1))
