-- The steps of the code that take a value, that another object takes part in, and that call an own method.
use Rattle.run_types.specs.declared.frames.CodeObject.{CodeObject}
use Rattle.run_types.specs.declared.frames.Frame.{Frame}
use Rattle.std.proofs.Common.{◌≡◌, refl, sym, ap, ◌∙◌, subst, ℕ, zero, suc, ◌+◌, ◌-◌, List, [], ◌∷◌, ◌++◌, length, Option, Some, false, inl, arith, None, inr}
use Rattle.std.specs.Prelude.{slice_get, map}
use Rattle.run_types.specs.declared.types.Value.{Value}
use Rattle.run_types.specs.declared.types.Value.TheVariants as V
use Rattle.run_types.specs.declared.types.Item.TheVariants as Item
use Rattle.run_types.specs.declared.types.NameId.{NameId}
use Rattle.pool_syntax.specs.declared.tree.Named.{Named}
use Rattle.pool_syntax.specs.Terms as T
use Rattle.pool_syntax.specs.Terms.{Store, Expression, Statement, Statements, MethodTree, ClassTree}
use Rattle.pool_relation.specs.Reducible as R
use Rattle.pool_relation.specs.Reducible.{Choice, Reducible, Contractum, AsExpression, AsStatements, fill_statements, is_done}
use Rattle.pool_relation.specs.Action.{literal, temps_of}
use Rattle.code_semantics.specs.declared.unit.Instr.{Instr}
use Rattle.code_semantics.specs.declared.unit.Instr.TheVariants as I
use Rattle.code_semantics.specs.declared.unit.AltCode.{AltCode}
use Rattle.run_types.specs.declared.types.Serves.{Serves}
use Rattle.run_types.specs.declared.types.Serves.TheVariants as S
use Rattle.code_semantics.specs.declared.unit.ClassCode.{ClassCode}
use Rattle.code_semantics.specs.Frames.{code_of, next}
use Rattle.run_types.specs.Operands.{taken, dropped}
use Rattle.code_semantics.specs.Step.{Numbered, begun, called, at_rest, frames_stepped, asked, frames_given, instr_gone_on, frames_gone_on, after_choice, at_alternative, frames_picked, frames_serving}
use Rattle.pool_compile.specs.Code.{Numbering, name, names_of, class_code}
use Rattle.pool_compile.specs.StandsFor.{Point, Head, frame_of, fresh, IsServing, InMethod, push_all, Under, UnderStatements, as_value}
use Rattle.pool_compile.proofs.Focus.{is_inner, after, UnderPart, Focus, Stand, Lists, guards_of, Spot}
use Rattle.pool_compile.proofs.KindLaws.{take_args, drop_args, dropped_all, lists_length}
use Rattle.pool_compile.proofs.Methods.{Begins}
use Rattle.pool_compile.proofs.StepResults.{Target, Lands, Term, whole_of, now, stepped_here, value_lands, list_lands, done_statement}

-- an alternative of a select, by its place
choice_at : (k : Option ClassCode) (c : List Instr) (g : Numbering) (cs : List Choice) (base : List Value) (targets : List AltCode) (stop : ℕ) (j : ℕ) (x : Choice)
    → Lists k c g cs base targets stop → slice_get cs j ≡ Some x
    → (a : AltCode) × (slice_get targets j ≡ Some a) × UnderStatements k c g x.work base (fresh a.at base) stop
choice_at k c g [] base targets stop j x l e = absurd (grind (arith, e))
choice_at k c g (d ∷ cs) base [] stop j x l e = absurd l
choice_at k c g (d ∷ cs) base (a ∷ targets) stop zero x l e =
    let f : d ≡ x = grind (arith, e) in (a, refl, subst (λ y. UnderStatements k c g y.work base (fresh a.at base) stop) f l.1)
choice_at k c g (d ∷ cs) base (a ∷ targets) stop (suc j) x l e = choice_at k c g cs base targets stop j x l.2 e

drop_call : (args base : List Value) (v : Value) → dropped (suc (length args)) (push_all args (v ∷ base)) ≡ base
drop_call args base v =
    ap (λ n. dropped n (push_all args (v ∷ base))) (let e : suc (length args) ≡ length args + 1 = omega arith in e) ∙ dropped_all args 1 (v ∷ base)

module _ (k : Option ClassCode) (h : Head) (g : Numbering) (none : g.temps ≡ []) (end : ℕ) (halt : slice_get (code_of k h.method) end ≡ Some I.Halt) (ss : Statements) (L : List Frame) where
  abbrev Goal : List Frame → Contractum → Type 0
  Goal = Target k h g none end halt ss L

  abbrev Got : CodeObject → List Value → Statements → CodeObject → Type 0
  Got = Lands k h g none end halt ss L

  module _ (r : Reducible) (u : Store) (f : Focus k g.vars L r u Goal) where
    abbrev at_hand : List Value → Frame
    at_hand vs = frame_of f.host f.own (record f.s { operands = vs })

    frames_are : f.over ≡ [] → L ≡ frame_of f.host f.own f.s ∷ f.rest
    frames_are empty = f.split ∙ ap (λ l. l ++ frame_of f.host f.own f.s ∷ f.rest) empty

    given_here : (y : CodeObject) (v : Value) (vs : List Value) (i : Instr) (stop : ℕ) → f.over ≡ [] → Stand k f.host f.s vs i stop
        → frames_given k y v L ≡ at_rest k y (next (at_hand vs) (v ∷ dropped (asked (Some i)) vs)) f.rest
    given_here y v vs i stop empty st =
        ap (frames_given k y v) (frames_are empty)
        ∙ ap (λ j. at_rest k y (next (frame_of f.host f.own f.s) (v ∷ dropped (asked j) f.s.operands)) f.rest) st.1.0
        ∙ ap (λ l. at_rest k y (next (at_hand l) (v ∷ dropped (asked (Some i)) l)) f.rest) st.0

    gone_on_here : (y : CodeObject) (vs : List Value) (i : Instr) (stop : ℕ) → f.over ≡ [] → Stand k f.host f.s vs i stop
        → frames_gone_on k y L ≡ instr_gone_on k y (at_hand vs) f.rest (Some i)
    gone_on_here y vs i stop empty st =
        ap (frames_gone_on k y) (frames_are empty)
        ∙ ap (instr_gone_on k y (frame_of f.host f.own f.s) f.rest) st.1.0
        ∙ ap (λ l. instr_gone_on k y (at_hand l) f.rest (Some i)) st.0

    picked_here : (y : CodeObject) (n : ℕ) (vs : List Value) (i : Instr) (stop : ℕ) → f.over ≡ [] → Stand k f.host f.s vs i stop
        → frames_picked k y n L ≡ at_rest k y (after_choice (at_hand vs) n (Some i)) f.rest
    picked_here y n vs i stop empty st =
        ap (frames_picked k y n) (frames_are empty)
        ∙ ap (λ j. at_rest k y (after_choice (frame_of f.host f.own f.s) n j) f.rest) st.1.0
        ∙ ap (λ l. at_rest k y (after_choice (at_hand l) n (Some i)) f.rest) st.0

    serving_here : (y : CodeObject) (n : ℕ) (m : Numbered) (args : List Value) (w : Serves) (vs : List Value) (i : Instr) (stop : ℕ) → f.over ≡ [] → Stand k f.host f.s vs i stop
        → frames_serving k y n m args w L ≡ at_rest k y (begun m args w) (after_choice (at_hand vs) n (Some i) ∷ f.rest)
    serving_here y n m args w vs i stop empty st =
        ap (frames_serving k y n m args w) (frames_are empty)
        ∙ ap (λ j. at_rest k y (begun m args w) (after_choice (frame_of f.host f.own f.s) n j ∷ f.rest)) st.1.0
        ∙ ap (λ l. at_rest k y (begun m args w) (after_choice (at_hand l) n (Some i) ∷ f.rest)) st.0

  -- the name of a new object
  pub made : (y : CodeObject) (c : ℕ) (v : Value) (u : Store) (f : Focus k g.vars L (R.Make c) u Goal)
      → Got y y.vars (fill_statements ss (AsExpression (literal v))) (frames_given k y v L)
  made y c v u f =
      value_lands k h g none end halt ss L (R.Make c) u f y _ f.base (I.New (name c)) v refl refl f.spot.2
      (given_here (R.Make c) u f y v f.base (I.New (name c)) f.stop f.spot.0 f.spot.2)

  -- a result, while the term is still at the send
  pub answered : (y : CodeObject) (to : Value) (m : ℕ) (args : List Value) (v : Value) (u : Store) (f : Focus k g.vars L (R.SynchronousSend to m args) u Goal)
      → Got y y.vars (fill_statements ss (AsExpression (literal v))) (frames_given k y v L)
  answered y to m args v u f =
      let i = I.Send (name m) (length args) in
      let vs = push_all args (to ∷ f.base) in
      value_lands k h g none end halt ss L (R.SynchronousSend to m args) u f y _ vs i v refl refl f.spot.2
      (given_here (R.SynchronousSend to m args) u f y v vs i f.stop f.spot.0 f.spot.2
      ∙ ap (λ l. at_rest k y (next (at_hand (R.SynchronousSend to m args) u f vs) (v ∷ l)) f.rest) (drop_call args f.base to))

  -- a result, where the term waits
  pub resumed : (y : CodeObject) (b m : ℕ) (v : Value) (u : Store) (f : Focus k g.vars L (R.Waiting b m) u Goal)
      → Got y y.vars (fill_statements ss (AsExpression (literal v))) (frames_given k y v L)
  resumed y b m v u f =
      let args = f.spot.2.0 in
      let i = I.Send (name m) (length args) in
      let vs = push_all args (V.Ref b ∷ f.base) in
      value_lands k h g none end halt ss L (R.Waiting b m) u f y _ vs i v refl refl f.spot.2.1
      (given_here (R.Waiting b m) u f y v vs i f.stop f.spot.0 f.spot.2.1
      ∙ ap (λ l. at_rest k y (next (at_hand (R.Waiting b m) u f vs) (v ∷ l)) f.rest) (drop_call args f.base (V.Ref b)))

  -- the frames of a send stand where the call is being served
  pub waits : (b m : ℕ) (args : List Value) (u : Store) (f : Focus k g.vars L (R.SynchronousSend (V.Ref b) m args) u Goal)
      → Term k h g none end halt ss L (fill_statements ss (AsExpression (T.Wait b m))) L
  waits b m args u f =
      let z : Point = record f.s { above = [] } in
      subst (Term k h g none end halt ss L (fill_statements ss (AsExpression (T.Wait b m)))) (sym (frames_are (R.SynchronousSend (V.Ref b) m args) u f f.spot.0))
      (whole_of k h g none end halt ss L _ (AsExpression (T.Wait b m)) (f.rebuild (AsExpression (T.Wait b m)) z (args, refl, f.spot.2.0, f.spot.2.1)))

  -- a write
  pub wrote : (y : CodeObject) (v : Value) (u : Store) (f : Focus k g.vars L (R.Print (Item.Value v)) u Goal)
      → Got y y.vars (fill_statements ss (AsStatements T.Done)) (frames_gone_on k y L)
  wrote y v u f =
      list_lands k h g none end halt ss L (R.Print (Item.Value v)) u f y _ y.vars (fresh (suc f.s.at) f.base) T.Done refl refl
      (gone_on_here (R.Print (Item.Value v)) u f y (v ∷ f.base) I.Write f.stop f.spot.0 f.spot.2)
      (done_statement k h g none end halt ss L k _ f.g f.base (suc f.s.at) f.stop (sym f.spot.2.1.1))

  pub wrote_text : (y : CodeObject) (n : NameId) (u : Store) (f : Focus k g.vars L (R.Print (Item.Text n)) u Goal)
      → Got y y.vars (fill_statements ss (AsStatements T.Done)) (frames_gone_on k y L)
  wrote_text y n u f =
      list_lands k h g none end halt ss L (R.Print (Item.Text n)) u f y _ y.vars (fresh (suc f.s.at) f.base) T.Done refl refl
      (gone_on_here (R.Print (Item.Text n)) u f y f.base (I.WriteText n) f.stop f.spot.0 f.spot.2)
      (done_statement k h g none end halt ss L k _ f.g f.base (suc f.s.at) f.stop (sym f.spot.2.1.1))

  -- an asynchronous send
  pub posted : (y : CodeObject) (to : Value) (m : ℕ) (args : List Value) (u : Store) (f : Focus k g.vars L (R.Post to m args) u Goal)
      → Got y y.vars (fill_statements ss (AsStatements T.Done)) (frames_gone_on k y L)
  posted y to m args u f =
      let i = I.Async (name m) (length args) in
      let vs = push_all args (to ∷ f.base) in
      list_lands k h g none end halt ss L (R.Post to m args) u f y _ y.vars (fresh (suc f.s.at) f.base) T.Done refl refl
      (gone_on_here (R.Post to m args) u f y vs i f.stop f.spot.0 f.spot.2
      ∙ ap (λ l. at_rest k y (next (at_hand (R.Post to m args) u f vs) l) f.rest) (drop_call args f.base to))
      (done_statement k h g none end halt ss L k _ f.g f.base (suc f.s.at) f.stop (sym f.spot.2.1.1))

  -- a method that was served for a caller returns: it ends, or goes on for no one
  pub returned : (y : CodeObject) (w : ℕ) (v : Value) (work : Statements) (u : Store) (f : Focus k g.vars L (R.Finish (Some w) v work) u Goal)
      → Got y y.vars (fill_statements ss (AsStatements work)) (frames_gone_on k y L)
  returned y w v work u f = by f.spot
    where
      by : Spot k f.over f.host f.own f.g f.base f.s f.stop (R.Finish (Some w) v work) u → Got y y.vars (fill_statements ss (AsStatements work)) (frames_gone_on k y L)
      by (inl (e, d)) =
          let a : frames_gone_on k y L ≡ instr_gone_on k y e.0 (frame_of f.host f.own f.s ∷ f.rest) (Some I.Ret) =
          ap (frames_gone_on k y) (f.split ∙ ap (λ l. l ++ frame_of f.host f.own f.s ∷ f.rest) e.1)
          ∙ ap (instr_gone_on k y e.0 (frame_of f.host f.own f.s ∷ f.rest)) e.4 in
          subst (λ q. Got y y.vars (fill_statements ss (AsStatements q)) (frames_gone_on k y L)) (sym d)
          (list_lands k h g none end halt ss L (R.Finish (Some w) v work) u f y _ y.vars (record f.s { above = [] }) T.Done refl refl a ((e.5, refl), (0, e.6)))
      by (inr e) =
          let a : frames_gone_on k y L ≡ instr_gone_on k y e.0 (frame_of f.host f.own f.s ∷ f.rest) (Some I.Post) =
          ap (frames_gone_on k y) (f.split ∙ ap (λ l. l ++ frame_of f.host f.own f.s ∷ f.rest) e.1)
          ∙ ap (instr_gone_on k y e.0 (frame_of f.host f.own f.s ∷ f.rest)) e.5 in
          let on : Frame = next (record e.0 { serves = S.Sender }) e.0.operands in
          let z : Point = record f.s { above = on ∷ [] } in (
            on,
            frame_of f.host f.own z ∷ f.rest,
            a,
            whole_of k h g none end halt ss L _ (AsStatements work) (f.rebuild (AsStatements work) z e.6),
          )

  -- a plain alternative
  pub picks : (y : CodeObject) (cs : List Choice) (j : ℕ) (x : Choice) (u : Store) (f : Focus k g.vars L (R.Choose cs) u Goal) → slice_get cs j ≡ Some x
      → Got y y.vars (fill_statements ss (AsStatements x.work)) (frames_picked k y (suc j) L)
  picks y cs j x u f e =
      let targets = f.spot.2.0 in
      let a = choice_at k _ f.g cs f.base targets f.stop j x f.spot.2.2 e in
      let vs = push_all (guards_of cs) f.base in
      let gone : dropped (length targets) vs ≡ f.base =
      ap (λ n. dropped n vs) (lists_length k _ f.g cs f.base targets f.stop f.spot.2.2) ∙ drop_args (guards_of cs) f.base in
      let i : suc j - 1 ≡ j = omega arith in
      list_lands k h g none end halt ss L (R.Choose cs) u f y _ y.vars (fresh a.0.at f.base) x.work refl refl
      (picked_here (R.Choose cs) u f y (suc j) vs (I.Select targets) (suc f.s.at) f.spot.0 f.spot.2.1
      ∙ ap (λ o. at_rest k y (at_alternative (at_hand (R.Choose cs) u f vs) (length targets) o) f.rest) (ap (slice_get targets) i ∙ a.1)
      ∙ ap (λ l. at_rest k y (record (at_hand (R.Choose cs) u f vs) { at = a.0.at; operands = l }) f.rest) gone)
      a.2

-- calls, in the code of a class
module _ (tree : ClassTree) (h : Head) (end : ℕ) (halt : slice_get (code_of (Some (class_code tree)) h.method) end ≡ Some I.Halt) (ss : Statements) (L : List Frame) where
  abbrev k : Option ClassCode
  k = Some (class_code tree)

  abbrev g : Numbering
  g = record { temps = []; vars = names_of tree.vars }

  abbrev Way : Option ℕ → Head → Numbering → Statements → Expression → Statements → Type 0
  Way c head i body value post =
      InMethod (code_of k head.method) c (UnderStatements k (code_of k head.method) i body []) (is_done body) (Under k (code_of k head.method) i value []) (as_value value)
      (UnderStatements k (code_of k head.method) i post) (is_done post) (fresh 0 [])

  way_in : (c : Option ℕ) (m : ℕ) (mt : MethodTree) (args : List Value) (w : Serves) (b : Begins tree m mt args w) (i : Numbering) → i.vars ≡ names_of tree.vars
      → Way c b.head (record i { temps = names_of (mt.params ++ mt.locals) }) mt.body mt.value mt.post
  way_in c m mt args w b i e =
      subst (λ vs. Way c b.head (record { temps = names_of (mt.params ++ mt.locals); vars = vs }) mt.body mt.value mt.post) (sym e) (b.way c)

  -- an own call
  pub calls : (o : ℕ) (y : CodeObject) (m : ℕ) (mt : MethodTree) (args : List Value) (b : Begins tree m mt args S.Own) → length mt.params ≡ length args
      → (u : Store) (f : Focus k g.vars L (R.Invoke m args) u (Target k h g refl end halt ss L))
      → Lands k h g refl end halt ss L y y.vars (fill_statements ss (AsExpression (T.Frame mt.name.name.0 (temps_of mt args) mt.body mt.value mt.post))) (frames_stepped k o y L)
  calls o y m mt args b count u f =
      let vs = push_all args f.base in
      let F = now k h g refl end halt ss L (R.Invoke m args) u f vs in
      let t = temps_of mt args in
      let z : Point = record { at = suc f.s.at; operands = f.base; above = frame_of b.head t (fresh 0 []) ∷ [] } in
      let part : Expression = T.Frame mt.name.name.0 t mt.body mt.value mt.post in
      let n : b.i.code.params ≡ length args = b.counts ∙ count in
      let e : frames_stepped k o y L ≡ at_rest k y (frame_of b.head t (fresh 0 [])) (frame_of f.host f.own z ∷ f.rest) =
      stepped_here k h g refl end halt ss L (R.Invoke m args) u f o y vs (I.Call (name m)) f.stop f.spot.0 f.spot.2
      ∙ ap (called k y F f.rest) b.is
      ∙ ap (λ j. at_rest k y (begun b.i (taken j vs []) S.Own) (next F (dropped j vs) ∷ f.rest)) n
      ∙ ap (λ l. at_rest k y (begun b.i l S.Own) (next F (dropped (length args) vs) ∷ f.rest)) (take_args args f.base)
      ∙ ap (λ l. at_rest k y (begun b.i args S.Own) (next F l ∷ f.rest)) (drop_args args f.base)
      ∙ ap (λ x. at_rest k y x (frame_of f.host f.own z ∷ f.rest)) b.frame in (
        frame_of b.head t (fresh 0 []),
        frame_of f.host f.own z ∷ f.rest,
        e,
        whole_of k h g refl end halt ss L _ (AsExpression part) (f.rebuild (AsExpression part) z
            ((refl, sym f.spot.2.1.1), (b.head, fresh 0 [], names_of (mt.params ++ mt.locals), refl, b.of, b.serves, b.names, way_in None m mt args S.Own b f.g f.vars))),
      )

  abbrev Served : MethodTree → Option ℕ → List Value → Statements → Statements
  Served mt caller args work = T.Then (T.Serve mt.name.name.0 caller (temps_of mt args) mt.body mt.value mt.post) work

  -- a frame that serves over one at a place that stands for the rest
  serving : (r : Reducible) (u : Store) (f : Focus k g.vars L r u (Target k h g refl end halt ss L)) (m : ℕ) (mt : MethodTree) (args : List Value) (caller : Option ℕ) (w : Serves)
      → (b : Begins tree m mt args w) → IsServing caller w → is_inner r ≡ false → after r f.own ≡ f.own
      → (y x : CodeObject) (at : ℕ) (work : Statements) → UnderStatements k (code_of k f.host.method) f.g work f.base (fresh at f.base) f.stop
      → x ≡ at_rest k y (begun b.i args w) (frame_of f.host f.own (fresh at f.base) ∷ f.rest)
      → Lands k h g refl end halt ss L y y.vars (fill_statements ss (AsStatements (Served mt caller args work))) x
  serving r u f m mt args caller w b serves inner same y x at work left e =
      let t = temps_of mt args in
      let z : Point = record { at = at; operands = f.base; above = frame_of b.head t (fresh 0 []) ∷ [] } in
      let c = code_of k f.host.method in
      let st : UnderStatements k c f.g (Served mt caller args work) f.base z f.stop =
      (at, inl ((refl, refl), (b.head, fresh 0 [], names_of (mt.params ++ mt.locals), refl, b.of, subst (IsServing caller) (sym b.serves) serves, b.names, way_in caller m mt args w b f.g f.vars)), left) in
      let part : UnderPart (is_inner r) k c f.g (AsStatements (Served mt caller args work)) f.base z f.stop =
      subst (λ q. UnderPart q k c f.g (AsStatements (Served mt caller args work)) f.base z f.stop) (sym inner) st in (
        frame_of b.head t (fresh 0 []),
        frame_of f.host f.own z ∷ f.rest,
        e ∙ ap (λ q. at_rest k y q (frame_of f.host f.own z ∷ f.rest)) b.frame,
        subst (λ own. Term k h g refl end halt ss L (fill_statements ss (AsStatements (Served mt caller args work))) (frame_of b.head t (fresh 0 []) ∷ frame_of f.host own z ∷ f.rest)) same
            (whole_of k h g refl end halt ss L _ (AsStatements (Served mt caller args work)) (f.rebuild (AsStatements (Served mt caller args work)) z part)),
      )

  -- by an answer
  pub serves_answer : (y : CodeObject) (n : ℕ) (ns : List Named) (m : ℕ) (mt : MethodTree) (args : List Value) (caller : Option ℕ) (w : Serves) (b : Begins tree m mt args w) → IsServing caller w
      → (u : Store) (f : Focus k g.vars L (R.Accept ns) u (Target k h g refl end halt ss L))
      → Lands k h g refl end halt ss L y y.vars (fill_statements ss (AsStatements (Served mt caller args T.Done))) (frames_serving k y n b.i args w L)
  serves_answer y n ns m mt args caller w b serves u f =
      serving (R.Accept ns) u f m mt args caller w b serves refl refl y _ (suc f.s.at) T.Done
      (done_statement k h g refl end halt ss L k (code_of k f.host.method) f.g f.base (suc f.s.at) f.stop (sym f.spot.2.1.1))
      (serving_here k h g refl end halt ss L (R.Accept ns) u f y n b.i args w f.base (I.Answer (map (λ q. q.name) ns)) f.stop f.spot.0 f.spot.2)

  -- by an alternative of a select
  pub serves_select : (y : CodeObject) (cs : List Choice) (j : ℕ) (x : Choice) (m : ℕ) (mt : MethodTree) (args : List Value) (caller : Option ℕ) (w : Serves) (b : Begins tree m mt args w)
      → IsServing caller w → (u : Store) (f : Focus k g.vars L (R.Choose cs) u (Target k h g refl end halt ss L)) → slice_get cs j ≡ Some x
      → Lands k h g refl end halt ss L y y.vars (fill_statements ss (AsStatements (Served mt caller args x.work))) (frames_serving k y (suc j) b.i args w L)
  serves_select y cs j x m mt args caller w b serves u f e =
      let targets = f.spot.2.0 in
      let a = choice_at k (code_of k f.host.method) f.g cs f.base targets f.stop j x f.spot.2.2 e in
      let vs = push_all (guards_of cs) f.base in
      let F = now k h g refl end halt ss L (R.Choose cs) u f vs in
      let gone : dropped (length targets) vs ≡ f.base =
      ap (λ q. dropped q vs) (lists_length k (code_of k f.host.method) f.g cs f.base targets f.stop f.spot.2.2) ∙ drop_args (guards_of cs) f.base in
      let i : suc j - 1 ≡ j = omega arith in
      serving (R.Choose cs) u f m mt args caller w b serves refl refl y _ a.0.at x.work a.2
      (serving_here k h g refl end halt ss L (R.Choose cs) u f y (suc j) b.i args w vs (I.Select targets) (suc f.s.at) f.spot.0 f.spot.2.1
      ∙ ap (λ q. at_rest k y (begun b.i args w) (at_alternative F (length targets) q ∷ f.rest)) (ap (slice_get targets) i ∙ a.1)
      ∙ ap (λ l. at_rest k y (begun b.i args w) (record F { at = a.0.at; operands = l } ∷ f.rest)) gone)
