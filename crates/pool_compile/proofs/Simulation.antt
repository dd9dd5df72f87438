-- Code that represents an object follows it.
use Rattle.run_types.specs.declared.frames.CodeObject.{CodeObject}
use Rattle.run_types.specs.declared.frames.Frame.{Frame}
use Rattle.std.proofs.Common.{◌≡◌, refl, sym, ap, ◌∙◌, subst, ℕ, zero, suc, ◌==◌, List, [], ◌∷◌, ◌++◌, length, Option, Some, None, is_none, Bool, true, false, arith}
use Rattle.std.specs.Prelude.{slice_get, if◌then◌else◌, ◌&&◌, ◌||◌}
use Rattle.run_types.specs.declared.types.Value.{Value}
use Rattle.run_types.specs.declared.types.Value.TheVariants as V
use Rattle.run_types.specs.declared.types.Item.{Item}
use Rattle.run_types.specs.declared.types.Error.{Error}
use Rattle.run_types.specs.declared.types.Error.TheVariants.{NilOperand, NoOpenGuard}
use Rattle.pool_syntax.specs.Terms as T
use Rattle.pool_syntax.specs.Terms.{Store, Statements, MethodTree, ClassTree, ProgramTree}
use Rattle.pool_relation.specs.Reducible as R
use Rattle.pool_relation.specs.Reducible.{Choice, Reducible, Found, Evaluated, At, Contractum, AsExpression, AsStatements, fill_statements}
use Rattle.pool_relation.specs.Action as A
use Rattle.pool_relation.specs.Action.{Object, Action, action, found_action, redex_action, on_object, on_outcome, read, on_call, on_assignment, on_branch, on_select, literal, value_of, method_of}
use Rattle.run_types.specs.Values.{is_true}
use Rattle.pool_relation.specs.Transition as X
use Rattle.pool_relation.specs.Transition.{refilled, given, done, serving, picked, plain_choice}
use Rattle.run_types.specs.Partial.{require, ◌>>◌}
use Rattle.run_types.specs.declared.types.Serves.{Serves}
use Rattle.run_types.specs.declared.types.Serves.TheVariants as S
use Rattle.code_semantics.specs.declared.unit.ClassCode.{ClassCode}
use Rattle.code_semantics.specs.declared.unit.Unit.{Unit as Code}
use Rattle.code_semantics.specs.Kinds as K
use Rattle.code_semantics.specs.Kinds.{frames_kind, instr_kind, code_kind}
use Rattle.code_semantics.specs.Frames.{code_of, silent, settled}
use Rattle.code_semantics.specs.Step.{frames_stepped, frames_given, frames_gone_on, frames_picked, frames_serving, method_serving, code_stepped, code_given, code_gone_on, code_picked, code_serving, method_named}
use Rattle.pool_compile.specs.Code.{Numbering, name, names_of, class_code, code}
use Rattle.pool_compile.specs.StandsFor.{Head, keys, values, frame_of, IsServing, UnderStatements, StandsFor}
use Rattle.pool_compile.specs.Follows.{SameKind, AtRest, Represents, Follows, work_at, choice_work}
use Rattle.pool_compile.proofs.Focus.{Focus, Sight, over, redex, idle}
use Rattle.pool_compile.proofs.PositionBasics.{Keeps}
use Rattle.pool_compile.proofs.MethodPositions.{Over, Rewrites}
use Rattle.pool_compile.proofs.CodePositions.{see_statements}
use Rattle.pool_compile.proofs.KindLaws.{kind_at}
use Rattle.pool_compile.proofs.SilentTermination.{comes_to_rest}
use Rattle.pool_compile.proofs.RedexActions.{tag, tag_of, tag_is}
use Rattle.pool_compile.specs.TextPrograms.{is_text_program, are_text_methods}
use Rattle.pool_compile.proofs.Methods.{class_text, begins, Begins}
use Rattle.pool_compile.proofs.SilentSteps.{Whole, settles}
use Rattle.pool_compile.proofs.StepResults.{Target, Lands}
use Rattle.pool_compile.proofs.LocalStepSimulation.{local_at, method_found}
use Rattle.pool_compile.proofs.ValueAndRendezvousSteps.{made, resumed, waits, wrote, wrote_text, posted, returned, picks, serves_answer, serves_select}

abbrev h : Head
h = record { method = None; serves = S.Sender }

select_by : (a b d : Bool) (e r : Error) (ds cs : List Choice) → (if a then A.Fault e else (if b then A.Stuck else (if d then A.Select ds else A.Fault r))) ≡ A.Select cs → ds ≡ cs
select_by true b d e r ds cs q = absurd (grind (arith, q))
select_by false true d e r ds cs q = absurd (grind (arith, q))
select_by false false true e r ds cs q = ap (λ a. elim a as (λ _. List Choice) [ A.Select l ↦ l | _ ↦ ds ]) q
select_by false false false e r ds cs q = absurd (grind (arith, q))

select_is : (ds cs : List Choice) → on_select ds ≡ A.Select cs → ds ≡ cs
select_is ds cs q = select_by _ _ _ NilOperand NoOpenGuard ds cs q

plain_is : (c : Option Choice) (work : Statements) → plain_choice c ≡ Some work → (d : Choice) × (c ≡ Some d) × (d.work ≡ work)
plain_is None work q = absurd (grind (arith, q))
plain_is (Some c) work q = (c, refl, by (is_true c.guard && is_none c.answer) q)
  where
    by : (b : Bool) → (require b >> Some c.work) ≡ Some work → c.work ≡ work
    by true i = grind (arith, i)
    by false i = absurd (grind (arith, i))

work_is : (c : Option Choice) (work : Statements) → choice_work c ≡ Some work → (d : Choice) × (c ≡ Some d) × (d.work ≡ work)
work_is None work q = absurd (grind (arith, q))
work_is (Some c) work q = (c, refl, grind (arith, q))

module _ (p : ProgramTree) (u : Code) (o : ℕ) (x : Object) (y : CodeObject) (text : is_text_program p ≡ true) (unit : u.classes ≡ code p) (s : StandsFor p x y) (rest : AtRest (slice_get u.classes y.class) y.frames) where
  abbrev k : Option ClassCode
  k = Some (class_code s.tree)

  abbrev g : Numbering
  g = record { temps = []; vars = names_of s.tree.vars }

  is_k : slice_get u.classes y.class ≡ k
  is_k = ap (λ l. slice_get l y.class) unit ∙ s.class

  methods : are_text_methods s.tree.methods ≡ true
  methods = (class_text p x.class s.tree text s.is_class).1

  abbrev Goal : List Frame → Contractum → Type 0
  Goal = Target k h g refl s.end s.halt x.term y.frames

  abbrev F : Reducible → Store → Type 0
  F r t = Focus k g.vars y.frames r t Goal

  -- the object of code that was reached
  stands_at : (term : Statements) (vars : Store) (w : CodeObject) (vs : List Value) → Lands k h g refl s.end s.halt x.term y.frames y vs term w → vs ≡ values vars
      → keys vars ≡ names_of s.tree.vars → Represents p u (record x { term = term; vars = vars }) w
  stands_at term vars w vs l yv names =
      let all = settles k h g refl s.end s.halt term l.0 l.1 l.3 in (
        subst (StandsFor p (record x { term = term; vars = vars })) (sym l.2) (record {
          tree = s.tree;
          is_class = s.is_class;
          class = s.class;
          vars = yv;
          names = names;
          at = all.0;
          frames = all.1;
          end = s.end;
          halt = s.halt;
          term = all.2;
        }),
        subst (λ z. AtRest (slice_get u.classes z.class) z.frames) (sym l.2)
            (subst (λ c. AtRest c (settled (code_of k l.0.method) l.0 ∷ l.1)) (sym is_k) (comes_to_rest s.tree l.0 l.1)),
      )

  -- the same variables
  stands : (term : Statements) (w : CodeObject) → Lands k h g refl s.end s.halt x.term y.frames y y.vars term w → Represents p u (record x { term = term }) w
  stands term w l = stands_at term x.vars w y.vars l s.vars s.names

  module _ (r : Reducible) (t : Store) (e : R.statements_redex [] x.term ≡ At r t) (f : F r t) where
    acts : action p o x ≡ redex_action p o x t r
    acts = ap (found_action p o x) e

    kind_here : SameKind (action p o x) (code_kind u y)
    kind_here =
        subst (λ q. SameKind (action p o x) (frames_kind q y.frames)) (sym is_k)
        (subst (λ a. SameKind a (frames_kind k y.frames)) (sym acts) (kind_at p o x k g.vars y.frames Goal r t f))

    local_here : (term : Statements) (vars : Store) → action p o x ≡ A.Local term vars → Represents p u (record x { term = term; vars = vars }) (code_stepped u o y)
    local_here term vars q =
        let l = local_at p x y s.tree s.is_class methods h s.end s.halt s.vars s.names o term vars r t f (sym acts ∙ q) in
        stands_at term vars (code_stepped u o y) l.0
        (subst (λ c. Lands k h g refl s.end s.halt x.term y.frames y l.0 term (frames_stepped c o y y.frames)) (sym is_k) l.1) l.2 l.3

  given_k : (v : Value) → frames_given k y v y.frames ≡ code_given u y v
  given_k v = ap (λ c. frames_given c y v y.frames) (sym is_k)

  gone_on_k : frames_gone_on k y y.frames ≡ code_gone_on u y
  gone_on_k = ap (λ c. frames_gone_on c y y.frames) (sym is_k)

  moved : (term : Statements) (w z : CodeObject) → w ≡ z → Lands k h g refl s.end s.halt x.term y.frames y y.vars term w → Represents p u (record x { term = term }) z
  moved term w z e l = subst (Represents p u (record x { term = term })) e (stands term w l)

  made_by : (v : Value) (r : Reducible) (t : Store) → F r t → 3 ≡ tag_of r → Represents p u (given x v) (code_given u y v)
  made_by v (R.Make c) t f i = moved _ _ _ (given_k v) (made k h g refl s.end s.halt x.term y.frames y c v t f)
  made_by v (R.Finish None w work) t f i = absurd (grind (arith, i))
  made_by v (R.Finish (Some n) w work) t f i = absurd (grind (arith, i))
  made_by v _ t f i = absurd (grind (arith, i))

  resumed_by : (v : Value) (r : Reducible) (t : Store) → F r t → 10 ≡ tag_of r → Represents p u (given x v) (code_given u y v)
  resumed_by v (R.Waiting b m) t f i = moved _ _ _ (given_k v) (resumed k h g refl s.end s.halt x.term y.frames y b m v t f)
  resumed_by v (R.Finish None w work) t f i = absurd (grind (arith, i))
  resumed_by v (R.Finish (Some n) w work) t f i = absurd (grind (arith, i))
  resumed_by v _ t f i = absurd (grind (arith, i))

  wrote_by : (r : Reducible) (t : Store) → F r t → 6 ≡ tag_of r → Represents p u (done x) (code_gone_on u y)
  wrote_by (R.Print (Item.Value v)) t f i = moved _ _ _ gone_on_k (wrote k h g refl s.end s.halt x.term y.frames y v t f)
  wrote_by (R.Print (Item.Text n)) t f i = moved _ _ _ gone_on_k (wrote_text k h g refl s.end s.halt x.term y.frames y n t f)
  wrote_by (R.Finish None w work) t f i = absurd (grind (arith, i))
  wrote_by (R.Finish (Some n) w work) t f i = absurd (grind (arith, i))
  wrote_by _ t f i = absurd (grind (arith, i))

  posted_by : (r : Reducible) (t : Store) → F r t → 5 ≡ tag_of r → Represents p u (done x) (code_gone_on u y)
  posted_by (R.Post to m args) t f i = moved _ _ _ gone_on_k (posted k h g refl s.end s.halt x.term y.frames y to m args t f)
  posted_by (R.Finish None w work) t f i = absurd (grind (arith, i))
  posted_by (R.Finish (Some n) w work) t f i = absurd (grind (arith, i))
  posted_by _ t f i = absurd (grind (arith, i))

  returned_by : (r : Reducible) (t : Store) → R.statements_redex [] x.term ≡ At r t → F r t → 9 ≡ tag_of r → Represents p u (X.returned x) (code_gone_on u y)
  returned_by (R.Finish None v work) t e f i = absurd (grind (arith, i))
  returned_by (R.Finish (Some w) v work) t e f i =
      subst (λ a. Represents p u (refilled x (AsStatements (X.work_left a))) (code_gone_on u y)) (sym e)
      (moved _ _ _ gone_on_k (returned k h g refl s.end s.halt x.term y.frames y w v work t f))
  returned_by _ t e f i = absurd (grind (arith, i))

  whole_stands : (term : Statements) → Whole k h g refl s.end s.halt term y.frames → Represents p u (record x { term = term }) y
  whole_stands term w = (
    record {
      tree = s.tree;
      is_class = s.is_class;
      class = s.class;
      vars = s.vars;
      names = s.names;
      at = w.0;
      frames = w.1;
      end = s.end;
      halt = s.halt;
      term = w.2;
    },
    rest,
  )

  held_by : (b m : ℕ) (args : List Value) (r : Reducible) (t : Store) → F r t → redex_action p o x t r ≡ A.Send b m args → 4 ≡ tag_of r
      → Represents p u (refilled x (AsExpression (T.Wait b m))) y
  held_by b m args (R.SynchronousSend (V.Ref c) n more) t f q i =
      let same_b : c ≡ b = grind (arith, q) in
      let same_m : n ≡ m = grind (arith, q) in
      subst (λ a. Represents p u (refilled x (AsExpression (T.Wait a m))) y) same_b
      (subst (λ a. Represents p u (refilled x (AsExpression (T.Wait c a))) y) same_m (whole_stands _ (waits k h g refl s.end s.halt x.term y.frames c n more t f)))
  held_by b m args (R.SynchronousSend V.Nil n more) t f q i = absurd (grind (arith, q))
  held_by b m args (R.SynchronousSend (V.Int z) n more) t f q i = absurd (grind (arith, q))
  held_by b m args (R.SynchronousSend (V.Bool z) n more) t f q i = absurd (grind (arith, q))
  held_by b m args (R.Finish None v work) t f q i = absurd (grind (arith, i))
  held_by b m args (R.Finish (Some w) v work) t f q i = absurd (grind (arith, i))
  held_by b m args _ t f q i = absurd (grind (arith, i))

  picked_k : (j : ℕ) → frames_picked k y j y.frames ≡ code_picked u y j
  picked_k j = ap (λ c. frames_picked c y j y.frames) (sym is_k)

  picks_by : (cs : List Choice) (j : ℕ) (c : Choice) (r : Reducible) (t : Store) → F r t → redex_action p o x t r ≡ A.Select cs → 8 ≡ tag_of r → slice_get cs j ≡ Some c
      → Represents p u (refilled x (AsStatements c.work)) (code_picked u y (suc j))
  picks_by cs j c (R.Choose ds) t f q i e =
      let same : ds ≡ cs = select_is ds cs q in
      moved _ _ _ (picked_k (suc j)) (picks k h g refl s.end s.halt x.term y.frames y ds j c t f (subst (λ l. slice_get l j ≡ Some c) (sym same) e))
  picks_by cs j c (R.Finish None v work) t f q i e = absurd (grind (arith, i))
  picks_by cs j c (R.Finish (Some w) v work) t f q i e = absurd (grind (arith, i))
  picks_by cs j c _ t f q i e = absurd (grind (arith, i))

  -- serving
  abbrev Serving : ℕ → ℕ → MethodTree → List Value → Option ℕ → Serves → Statements → Type 0
  Serving i m mt args caller w work =
      (z : CodeObject) × (code_serving u y i (name m) args w ≡ Some z) × Represents p u (serving x mt caller args work) z

  serving_k : (i m : ℕ) (mt : MethodTree) (args : List Value) (w : Serves) (b : Begins s.tree m mt args w) → code_serving u y i (name m) args w ≡ Some (frames_serving k y i b.i args w y.frames)
  serving_k i m mt args w b =
      ap (λ c. method_serving c y i (method_named c (name m)) args w) is_k ∙ ap (λ n. method_serving k y i n args w) b.is

  answers_by : (i m : ℕ) (mt : MethodTree) (args : List Value) (caller : Option ℕ) (w : Serves) → Begins s.tree m mt args w → IsServing caller w
      → (r : Reducible) (t : Store) → F r t → 7 ≡ tag_of r → Serving i m mt args caller w T.Done
  answers_by i m mt args caller w b is (R.Accept ns) t f q =
      (frames_serving k y i b.i args w y.frames, serving_k i m mt args w b, stands _ _ (serves_answer s.tree h s.end s.halt x.term y.frames y i ns m mt args caller w b is t f))
  answers_by i m mt args caller w b is (R.Finish None v work) t f q = absurd (grind (arith, q))
  answers_by i m mt args caller w b is (R.Finish (Some n) v work) t f q = absurd (grind (arith, q))
  answers_by i m mt args caller w b is _ t f q = absurd (grind (arith, q))

  selects_by : (cs : List Choice) (j : ℕ) (c : Choice) (m : ℕ) (mt : MethodTree) (args : List Value) (caller : Option ℕ) (w : Serves) → Begins s.tree m mt args w → IsServing caller w
      → (r : Reducible) (t : Store) → F r t → redex_action p o x t r ≡ A.Select cs → 8 ≡ tag_of r → slice_get cs j ≡ Some c → Serving (suc j) m mt args caller w c.work
  selects_by cs j c m mt args caller w b is (R.Choose ds) t f q i e =
      let same : ds ≡ cs = select_is ds cs q in (
        frames_serving k y (suc j) b.i args w y.frames,
        serving_k (suc j) m mt args w b,
        stands _ _ (serves_select s.tree h s.end s.halt x.term y.frames y ds j c m mt args caller w b is t f (subst (λ l. slice_get l j ≡ Some c) (sym same) e)),
      )
  selects_by cs j c m mt args caller w b is (R.Finish None v work) t f q i e = absurd (grind (arith, i))
  selects_by cs j c m mt args caller w b is (R.Finish (Some n) v work) t f q i e = absurd (grind (arith, i))
  selects_by cs j c m mt args caller w b is _ t f q i e = absurd (grind (arith, i))

  module _ (r : Reducible) (t : Store) (e : R.statements_redex [] x.term ≡ At r t) (f : F r t) where
    tagged : (a : Action) → action p o x ≡ a → (tag a == 2 || tag a == 11) ≡ false → tag a ≡ tag_of r
    tagged a q n = tag_is p o x t r a (sym (acts r t e f) ∙ q) n

    at_redex : (a : Action) → action p o x ≡ a → redex_action p o x t r ≡ a
    at_redex a q = sym (acts r t e f) ∙ q

    picks_at : (a : Action) → action p o x ≡ a → (i : ℕ) (work : Statements) → picked a i ≡ Some work → Represents p u (refilled x (AsStatements work)) (code_picked u y i)
    picks_at (A.Select cs) q zero work n = absurd (grind (arith, n))
    picks_at (A.Select cs) q (suc j) work n =
        let c = plain_is (slice_get cs j) work n in
        subst (λ ss. Represents p u (refilled x (AsStatements ss)) (code_picked u y (suc j))) c.2 (picks_by cs j c.0 r t f (at_redex (A.Select cs) q) (tagged (A.Select cs) q refl) c.1)
    picks_at _ q i work n = absurd (grind (arith, n))

    serves_at : (a : Action) → action p o x ≡ a → (i m : ℕ) (work : Statements) (mt : MethodTree) (args : List Value) (caller : Option ℕ) (w : Serves)
        → work_at a i ≡ Some work → method_of p x.class m (length args) ≡ Some mt → IsServing caller w → Serving i m mt args caller w work
    serves_at (A.Answer ns) q i m work mt args caller w n is serves =
        let b = begins s.tree m mt args w methods (method_found p x.class s.tree m (length args) mt s.is_class is).0 in
        let d : T.Done ≡ work = grind (arith, n) in
        subst (Serving i m mt args caller w) d (answers_by i m mt args caller w b serves r t f (tagged (A.Answer ns) q refl))
    serves_at (A.Select cs) q zero m work mt args caller w n is serves = absurd (grind (arith, n))
    serves_at (A.Select cs) q (suc j) m work mt args caller w n is serves =
        let b = begins s.tree m mt args w methods (method_found p x.class s.tree m (length args) mt s.is_class is).0 in
        let c = work_is (slice_get cs j) work n in
        subst (Serving (suc j) m mt args caller w) c.2 (selects_by cs j c.0 m mt args caller w b serves r t f (at_redex (A.Select cs) q) (tagged (A.Select cs) q refl) c.1)
    serves_at _ q i m work mt args caller w n is serves = absurd (grind (arith, n))

    follows_here : Follows p u o x y
    follows_here = record {
      kind = kind_here r t e f;
      local = local_here r t e f;
      made = λ c v q. made_by v r t f (tagged (A.New c) q refl);
      held = λ b m args q. held_by b m args r t f (at_redex (A.Send b m args) q) (tagged (A.Send b m args) q refl);
      resumed = λ b m v q. resumed_by v r t f (tagged (A.Waits b m) q refl);
      wrote = λ item q. wrote_by r t f (tagged (A.Write item) q refl);
      posted = λ b m args q. posted_by r t f (tagged (A.Async b m args) q refl);
      returned = λ w v q. returned_by r t e f (tagged (A.Return w v) q refl);
      picks = λ i work n. picks_at (action p o x) refl i work n;
      serves = λ i m work mt args caller w n is serves. serves_at (action p o x) refl i m work mt args caller w n is serves;
    }

  -- a body that is done
  module _ (e : R.statements_redex [] x.term ≡ Evaluated tt) (top : frames_kind k y.frames ≡ K.Finished) where
    finished : action p o x ≡ A.Finished
    finished = ap (found_action p o x) e

    follows_finished : Follows p u o x y
    follows_finished = record {
      kind = subst (λ a. SameKind a (code_kind u y)) (sym finished) (ap (λ q. frames_kind q y.frames) is_k ∙ top);
      local = λ term vars q. absurd (let i : A.Finished ≡ A.Local term vars = sym finished ∙ q in grind (arith, i));
      made = λ c v q. absurd (let i : A.Finished ≡ A.New c = sym finished ∙ q in grind (arith, i));
      held = λ b m args q. absurd (let i : A.Finished ≡ A.Send b m args = sym finished ∙ q in grind (arith, i));
      resumed = λ b m v q. absurd (let i : A.Finished ≡ A.Waits b m = sym finished ∙ q in grind (arith, i));
      wrote = λ item q. absurd (let i : A.Finished ≡ A.Write item = sym finished ∙ q in grind (arith, i));
      posted = λ b m args q. absurd (let i : A.Finished ≡ A.Async b m args = sym finished ∙ q in grind (arith, i));
      returned = λ w v q. absurd (let i : A.Finished ≡ A.Return w v = sym finished ∙ q in grind (arith, i));
      picks = λ i work n. absurd (let j : picked A.Finished i ≡ Some work = ap (λ a. picked a i) (sym finished) ∙ n in grind (arith, j));
      serves = λ i m work mt args caller w n is serves. absurd (let j : work_at A.Finished i ≡ Some work = ap (λ a. work_at a i) (sym finished) ∙ n in grind (arith, j));
    }

  by_sight : AtRest k y.frames
      → Sight k g.vars y.frames (R.statements_redex [] x.term) (Over x.term [] s.at s.end)
      (Rewrites h [] x.term (λ part. UnderStatements k (code_of k h.method) g (fill_statements x.term part)) [] s.end)
      (Keeps h [] (UnderStatements k (code_of k h.method) g x.term) [] s.end)
      → Follows p u o x y
  by_sight quiet (over a e fin) =
      follows_finished e
      (ap (frames_kind k) (s.frames ∙ ap (λ l. l ++ frame_of h [] s.at ∷ []) fin.1)
      ∙ ap (instr_kind (frame_of h [] s.at)) (ap (slice_get (code_of k None)) fin.3 ∙ s.halt))
  by_sight quiet (redex r t e f) = follows_here r t e f
  by_sight quiet (idle i) =
      absurd (let q : silent i.f (slice_get (code_of k i.f.method) i.f.at) ≡ None = subst (AtRest k) i.split quiet in grind (arith, q, i.quiet))

  pub follows : Follows p u o x y
  follows =
      by_sight (subst (λ c. AtRest c y.frames) is_k rest)
      (subst (λ l. Sight k g.vars l (R.statements_redex [] x.term) (Over x.term [] s.at s.end)
      (Rewrites h [] x.term (λ part. UnderStatements k (code_of k h.method) g (fill_statements x.term part)) [] s.end)
      (Keeps h [] (UnderStatements k (code_of k h.method) g x.term) [] s.end)) (sym s.frames)
      (see_statements k h [] g x.term [] s.at s.end refl s.term))
