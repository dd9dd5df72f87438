-- The next action of the code is that of the term.
use Rattle.run_types.specs.declared.frames.Frame.{Frame}
use Rattle.std.proofs.Common.{◌≡◌, refl, sym, ap, ◌∙◌, subst, ℕ, suc, ◌+◌, List, [], ◌∷◌, ◌++◌, length, Option, Some, None, is_some, Bool, true, false, arith, inl, inr, append-nil}
use Rattle.std.specs.Prelude.{map, if◌then◌else◌, ◌||◌}
use Rattle.std.specs.List.{list_any}
use Rattle.run_types.specs.declared.types.Op.{Op}
use Rattle.run_types.specs.declared.types.Op.TheVariants as O
use Rattle.run_types.specs.declared.types.Value.{Value}
use Rattle.run_types.specs.declared.types.Value.TheVariants as V
use Rattle.run_types.specs.declared.types.Item.TheVariants as Item
use Rattle.run_types.specs.declared.types.Error.TheVariants.{NilOperand}
use Rattle.pool_syntax.specs.Terms as T
use Rattle.pool_syntax.specs.Terms.{Store, ProgramTree, MethodTree, Statements}
use Rattle.pool_syntax.specs.Classes.{class_of}
use Rattle.run_types.specs.Values.{Outcome, Gives, Fails, WrongSort, prefix_value, infix_value, is_bool, is_nil, not_bool, is_true}
use Rattle.pool_relation.specs.Reducible as R
use Rattle.pool_relation.specs.Reducible.{Choice, Reducible, Contractum}
use Rattle.pool_relation.specs.Action as A
use Rattle.pool_relation.specs.Action.{Object, Action, value_of, on_outcome, read, on_call, on_object, on_assignment, on_branch, on_select, method_of, redex_action}
use Rattle.code_semantics.specs.declared.unit.Instr.{Instr}
use Rattle.code_semantics.specs.declared.unit.Instr.TheVariants as I
use Rattle.code_semantics.specs.declared.unit.AltCode.{AltCode}
use Rattle.code_semantics.specs.declared.unit.ClassCode.{ClassCode}
use Rattle.run_types.specs.Operands.{top, taken, dropped}
use Rattle.code_semantics.specs.Kinds as K
use Rattle.code_semantics.specs.Kinds.{Kind, instr_kind, frames_kind, operated, outcome_kind, sent_kind, select_kind, return_kind, offers}
use Rattle.pool_syntax.specs.Typing.{contains}
use Rattle.pool_compile.specs.Code.{Numbering, name, load, store, number_of}
use Rattle.pool_compile.specs.StandsFor.{Point, Head, frame_of, push_all}
use Rattle.pool_compile.specs.Follows.{SameKind, offered}
use Rattle.pool_compile.proofs.Focus.{Stand, Ending, Lists, guards_of, Focus, Spot, Returning}

-- values that were pushed come off again
pub dropped_all : (vs : List Value) (j : ℕ) (base : List Value) → dropped (length vs + j) (push_all vs base) ≡ dropped j base
dropped_all [] j base = ap (λ n. dropped n base) (let e : 0 + j ≡ j = omega arith in e)
dropped_all (v ∷ vs) j base =
    ap (λ n. dropped n (push_all vs (v ∷ base))) (let e : suc (length vs) + j ≡ length vs + suc j = omega arith in e)
    ∙ dropped_all vs (suc j) (v ∷ base)

taken_all : (vs : List Value) (j : ℕ) (base args : List Value) → taken (length vs + j) (push_all vs base) args ≡ taken j base (vs ++ args)
taken_all [] j base args = ap (λ n. taken n base args) (let e : 0 + j ≡ j = omega arith in e)
taken_all (v ∷ vs) j base args =
    ap (λ n. taken n (push_all vs (v ∷ base)) args) (let e : suc (length vs) + j ≡ length vs + suc j = omega arith in e)
    ∙ taken_all vs (suc j) (v ∷ base) args

pub drop_args : (vs base : List Value) → dropped (length vs) (push_all vs base) ≡ base
drop_args vs base = ap (λ n. dropped n (push_all vs base)) (let e : length vs ≡ length vs + 0 = omega arith in e) ∙ dropped_all vs 0 base

pub take_args : (vs base : List Value) → taken (length vs) (push_all vs base) [] ≡ vs
take_args vs base =
    ap (λ n. taken n (push_all vs base) []) (let e : length vs ≡ length vs + 0 = omega arith in e) ∙ taken_all vs 0 base [] ∙ append-nil vs

-- the kind at an instruction at hand
stand_kind : (k : Option ClassCode) (h : Head) (own : Store) (s : Point) (vs : List Value) (i : Instr) (stop : ℕ) (rest : List Frame)
    → Stand k h s vs i stop
    → frames_kind k (frame_of h own s ∷ rest) ≡ instr_kind (frame_of h own (record s { operands = vs })) (Some i)
stand_kind k h own s vs i stop rest st =
    ap (instr_kind (frame_of h own s)) st.1.0 ∙ ap (λ l. instr_kind (frame_of h own (record s { operands = l })) (Some i)) st.0

-- what frames do that are as they are said to be
here_kind : (k : Option ClassCode) (L over : List Frame) (h : Head) (own : Store) (s : Point) (vs : List Value) (i : Instr) (stop : ℕ) (rest : List Frame)
    → L ≡ over ++ frame_of h own s ∷ rest → over ≡ [] → Stand k h s vs i stop
    → frames_kind k L ≡ instr_kind (frame_of h own (record s { operands = vs })) (Some i)
here_kind k L over h own s vs i stop rest split empty st =
    ap (frames_kind k) (split ∙ ap (λ o. o ++ frame_of h own s ∷ rest) empty) ∙ stand_kind k h own s vs i stop rest st

outcome_same : (x : Object) (o : Outcome) → SameKind (on_outcome x o) (outcome_kind o)
outcome_same x (Gives v) = refl
outcome_same x (Fails e) = refl
outcome_same x WrongSort = tt

unary_same : (x : Object) (op : Op) (v : Value) (base : List Value) → SameKind (on_outcome x (prefix_value op v)) (outcome_kind (operated op (v ∷ base)))
unary_same x O.Neg v base = outcome_same x _
unary_same x O.Not v base = outcome_same x _
unary_same x _ v base = tt

binary_same : (x : Object) (op : Op) (v w : Value) (base : List Value)
    → SameKind (on_outcome x (infix_value op v w)) (outcome_kind (operated op (w ∷ v ∷ base)))
binary_same x O.Neg v w base = tt
binary_same x O.Not v w base = tt
binary_same x op v w base = outcome_same x (infix_value op v w)

read_same : (x : Object) (a b : Option Value) → SameKind (read x a b) K.Local
read_same x (Some v) b = refl
read_same x None (Some v) = refl
read_same x None None = tt

call_same : (x : Object) (args : List Value) (m : Option MethodTree) → SameKind (on_call x args m) K.Local
call_same x args None = tt
call_same x args (Some m) = refl

sent_same : (go : ℕ → Action) (to : ℕ → Kind) (v : Value) → ((b : ℕ) → SameKind (go b) (to b)) → SameKind (on_object v go) (sent_kind v to)
sent_same go to (V.Ref b) f = f b
sent_same go to V.Nil f = refl
sent_same go to (V.Int z) f = tt
sent_same go to (V.Bool b) f = tt

if_same : (b : Bool) (x y : Action) (k : Kind) → SameKind x k → SameKind y k → SameKind (if b then x else y) k
if_same true x y k p q = p
if_same false x y k p q = q

branch_same : (x : Object) (v : Value) (these those : T.Statements) → SameKind (on_branch x v these those) (if is_bool v then K.Local else K.Fault NilOperand)
branch_same x (V.Bool true) these those = refl
branch_same x (V.Bool false) these those = refl
branch_same x V.Nil these those = refl
branch_same x (V.Int z) these those = tt
branch_same x (V.Ref n) these those = tt

any_guard : (f : Value → Bool) (cs : List Choice) → list_any (λ c. f c.guard) cs ≡ list_any f (guards_of cs)
any_guard f [] = refl
any_guard f (c ∷ cs) = ap (λ b. f c.guard || b) (any_guard f cs)

offers_same : (k : Option ClassCode) (code : List Instr) (g : Numbering) (cs : List Choice) (base : List Value) (targets : List AltCode) (stop : ℕ)
    → Lists k code g cs base targets stop → offers targets (guards_of cs) ≡ map offered cs
offers_same k code g [] base [] stop l = refl
offers_same k code g [] base (a ∷ targets) stop l = absurd l
offers_same k code g (x ∷ cs) base [] stop l = absurd l
offers_same k code g (x ∷ cs) base (a ∷ targets) stop l =
    λ i. record { is_open = is_true x.guard; answer = l.0 i } ∷ offers_same k code g cs base targets stop l.2 i

pub lists_length : (k : Option ClassCode) (code : List Instr) (g : Numbering) (cs : List Choice) (base : List Value) (targets : List AltCode) (stop : ℕ)
    → Lists k code g cs base targets stop → length targets ≡ length (guards_of cs)
lists_length k code g [] base [] stop l = refl
lists_length k code g [] base (a ∷ targets) stop l = absurd l
lists_length k code g (x ∷ cs) base [] stop l = absurd l
lists_length k code g (x ∷ cs) base (a ∷ targets) stop l = ap suc (lists_length k code g cs base targets stop l.2)

-- a guard that is nil is no truth value
nil_not_bool : (vs : List Value) → list_any is_nil vs ≡ true → list_any not_bool vs ≡ true
nil_not_bool [] h = absurd (grind (arith, h))
nil_not_bool (V.Nil ∷ vs) h = refl
nil_not_bool (V.Bool b ∷ vs) h = nil_not_bool vs h
nil_not_bool (V.Int z ∷ vs) h = refl
nil_not_bool (V.Ref n ∷ vs) h = refl

select_same : (cs : List Choice) (targets : List AltCode) → offers targets (guards_of cs) ≡ map offered cs → SameKind (on_select cs) (select_kind targets (guards_of cs))
select_same cs targets same =
    by (list_any is_nil (guards_of cs)) (list_any not_bool (guards_of cs)) (list_any is_true (guards_of cs)) refl refl refl
  where
    by : (a b d : Bool) → list_any is_nil (guards_of cs) ≡ a → list_any not_bool (guards_of cs) ≡ b → list_any is_true (guards_of cs) ≡ d
        → SameKind (on_select cs) (select_kind targets (guards_of cs))
    by true b d p q r = rw (any_guard is_nil cs, p, nil_not_bool (guards_of cs) p) refl
    by false true d p q r = rw (any_guard is_nil cs, p, any_guard not_bool cs, q) tt
    by false false true p q r = rw (any_guard is_nil cs, p, any_guard not_bool cs, q, any_guard is_true cs, r) (ap K.Select same)
    by false false false p q r = rw (any_guard is_nil cs, p, any_guard not_bool cs, q, any_guard is_true cs, r) refl

load_kind : (f : Frame) (g : Numbering) (n : ℕ) → instr_kind f (Some (load g n)) ≡ K.Local
load_kind f g n = by (contains g.temps n)
  where
    by : (b : Bool) → instr_kind f (Some (if b then I.LoadT (number_of g.temps n) else I.LoadI (number_of g.vars n))) ≡ K.Local
    by true = refl
    by false = refl

store_kind : (f : Frame) (g : Numbering) (n : ℕ) → instr_kind f (Some (store g n)) ≡ K.Local
store_kind f g n = by (contains g.temps n)
  where
    by : (b : Bool) → instr_kind f (Some (if b then I.StoreT (number_of g.temps n) else I.StoreI (number_of g.vars n))) ≡ K.Local
    by true = refl
    by false = refl

assignment_same : (x : Object) (u : Store) (n : ℕ) (v : Value) → SameKind (on_assignment x u n v) K.Local
assignment_same x u n v =
    if_same (is_some (value_of u n)) _ _ K.Local refl (if_same (is_some (value_of x.vars n)) _ A.Stuck K.Local refl tt)

module _ (p : ProgramTree) (o : ℕ) (x : Object) (k : Option ClassCode) (W : List ℕ) (L : List Frame) (T : List Frame → Contractum → Type 0) where
  at : (r : Reducible) (u : Store) (f : Focus k W L r u T) (vs : List Value) (i : Instr) (stop : ℕ) → f.over ≡ [] → Stand k f.host f.s vs i stop
      → SameKind (redex_action p o x u r) (instr_kind (frame_of f.host f.own (record f.s { operands = vs })) (Some i))
      → SameKind (redex_action p o x u r) (frames_kind k L)
  at r u f vs i stop empty st same =
      subst (SameKind (redex_action p o x u r)) (sym (here_kind k L f.over f.host f.own f.s vs i stop f.rest f.split empty st)) same

  -- a method that returns before its post statements
  at_return : (r : Reducible) (u : Store) (f : Focus k W L r u T) (w : Option ℕ) (v : Value) (work : Statements) (e : Returning k f.over f.host f.g f.base f.s f.stop w v work)
      → SameKind (redex_action p o x u r) (return_kind e.0.serves v) → SameKind (redex_action p o x u r) (frames_kind k L)
  at_return r u f w v work e same =
      let a : frames_kind k L ≡ frames_kind k (e.0 ∷ frame_of f.host f.own f.s ∷ f.rest) =
      ap (frames_kind k) (f.split ∙ ap (λ l. l ++ frame_of f.host f.own f.s ∷ f.rest) e.1) in
      let b : frames_kind k (e.0 ∷ frame_of f.host f.own f.s ∷ f.rest) ≡ return_kind e.0.serves v =
      ap (instr_kind e.0) e.5 ∙ ap (λ vs. return_kind e.0.serves (top vs)) e.4 in
      subst (SameKind (redex_action p o x u r)) (sym (a ∙ b)) same

  -- a method that is done
  ending : (r : Reducible) (u : Store) (f : Focus k W L r u T) (v : Value) (serves : Frame → Type 0) (e : Ending k f.over f.base f.s f.stop v u serves)
      → SameKind (redex_action p o x u r) (return_kind e.0.serves v) → SameKind (redex_action p o x u r) (frames_kind k L)
  ending r u f v serves e same =
      let a : frames_kind k L ≡ frames_kind k (e.0 ∷ frame_of f.host f.own f.s ∷ f.rest) =
      ap (frames_kind k) (f.split ∙ ap (λ l. l ++ frame_of f.host f.own f.s ∷ f.rest) e.1) in
      let b : frames_kind k (e.0 ∷ frame_of f.host f.own f.s ∷ f.rest) ≡ return_kind e.0.serves v =
      ap (instr_kind e.0) e.4 ∙ ap (λ vs. return_kind e.0.serves (top vs)) e.3 in
      subst (SameKind (redex_action p o x u r)) (sym (a ∙ b)) same

  pub kind_at : (r : Reducible) (u : Store) → Focus k W L r u T → SameKind (redex_action p o x u r) (frames_kind k L)
  kind_at R.OwnName u f = at R.OwnName u f _ _ _ f.spot.0 f.spot.2 refl
  kind_at (R.Read n) u f =
      at (R.Read n) u f _ _ _ f.spot.0 f.spot.2
      (subst (SameKind (read x (value_of u n) (value_of x.vars n))) (sym (load_kind (frame_of f.host f.own (record f.s { operands = f.base })) f.g n)) (read_same x (value_of u n) (value_of x.vars n)))
  kind_at (R.Make c) u f = at (R.Make c) u f _ _ _ f.spot.0 f.spot.2 (if_same (is_some (class_of p c)) (A.New c) A.Stuck _ refl tt)
  kind_at (R.Unary op v) u f = at (R.Unary op v) u f _ _ _ f.spot.0 f.spot.2 (unary_same x op v f.base)
  kind_at (R.Binary op v w) u f = at (R.Binary op v w) u f _ _ _ f.spot.0 f.spot.2 (binary_same x op v w f.base)
  kind_at (R.Invoke m args) u f =
      at (R.Invoke m args) u f _ _ _ f.spot.0 f.spot.2 (call_same x args (method_of p x.class m (length args)))
  kind_at (R.SynchronousSend v m args) u f =
      at (R.SynchronousSend v m args) u f _ _ _ f.spot.0 f.spot.2
      (rw (drop_args args (v ∷ f.base), take_args args (v ∷ f.base)) (sent_same (λ b. A.Send b m args) (λ b. K.Send b (name m) args) v (λ b. refl)))
  kind_at (R.Leave v) u f = ending (R.Leave v) u f v _ f.spot (rw f.spot.2 refl)
  kind_at (R.Waiting b m) u f =
      let args = f.spot.2.0 in
      at (R.Waiting b m) u f _ _ _ f.spot.0 f.spot.2.1
      (rw (drop_args args (V.Ref b ∷ f.base), take_args args (V.Ref b ∷ f.base)) (args, refl))
  kind_at (R.Set n v) u f =
      at (R.Set n v) u f _ _ _ f.spot.0 f.spot.2
      (subst (SameKind (on_assignment x u n v)) (sym (store_kind (frame_of f.host f.own (record f.s { operands = v ∷ f.base })) f.g n)) (assignment_same x u n v))
  kind_at (R.Print (Item.Value v)) u f = at (R.Print (Item.Value v)) u f _ _ _ f.spot.0 f.spot.2 refl
  kind_at (R.Print (Item.Text n)) u f = at (R.Print (Item.Text n)) u f _ _ _ f.spot.0 f.spot.2 refl
  kind_at (R.Drop v) u f = at (R.Drop v) u f _ _ _ f.spot.0 f.spot.2 refl
  kind_at (R.Post v m args) u f =
      at (R.Post v m args) u f _ _ _ f.spot.0 f.spot.2
      (rw (drop_args args (v ∷ f.base), take_args args (v ∷ f.base)) (sent_same (λ b. A.Async b m args) (λ b. K.Async b (name m) args) v (λ b. refl)))
  kind_at (R.Branch v these those) u f = at (R.Branch v these those) u f _ _ _ f.spot.0 f.spot.2.1 (branch_same x v these those)
  kind_at (R.Loop e ss) u f = at (R.Loop e ss) u f _ _ _ f.spot.0 f.spot.2.0 refl
  kind_at (R.Accept names) u f = at (R.Accept names) u f _ _ _ f.spot.0 f.spot.2 refl
  kind_at (R.Choose cs) u f =
      let targets = f.spot.2.0 in
      at (R.Choose cs) u f _ _ _ f.spot.0 f.spot.2.1
      (rw (lists_length k _ f.g cs f.base targets f.stop f.spot.2.2, take_args (guards_of cs) f.base)
      (select_same cs targets (offers_same k _ f.g cs f.base targets f.stop f.spot.2.2)))
  kind_at (R.Finish None v work) u f = by f.spot
    where
      by : Spot k f.over f.host f.own f.g f.base f.s f.stop (R.Finish None v work) u → SameKind (redex_action p o x u (R.Finish None v work)) (frames_kind k L)
      by (inl e) = ending (R.Finish None v work) u f v _ e.0 (rw e.0.2 refl)
      by (inr e) = absurd (grind (arith, e.3))
  kind_at (R.Finish (Some w) v work) u f = by f.spot
    where
      by : Spot k f.over f.host f.own f.g f.base f.s f.stop (R.Finish (Some w) v work) u → SameKind (redex_action p o x u (R.Finish (Some w) v work)) (frames_kind k L)
      by (inl e) = ending (R.Finish (Some w) v work) u f v _ e.0 (rw e.0.2.1 (e.0.2.0, refl))
      by (inr e) = at_return (R.Finish (Some w) v work) u f (Some w) v work e (rw e.2.1 (e.2.0, refl))
