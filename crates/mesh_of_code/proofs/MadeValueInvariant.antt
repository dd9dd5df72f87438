-- Each transition of code makes and shows only values that the unit's code can make.
use Rattle.std.proofs.Common.{◌≡◌, ◌≢◌, ◌⊎◌, inl, inr, refl, sym, ap, subst, ◌∙◌, ℕ, ◌==◌, List, [], ◌∷◌, ◌++◌, length, Option, Some, None, is_some, is_none, Bool, true, false, not}
use Rattle.std.specs.Prelude.{◌&&◌, if◌then◌else◌, slice_get}
use Rattle.std.specs.List.{list_any}
use Rattle.run_types.specs.declared.types.NameId.{NameId}
use Rattle.run_types.specs.declared.types.Value.{Value}
use Rattle.run_types.specs.declared.types.Value.TheVariants as V
use Rattle.run_types.specs.declared.types.Item.{Item}
use Rattle.run_types.specs.declared.types.Item.TheVariants as It
use Rattle.run_types.specs.declared.types.Label.{Label}
use Rattle.run_types.specs.declared.types.Label.TheVariants as L
use Rattle.run_types.specs.declared.types.Serves.TheVariants as S
use Rattle.run_types.specs.declared.types.Serves.{Serves}
use Rattle.run_types.specs.declared.types.Error.TheVariants.{NilOperand, NoOpenGuard}
use Rattle.run_types.specs.Values.{Outcome, Gives, Fails, WrongSort, is_true, is_bool, not_bool}
use Rattle.run_types.specs.declared.frames.CodeObject.{CodeObject}
use Rattle.run_types.specs.declared.frames.Frame.{Frame}
use Rattle.code_semantics.specs.declared.unit.Instr.{Instr}
use Rattle.code_semantics.specs.declared.unit.Instr.TheVariants as I
use Rattle.code_semantics.specs.declared.unit.ClassCode.{ClassCode}
use Rattle.code_semantics.specs.Frames.{code_of}
use Rattle.run_types.specs.Operands.{top, dropped, taken}
use Rattle.code_semantics.specs.declared.unit.Unit.{Unit as Code}
use Rattle.code_semantics.specs.Kinds as C
use Rattle.code_semantics.specs.Kinds.{operated, offers, outcome_kind, return_kind, sent_kind, instr_kind, frames_kind, code_kind}
use Rattle.code_semantics.specs.Step.{code_serving, code_made}
use Rattle.code_semantics.specs.Proper.{IsProper}
use Rattle.run_types.proofs.Laws.{first, second, equal, equals, decide, same_some, given_by, required, same_value, same_values, find_put_same, find_put_other, values_itself, each_append}
use Rattle.mesh_semantics.proofs.Laws.{running_gives, messages_same, messages_other}
use Rattle.mesh_semantics.specs.Act.{id}
use Rattle.run_types.specs.Same.{are_same}
use Rattle.run_types.specs.Message.{Message}
use Rattle.mesh_semantics.specs.Kind as K
use Rattle.mesh_semantics.specs.Kind.{Kind, is_local, makes, calls, posts, returns, waits_on, writes, fails, alternatives}
use Rattle.mesh_semantics.specs.Config.{Config, object_of, messages_of, put_object, put_messages}
use Rattle.mesh_semantics.specs.Moves.{running, offered, numbered, can_pick, has_message, first_message, without_message, move}
use Rattle.mesh_semantics.specs.Lawful.{Lawful}
use Rattle.run_types.specs.Tables.{Each}
use Rattle.code_semantics.specs.OfUnit.{IsObjectOf}
use Rattle.code_semantics.specs.MadeNumbers.{IsMadeIn, HoldsOfPlain}
use Rattle.code_semantics.specs.StepInstructions.{IsAsking, IsGoingOn}
use Rattle.code_semantics.proofs.Laws.{stepped_of, given_of, gone_on_of, picked_of, serving_of, made_is_of, async_values, send_values, return_value, write_value}
use Rattle.mesh_of_code.specs.Coded.{Placed, placed, kind_of, unless_served, coded}
use Rattle.mesh_of_code.specs.CodeInvariant.{IsOfCode}
use Rattle.mesh_of_code.specs.MadeValues.{IsTextIn}
use Rattle.mesh_of_code.proofs.MadeLabels.{IsNamedIn, IsMadeValue, AreMadeArgs, IsMadeMessage, IsMadeItem, HasMade, IsMadeLabel}
use Rattle.mesh_of_code.proofs.LawfulCode.{first_there}
use Rattle.mesh_of_code.proofs.TransitionInvariant.{each_left, code_kept, code_lawful}
use Rattle.mesh_of_code.proofs.KindFromTest.{new_is, send_is, async_is, return_is, wait_is, write_is, offered_is, pick_is}

-- objects and messages with made values alone
record Made (u : Code) (c : Config Placed) : Type 0 where
  objects : (o : ℕ) (x : Placed) → object_of c o ≡ Some x → IsObjectOf u (IsMadeValue u) x.object
  messages : (s r : ℕ) → Each (IsMadeMessage u) (messages_of c s r)

pub plain_made : (u : Code) → HoldsOfPlain (IsMadeIn u) (IsMadeValue u)
plain_made u = (λ z n. n, λ b. tt, tt)

-- an object is put in
put_made : (u : Code) (c : Config Placed) (o : ℕ) (x : Placed) → Made u c → IsObjectOf u (IsMadeValue u) x.object → Made u (put_object c o x)
put_made u c o x w h = record { objects = λ q z e. by q z e (decide q o); messages = w.messages }
  where
    by : (q : ℕ) (z : Placed) → object_of (put_object c o x) q ≡ Some z → (q ≡ o) ⊎ (q ≢ o) → IsObjectOf u (IsMadeValue u) z.object
    by q z e (inl i) = subst (λ (y : Placed). IsObjectOf u (IsMadeValue u) y.object) (same_some (sym (find_put_same o x c.objects) ∙ ap (object_of (put_object c o x)) (sym i) ∙ e)) h
    by q z e (inr n) = w.objects q z (sym (find_put_other q o x c.objects n) ∙ e)

-- a list of messages is put in
with_made : (u : Code) (c : Config Placed) (s r : ℕ) (ms : List Message) → Made u c → Each (IsMadeMessage u) ms → Made u (put_messages c s r ms)
with_made u c s r ms w h = record { objects = w.objects; messages = λ p q. by p q (decide p s) (decide q r) }
  where
    by : (p q : ℕ) → (p ≡ s) ⊎ (p ≢ s) → (q ≡ r) ⊎ (q ≢ r) → Each (IsMadeMessage u) (messages_of (put_messages c s r ms) p q)
    by p q (inl e) (inl f) =
        subst (λ j. Each (IsMadeMessage u) (messages_of (put_messages c s r ms) p j)) (sym f)
        (subst (λ j. Each (IsMadeMessage u) (messages_of (put_messages c s r ms) j r)) (sym e)
        (subst (Each (IsMadeMessage u)) (sym (messages_same c s r ms)) h))
    by p q (inr n) k = subst (Each (IsMadeMessage u)) (sym (messages_other c s r ms p q (λ e f. n e))) (w.messages p q)
    by p q (inl e) (inr n) = subst (Each (IsMadeMessage u)) (sym (messages_other c s r ms p q (λ e f. n f))) (w.messages p q)

-- what is written is the item that code is at
written_made : (u : Code) (k : C.Kind) (s : Option (ℕ × ℕ)) (item : Item) → writes (unless_served s (kind_of k)) item ≡ true → ((j : Item) → k ≡ C.Write j → IsMadeItem u j)
    → IsMadeItem u item
written_made u k (Some v) (It.Value z) h w = absurd (let q : false ≡ true = h in cc)
written_made u k (Some v) (It.Text z) h w = absurd (let q : false ≡ true = h in cc)
written_made u (C.Write (It.Value y)) None (It.Value z) h w = subst (IsMadeValue u) (same_value y z h) (w (It.Value y) refl)
written_made u (C.Write (It.Text t)) None (It.Value z) h w = absurd (let q : false ≡ true = h in cc)
written_made u (C.Write (It.Value y)) None (It.Text z) h w = absurd (let q : false ≡ true = h in cc)
written_made u (C.Write (It.Text t)) None (It.Text z) h w = subst (IsTextIn u) (equal t.0 z.0 h) (w (It.Text t) refl)
written_made u _ None (It.Value z) h w = absurd (let q : false ≡ true = h in cc)
written_made u _ None (It.Text z) h w = absurd (let q : false ≡ true = h in cc)

-- what is done next names what an instruction names
abbrev IsSaid : Code → C.Kind → Type 0
IsSaid u (C.New c) = IsNamedIn u c.0
IsSaid u (C.Send b m args) = IsNamedIn u m.0
IsSaid u (C.Async b m args) = IsNamedIn u m.0
IsSaid u (C.Write (It.Text s)) = IsTextIn u s.0
IsSaid u _ = Unit {0}

module _ (u : Code) where
  if_said : (b : Bool) (x y : C.Kind) → IsSaid u x → IsSaid u y → IsSaid u (if b then x else y)
  if_said true x y h k = h
  if_said false x y h k = k

  sent_said : (v : Value) (go : ℕ → C.Kind) → ((r : ℕ) → IsSaid u (go r)) → IsSaid u (sent_kind v go)
  sent_said (V.Ref r) go h = h r
  sent_said V.Nil go h = tt
  sent_said (V.Int z) go h = tt
  sent_said (V.Bool z) go h = tt

  outcome_said : (o : Outcome) → IsSaid u (outcome_kind o)
  outcome_said (Gives v) = tt
  outcome_said (Fails e) = tt
  outcome_said WrongSort = tt

  return_said : (s : Serves) (v : Value) → IsSaid u (return_kind s v)
  return_said (S.Caller k n) v = tt
  return_said S.Own v = tt
  return_said S.Sender v = tt

  said_at : (j : ℕ) (k : ClassCode) (f : Frame) → slice_get u.classes j ≡ Some k → (z : Option Instr) → slice_get (code_of (Some k) f.method) f.at ≡ z → IsSaid u (instr_kind f z)
  said_at j k f e (Some (I.New m)) h = inl (j, k, f.method, f.at, e, h)
  said_at j k f e (Some (I.Send m a)) h = sent_said (top (dropped a f.operands)) (λ r. C.Send r m (taken a f.operands [])) (λ r. inr (inl (a, (j, k, f.method, f.at, e, h))))
  said_at j k f e (Some (I.Async m a)) h = sent_said (top (dropped a f.operands)) (λ r. C.Async r m (taken a f.operands [])) (λ r. inr (inr (a, (j, k, f.method, f.at, e, h))))
  said_at j k f e (Some (I.WriteText s)) h = (j, k, f.method, f.at, e, h)
  said_at j k f e (Some (I.Oper op)) h = outcome_said (operated op f.operands)
  said_at j k f e (Some (I.Branch a)) h = if_said (is_bool (top f.operands)) C.Local (C.Fault NilOperand) tt tt
  said_at j k f e (Some I.Ret) h = return_said f.serves (top f.operands)
  said_at j k f e (Some I.Post) h = return_said f.serves (top f.operands)
  said_at j k f e (Some (I.Select alts)) h =
      let gs = taken (length alts) f.operands [] in
      if_said (list_any not_bool gs) (C.Fault NilOperand) (if list_any is_true gs then C.Select (offers alts gs) else C.Fault NoOpenGuard) tt
      (if_said (list_any is_true gs) (C.Select (offers alts gs)) (C.Fault NoOpenGuard) tt tt)
  said_at j k f e None h = tt
  said_at j k f e (Some _) h = tt

  said_of : (P : Value → Type 0) (x : CodeObject) → IsObjectOf u P x → IsSaid u (code_kind u x)
  said_of P x h = subst (λ (q : Option ClassCode). IsSaid u (frames_kind q x.frames)) (sym h.is_class) (by x.frames)
    where
      by : (fs : List Frame) → IsSaid u (frames_kind (Some h.class) fs)
      by [] = tt
      by (f ∷ fs) = said_at x.class h.class f h.is_class (slice_get (code_of (Some h.class) f.method) f.at) refl

module _ (u : Code) (proper : IsProper u) (c : Config Placed) (of_code : IsOfCode u c) (w : Made u c) where
  -- what an object sends, and gives back
  sent_args : (o : ℕ) (x : Placed) → object_of c o ≡ Some x → (b : ℕ) (m : NameId) (args : List Value) → code_kind u x.object ≡ C.Send b m args → IsNamedIn u m.0 × AreMadeArgs u args
  sent_args o x h b m args e =
      let v = send_values u proper (IsMadeValue u) (plain_made u) x.object (w.objects o x h) b m args e in
      (subst (IsSaid u) e (said_of u (IsMadeValue u) x.object (w.objects o x h)), (v.2, v.1))

  posted_args : (o : ℕ) (x : Placed) → object_of c o ≡ Some x → (b : ℕ) (m : NameId) (args : List Value) → code_kind u x.object ≡ C.Async b m args → IsNamedIn u m.0 × AreMadeArgs u args
  posted_args o x h b m args e =
      let v = async_values u proper (IsMadeValue u) (plain_made u) x.object (w.objects o x h) b m args e in
      (subst (IsSaid u) e (said_of u (IsMadeValue u) x.object (w.objects o x h)), (v.2, v.1))

  item_made : (o : ℕ) (x : Placed) → object_of c o ≡ Some x → (j : Item) → code_kind u x.object ≡ C.Write j → IsMadeItem u j
  item_made o x h (It.Value v) e = write_value u proper (IsMadeValue u) (plain_made u) x.object (w.objects o x h) (It.Value v) e
  item_made o x h (It.Text s) e = subst (IsSaid u) e (said_of u (IsMadeValue u) x.object (w.objects o x h))

  local_made : (d : Config Placed) (o : ℕ) → move (coded u) c (L.Local o) ≡ Some d → Made u d
  local_made d o e =
      let a = given_by (running (coded u) c o) _ d e in
      let r = running_gives (coded u) c o a.0 a.1 in
      let t = required (is_local ((coded u).kind o a.0)) _ d a.2 in
      subst (Made u) (same_some t.1)
      (put_made u c o ((coded u).stepped o a.0) w (stepped_of u proper (IsMadeValue u) (plain_made u) a.0.object (w.objects o a.0 r.0) o tt))

  write_made : (d : Config Placed) (o : ℕ) (item : Item) → move (coded u) c (L.Write o item) ≡ Some d → Made u d × IsMadeItem u item
  write_made d o item e =
      let a = given_by (running (coded u) c o) _ d e in
      let r = running_gives (coded u) c o a.0 a.1 in
      let t = required (writes ((coded u).kind o a.0) item) _ d a.2 in
      let k = write_is a.0.served (code_kind u a.0.object) item t.0 in (
        subst (Made u) (same_some t.1)
            (put_made u c o ((coded u).done a.0) w (gone_on_of u proper (IsMadeValue u) (plain_made u) a.0.object (w.objects o a.0 r.0) (subst IsGoingOn (sym k.2) tt))),
        written_made u (code_kind u a.0.object) a.0.served item t.0 (item_made o a.0 r.0),
      )

  pick_made : (d : Config Placed) (o i : ℕ) → move (coded u) c (L.Pick o i) ≡ Some d → Made u d
  pick_made d o i e =
      let a = given_by (running (coded u) c o) _ d e in
      let r = running_gives (coded u) c o a.0 a.1 in
      let t = required (can_pick (numbered (alternatives ((coded u).kind o a.0)) i)) _ d a.2 in
      let k = pick_is a.0.served (code_kind u a.0.object) i t.0 in
      subst (Made u) (same_some t.1)
      (put_made u c o ((coded u).picked o a.0 i) w (picked_of u proper (IsMadeValue u) (plain_made u) a.0.object (w.objects o a.0 r.0) i k.chooses))

  fault_made : (d : Config Placed) (o : ℕ) (error : _) → move (coded u) c (L.Fault o error) ≡ Some d → Made u d
  fault_made d o error e =
      let a = given_by (running (coded u) c o) _ d e in
      let r = running_gives (coded u) c o a.0 a.1 in
      let t = required (fails ((coded u).kind o a.0) error) _ d a.2 in
      subst (Made u) (same_some t.1) (put_made u c o ((coded u).faulted a.0 error) w (w.objects o a.0 r.0))

  send_made : (d : Config Placed) (o b : ℕ) (m : NameId) (args : List Value) → move (coded u) c (L.Send o b m args) ≡ Some d → Made u d × (IsNamedIn u m.0 × AreMadeArgs u args)
  send_made d o b m args e =
      let a = given_by (running (coded u) c o) _ d e in
      let r = running_gives (coded u) c o a.0 a.1 in
      let t = required (posts ((coded u).kind o a.0) b m.0 args && is_some (object_of c b)) _ d a.2 in
      let k = async_is a.0.served (code_kind u a.0.object) b m.0 args (first _ (is_some (object_of c b)) t.0) in
      let v = posted_args o a.0 r.0 b (id m.0) args k.1 in (
        subst (Made u) (same_some t.1)
            (with_made u (put_object c o ((coded u).done a.0)) o b (messages_of c o b ++ record { method = m.0; args = args } ∷ [])
            (put_made u c o ((coded u).done a.0) w (gone_on_of u proper (IsMadeValue u) (plain_made u) a.0.object (w.objects o a.0 r.0) (subst IsGoingOn (sym k.1) tt)))
            (each_append (IsMadeMessage u) (messages_of c o b) (record { method = m.0; args = args }) (w.messages o b) v)),
        v,
      )

  take_made : (d : Config Placed) (b s : ℕ) (m : NameId) (args : List Value) → move (coded u) c (L.Take b s m args) ≡ Some d → Made u d × (IsNamedIn u m.0 × AreMadeArgs u args)
  take_made d b s m args e =
      let a = given_by (running (coded u) c b) _ d e in
      let r = running_gives (coded u) c b a.0 a.1 in
      let v = given_by (offered 1 (alternatives ((coded u).kind b a.0)) m.0) _ d a.2 in
      let f = given_by (first_message v.0.1 (messages_of c s b)) _ d v.2 in
      let t = required (f.0.method == m.0 && are_same f.0.args args) _ d f.2 in
      let z = given_by ((coded u).serving b a.0 v.0.0 m.0 None args) _ d t.1 in
      let q = given_by (code_serving u a.0.object v.0.0 (id m.0) args S.Sender) _ z.0 z.1 in
      let same : f.0.args ≡ args = same_values f.0.args args (second (f.0.method == m.0) (are_same f.0.args args) t.0) in
      let found = first_there u proper (IsMadeMessage u) v.0.1 (messages_of c s b) f.0 (w.messages s b) f.1 in
      let values = subst (AreMadeArgs u) same found.1 in
      let named = subst (IsNamedIn u) (equal f.0.method m.0 (first _ (are_same f.0.args args) t.0)) found.0 in
      let k = offered_is a.0.served (code_kind u a.0.object) m.0 v.0 v.1 in (
        subst (Made u) (same_some z.2)
            (subst (λ (g : Placed). Made u (put_messages (put_object c b g) s b (without_message v.0.1 (messages_of c s b)))) (same_some q.2)
            (with_made u (put_object c b (record a.0 { object = q.0 })) s b (without_message v.0.1 (messages_of c s b))
            (put_made u c b (record a.0 { object = q.0 }) w
            (serving_of u proper (IsMadeValue u) (plain_made u) a.0.object (w.objects b a.0 r.0) v.0.0 (id m.0) args S.Sender q.0 k.chooses values.1 refl q.1))
            (each_left (IsMadeMessage u) v.0.1 (messages_of c s b) (w.messages s b)))),
        (named, values),
      )

  new_made : (d : Config Placed) (o n : ℕ) (k : NameId) → move (coded u) c (L.New o n k) ≡ Some d → Made u d × IsNamedIn u k.0
  new_made d o n k e =
      let a = given_by (running (coded u) c o) _ d e in
      let r = running_gives (coded u) c o a.0 a.1 in
      let t = required (makes ((coded u).kind o a.0) k.0 && is_none (object_of c n)) _ d a.2 in
      let y = given_by ((coded u).made k.0) _ d t.1 in
      let q = given_by (code_made u (id k.0)) _ y.0 y.1 in
      let i = new_is a.0.served (code_kind u a.0.object) k.0 (first _ (is_none (object_of c n)) t.0) in (
        subst (Made u) (same_some y.2)
            (subst (λ (g : Placed). Made u (put_object (put_object c o ((coded u).given a.0 (V.Ref n))) n g)) (same_some q.2)
            (put_made u (put_object c o ((coded u).given a.0 (V.Ref n))) n (placed q.0)
            (put_made u c o ((coded u).given a.0 (V.Ref n)) w
            (given_of u proper (IsMadeValue u) (plain_made u) a.0.object (w.objects o a.0 r.0) (V.Ref n) tt (subst IsAsking (sym i.1) tt)))
            (made_is_of u proper (IsMadeValue u) (plain_made u) (id k.0) q.0 q.1))),
        subst (IsSaid u) i.1 (said_of u (IsMadeValue u) a.0.object (w.objects o a.0 r.0)),
      )

  answer_made : (d : Config Placed) (b o : ℕ) (m : NameId) (args : List Value) → move (coded u) c (L.Answer b o m args) ≡ Some d → Made u d × (IsNamedIn u m.0 × AreMadeArgs u args)
  answer_made d b o m args e =
      let a = given_by (running (coded u) c o) _ d e in
      let r = running_gives (coded u) c o a.0 a.1 in
      let i = given_by (running (coded u) c b) _ d a.2 in
      let j = running_gives (coded u) c b i.0 i.1 in
      let t = required (calls ((coded u).kind o a.0) b m.0 args) _ d i.2 in
      let v = given_by (offered 1 (alternatives ((coded u).kind b i.0)) m.0) _ d t.1 in
      let n = required (not (has_message v.0.1 (messages_of c o b))) _ d v.2 in
      let z = given_by ((coded u).serving b i.0 v.0.0 m.0 (Some o) args) _ d n.1 in
      let q = given_by (code_serving u i.0.object v.0.0 (id m.0) args (S.Caller o 0)) _ z.0 z.1 in
      let s = send_is a.0.served (code_kind u a.0.object) b m.0 args t.0 in
      let k = offered_is i.0.served (code_kind u i.0.object) m.0 v.0 v.1 in
      let values = sent_args o a.0 r.0 b (id m.0) args s.1 in (
        subst (Made u) (same_some z.2)
            (subst (λ (g : Placed). Made u (put_object (put_object c o ((coded u).waiting a.0 b m.0)) b g)) (same_some q.2)
            (put_made u (put_object c o ((coded u).waiting a.0 b m.0)) b (record i.0 { object = q.0 })
            (put_made u c o ((coded u).waiting a.0 b m.0) w (w.objects o a.0 r.0))
            (serving_of u proper (IsMadeValue u) (plain_made u) i.0.object (w.objects b i.0 j.0) v.0.0 (id m.0) args (S.Caller o 0) q.0 k.chooses values.1.1 refl q.1))),
        values,
      )

  return_made : (d : Config Placed) (b o : ℕ) (v : Value) → move (coded u) c (L.Return b o v) ≡ Some d → Made u d × IsMadeValue u v
  return_made d b o v e =
      let i = given_by (running (coded u) c b) _ d e in
      let j = running_gives (coded u) c b i.0 i.1 in
      let a = given_by (running (coded u) c o) _ d i.2 in
      let r = running_gives (coded u) c o a.0 a.1 in
      let t = required (returns ((coded u).kind b i.0) o v && waits_on ((coded u).kind o a.0) b) _ d a.2 in
      let s = wait_is a.0.served (code_kind u a.0.object) b (second (returns ((coded u).kind b i.0) o v) _ t.0) in
      let k = return_is i.0.served (code_kind u i.0.object) o v (first _ (waits_on ((coded u).kind o a.0) b) t.0) in
      let served = of_code.waits o b s.0 a.0 r.0 s.1 in
      let value = return_value u proper (IsMadeValue u) (plain_made u) i.0.object (w.objects b i.0 j.0) o k.1 v k.2 in (
        subst (Made u) (same_some t.1)
            (put_made u (put_object c b ((coded u).returned i.0)) o ((coded u).given a.0 v)
            (put_made u c b ((coded u).returned i.0) w (gone_on_of u proper (IsMadeValue u) (plain_made u) i.0.object (w.objects b i.0 j.0) (subst IsGoingOn (sym k.2) tt)))
            (given_of u proper (IsMadeValue u) (plain_made u) a.0.object (w.objects o a.0 r.0) v value (subst IsAsking (sym served.4) tt))),
        value,
      )

  made_after : (d : Config Placed) (lab : Label) → move (coded u) c lab ≡ Some d → Made u d × IsMadeLabel u lab
  made_after d (L.Local o) e = (local_made d o e, tt)
  made_after d (L.New o n k) e = new_made d o n k e
  made_after d (L.Answer b o m args) e = answer_made d b o m args e
  made_after d (L.Return b o v) e = return_made d b o v e
  made_after d (L.Send o b m args) e = send_made d o b m args e
  made_after d (L.Take b s m args) e = take_made d b s m args e
  made_after d (L.Write o item) e = write_made d o item e
  made_after d (L.Pick o i) e = (pick_made d o i e, tt)
  made_after d (L.Fault o error) e = (fault_made d o error e, tt)

module _ (u : Code) (proper : IsProper u) where
  -- made values stay made, and labels show no others
  pub has_made_kept : (c d : Config Placed) (lab : Label) → HasMade u c → move (coded u) c lab ≡ Some d → HasMade u d
  has_made_kept c d lab w e =
      let m = (made_after u proper c w.of_code (record { objects = w.objects; messages = w.messages }) d lab e).0 in
      record { of_code = code_kept u proper c w.of_code d lab e; objects = m.objects; messages = m.messages }

  pub label_made : (c d : Config Placed) (lab : Label) → HasMade u c → move (coded u) c lab ≡ Some d → IsMadeLabel u lab
  label_made c d lab w e = (made_after u proper c w.of_code (record { objects = w.objects; messages = w.messages }) d lab e).1

  -- what a call names, and its values
  pub call_made : (c : Config Placed) → HasMade u c → (o : ℕ) (x : Placed) → object_of c o ≡ Some x → (b m : ℕ) (args : List Value) → (coded u).kind o x ≡ K.Send b m args → IsNamedIn u m × AreMadeArgs u args
  call_made c w o x h b m args e =
      let k = send_is x.served (code_kind u x.object) b m args (rw e (calls_itself b m args)) in
      sent_args u proper c w.of_code (record { objects = w.objects; messages = w.messages }) o x h b (id m) args k.1
    where
      calls_itself : (b m : ℕ) (args : List Value) → calls (K.Send b m args) b m args ≡ true
      calls_itself b m args = rw (equals b, equals m, values_itself args) refl

  -- the class that is about to be made
  pub class_made : (c : Config Placed) → HasMade u c → (o : ℕ) (x : Placed) → object_of c o ≡ Some x → (n : ℕ) → (coded u).kind o x ≡ K.New n → IsNamedIn u n
  class_made c w o x h n e =
      let k = new_is x.served (code_kind u x.object) n (rw e (equals n)) in
      subst (IsSaid u) k.1 (said_of u (IsMadeValue u) x.object (w.objects o x h))

  -- the same language, with this kept besides
  pub made_lawful : Lawful (coded u) (HasMade u)
  made_lawful = let law = code_lawful u proper in record {
    sorted = λ c w. law.sorted c w.of_code;
    kept = has_made_kept;
    fault_kind = λ c o x e w. law.fault_kind c o x e w.of_code;
    can_make = λ c o x k w. law.can_make c o x k w.of_code;
    can_call = λ c o x b m args w. law.can_call c o x b m args w.of_code;
    can_send = λ c o x b m args w. law.can_send c o x b m args w.of_code;
    can_take = λ c names s r f w. law.can_take c names s r f w.of_code;
    has_wait = λ c b y k v w. law.has_wait c b y k v w.of_code;
    given_name = λ c o x k n w. law.given_name c o x k n w.of_code;
    given_back = λ c b o m y x v w. law.given_back c b o m y x v w.of_code;
    waiting = λ c o x b m args w. law.waiting c o x b m args w.of_code;
  }
