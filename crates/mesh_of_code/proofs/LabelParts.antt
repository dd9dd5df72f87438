-- Each name in a possible label of code exists.
use Rattle.std.proofs.Common.{◌≡◌, refl, sym, ap, subst, ◌∙◌, ℕ, zero, suc, ◌+◌, ◌<◌, ◌≤◌, ◌==◌, List, [], ◌∷◌, length, Option, Some, None, is_some, Bool, true, false, arith}
use Rattle.std.specs.Prelude.{◌&&◌, if◌then◌else◌, slice_get}
use Rattle.std.specs.List.{list_any}
use Rattle.run_types.specs.declared.types.Value.{Value}
use Rattle.run_types.specs.declared.types.Value.TheVariants as V
use Rattle.run_types.specs.declared.types.Item.{Item}
use Rattle.run_types.specs.declared.types.Item.TheVariants as It
use Rattle.run_types.specs.declared.types.Label.{Label}
use Rattle.run_types.specs.declared.types.Label.TheVariants as L
use Rattle.run_types.specs.declared.types.Serves.{Serves}
use Rattle.run_types.specs.declared.types.Serves.TheVariants as S
use Rattle.run_types.specs.declared.types.Error.TheVariants.{NilOperand, NoOpenGuard}
use Rattle.run_types.specs.Values.{Outcome, Gives, Fails, WrongSort, is_true, is_bool, not_bool}
use Rattle.run_types.specs.declared.frames.CodeObject.{CodeObject}
use Rattle.run_types.specs.declared.frames.Frame.{Frame}
use Rattle.code_semantics.specs.declared.unit.Instr.{Instr}
use Rattle.code_semantics.specs.declared.unit.Instr.TheVariants as I
use Rattle.code_semantics.specs.declared.unit.AltCode.{AltCode}
use Rattle.code_semantics.specs.declared.unit.ClassCode.{ClassCode}
use Rattle.code_semantics.specs.declared.unit.Unit.{Unit as Code}
use Rattle.code_semantics.specs.Frames.{code_of}
use Rattle.run_types.specs.Operands.{top, dropped, taken}
use Rattle.code_semantics.specs.Kinds as C
use Rattle.code_semantics.specs.Kinds.{Offered, operated, offers, outcome_kind, return_kind, sent_kind, instr_kind, frames_kind, code_kind}
use Rattle.code_semantics.specs.Proper.{IsProper}
use Rattle.code_semantics.specs.ReachedPlaces.{takes}
use Rattle.run_types.proofs.Laws.{first, second, same_some, given_by, required, same_value, same_values}
use Rattle.mesh_semantics.proofs.Laws.{running_gives}
use Rattle.mesh_semantics.specs.Act.{id}
use Rattle.run_types.specs.Same.{are_same}
use Rattle.mesh_semantics.specs.Kind.{Alternative, calls, posts, returns, waits_on, writes, alternatives}
use Rattle.mesh_semantics.specs.Config.{Config, object_of, messages_of}
use Rattle.mesh_semantics.specs.Moves.{running, offered, numbered, can_pick, first_message, move}
use Rattle.run_types.specs.Tables.{Each}
use Rattle.mesh_semantics.specs.Sound.{IsThere}
use Rattle.code_semantics.specs.OfUnit.{IsObjectOf, AreFramesOf}
use Rattle.code_semantics.proofs.Laws.{async_values, send_values, return_value, write_value, proper_code, top_frame, HoldsOfItem}
use Rattle.mesh_of_code.specs.Coded.{Placed, kind_of, unless_served, alternatives_of, coded}
use Rattle.mesh_of_code.specs.CodeInvariant.{Names, IsOfCode}
use Rattle.mesh_of_code.proofs.LabelThere.{LabelThere}
use Rattle.mesh_of_code.proofs.Configs.{plain_names, IsMessageOf}
use Rattle.mesh_of_code.proofs.LawfulCode.{first_there}
use Rattle.mesh_of_code.proofs.KindFromTest.{send_is, async_is, return_is}

-- an object of a unit has at most 64 alternatives

alternatives_count : (os : List Offered) → length (alternatives_of os) ≡ length os
alternatives_count [] = refl
alternatives_count (o ∷ os) = ap suc (alternatives_count os)

offers_count : (alts : List AltCode) (vs : List Value) → length (offers alts vs) ≤ length alts
offers_count [] vs = omega arith
offers_count (a ∷ alts) [] = omega arith
offers_count (a ∷ alts) (v ∷ vs) = let h = offers_count alts vs in omega (arith, h)

abbrev IsFew : C.Kind → Type 0
IsFew k = length (alternatives (kind_of k)) ≤ 64

if_few : (b : Bool) (x y : C.Kind) → IsFew x → IsFew y → IsFew (if b then x else y)
if_few true x y h k = h
if_few false x y h k = k

sent_few : (v : Value) (go : ℕ → C.Kind) → ((r : ℕ) → IsFew (go r)) → IsFew (sent_kind v go)
sent_few (V.Ref r) go h = h r
sent_few V.Nil go h = omega arith
sent_few (V.Int z) go h = omega arith
sent_few (V.Bool z) go h = omega arith

outcome_few : (o : Outcome) → IsFew (outcome_kind o)
outcome_few (Gives v) = omega arith
outcome_few (Fails e) = omega arith
outcome_few WrongSort = omega arith

return_few : (s : Serves) (v : Value) → IsFew (return_kind s v)
return_few (S.Caller k n) v = omega arith
return_few S.Own v = omega arith
return_few S.Sender v = omega arith

few_at : (k : Option ClassCode) (f : Frame) (z : Option Instr) → ((i : Instr) → z ≡ Some i → takes k i ≤ 64) → IsFew (instr_kind f z)
few_at k f (Some (I.New m)) h = omega arith
few_at k f (Some (I.Send m a)) h = sent_few (top (dropped a f.operands)) (λ r. C.Send r m (taken a f.operands [])) (λ r. omega arith)
few_at k f (Some (I.Async m a)) h = sent_few (top (dropped a f.operands)) (λ r. C.Async r m (taken a f.operands [])) (λ r. omega arith)
few_at k f (Some (I.WriteText s)) h = omega arith
few_at k f (Some I.Write) h = omega arith
few_at k f (Some (I.Answer names)) h = omega arith
few_at k f (Some I.Halt) h = omega arith
few_at k f (Some (I.Oper op)) h = outcome_few (operated op f.operands)
few_at k f (Some (I.Branch a)) h = if_few (is_bool (top f.operands)) C.Local (C.Fault NilOperand) (omega arith) (omega arith)
few_at k f (Some I.Ret) h = return_few f.serves (top f.operands)
few_at k f (Some I.Post) h = return_few f.serves (top f.operands)
few_at k f (Some (I.Select alts)) h =
    let gs = taken (length alts) f.operands [] in
    if_few (list_any not_bool gs) (C.Fault NilOperand) (if list_any is_true gs then C.Select (offers alts gs) else C.Fault NoOpenGuard) (omega arith)
    (if_few (list_any is_true gs) (C.Select (offers alts gs)) (C.Fault NoOpenGuard)
    (let n = alternatives_count (offers alts gs) in let m = offers_count alts gs in let t : length alts ≤ 64 = h (I.Select alts) refl in omega (arith, n, m, t)) (omega arith))
few_at k f None h = omega arith
few_at k f (Some _) h = omega arith

module _ (u : Code) (proper : IsProper u) (P : Value → Type 0) where
  few_of : (x : CodeObject) → IsObjectOf u P x → IsFew (code_kind u x)
  few_of x h = subst (λ (q : Option ClassCode). IsFew (frames_kind q x.frames)) (sym h.is_class) (by x.frames h.frames)
    where
      by : (fs : List Frame) → AreFramesOf h.class P None fs → IsFew (frames_kind (Some h.class) fs)
      by [] a = absurd a
      by (f ∷ fs) a = few_at (Some h.class) f (slice_get (code_of (Some h.class) f.method) f.at) (λ i e. enough i e)
        where
          enough : (i : Instr) → slice_get (code_of (Some h.class) f.method) f.at ≡ Some i → takes (Some h.class) i ≤ 64
          enough i e =
              let on_top = top_frame u h.class (proper.each x.class h.class h.is_class) P f fs a in
              let code = proper_code u h.class (proper.each x.class h.class h.is_class) f.method f.temps on_top.has_temps in
              let r = code.suffices f.at (0 + length f.operands) on_top.reached in
              let s = r.2 in
              let same : s.0 ≡ i = same_some (sym s.1 ∙ e) in
              subst (λ j. takes (Some h.class) j ≤ 64) same (let le = s.2 in let most = r.0 in omega (arith, le, most))

  unless_few : (s : Option (ℕ × ℕ)) (x : CodeObject) → IsObjectOf u P x → length (alternatives (unless_served s (kind_of (code_kind u x)))) ≤ 64
  unless_few None x h = few_of x h
  unless_few (Some w) x h = omega arith

-- a number that can be picked is one of the list
picked_from : (alts : List Alternative) (i : ℕ) → can_pick (numbered alts i) ≡ true → (0 < i) × (i ≤ length alts)
picked_from alts zero h = absurd (let z : false ≡ true = h in cc)
picked_from [] (suc i) h = absurd (let z : false ≡ true = h in cc)
picked_from (a ∷ alts) (suc zero) h = (omega arith, omega arith)
picked_from (a ∷ alts) (suc (suc i)) h = let r = picked_from alts (suc i) h in (omega arith, (let t = r.1 in omega (arith, t)))

item_names : (P : Value → Type 0) (k : C.Kind) (s : Option (ℕ × ℕ)) (item : Item) → writes (unless_served s (kind_of k)) item ≡ true → ((j : Item) → k ≡ C.Write j → HoldsOfItem P j) → HoldsOfItem P item
item_names P k s (It.Text t) h w = tt
item_names P k (Some v) (It.Value z) h w = absurd (let q : false ≡ true = h in cc)
item_names P (C.Write (It.Value y)) None (It.Value z) h w = subst P (same_value y z h) (w (It.Value y) refl)
item_names P (C.Write (It.Text t)) None (It.Value z) h w = absurd (let q : false ≡ true = h in cc)
item_names P _ None (It.Value z) h w = absurd (let q : false ≡ true = h in cc)

module _ (u : Code) (proper : IsProper u) (c : Config Placed) (w : IsOfCode u c) where
  -- the values of a call that is at hand
  pub call_names : (o : ℕ) (x : Placed) → object_of c o ≡ Some x → (b m : ℕ) (args : List Value) → calls ((coded u).kind o x) b m args ≡ true → IsThere c b × Each (Names c) args
  call_names o x h b m args e =
      let k = send_is x.served (code_kind u x.object) b m args e in
      let v = send_values u proper (Names c) (plain_names c) x.object (w.of_unit o x h) b (id m) args k.1 in
      (v.0 b refl, v.1)

  -- the objects that a label names
  pub label_there : (d : Config Placed) (lab : Label) → move (coded u) c lab ≡ Some d → LabelThere c lab
  label_there d (L.Local o) e =
      let a = given_by (running (coded u) c o) _ d e in
      let r = running_gives (coded u) c o a.0 a.1 in (a.0, r.0)
  label_there d (L.New o n k) e =
      let a = given_by (running (coded u) c o) _ d e in
      let r = running_gives (coded u) c o a.0 a.1 in (a.0, r.0)
  label_there d (L.Answer b o m args) e =
      let a = given_by (running (coded u) c o) _ d e in
      let r = running_gives (coded u) c o a.0 a.1 in
      let i = given_by (running (coded u) c b) _ d a.2 in
      let j = running_gives (coded u) c b i.0 i.1 in
      let t = required (calls ((coded u).kind o a.0) b m.0 args) _ d i.2 in
      ((i.0, j.0), (a.0, r.0), (call_names o a.0 r.0 b m.0 args t.0).1)
  label_there d (L.Return b o v) e =
      let i = given_by (running (coded u) c b) _ d e in
      let j = running_gives (coded u) c b i.0 i.1 in
      let a = given_by (running (coded u) c o) _ d i.2 in
      let r = running_gives (coded u) c o a.0 a.1 in
      let t = required (returns ((coded u).kind b i.0) o v && waits_on ((coded u).kind o a.0) b) _ d a.2 in
      let k = return_is i.0.served (code_kind u i.0.object) o v (first _ (waits_on ((coded u).kind o a.0) b) t.0) in
      ((i.0, j.0), (a.0, r.0), return_value u proper (Names c) (plain_names c) i.0.object (w.of_unit b i.0 j.0) o k.1 v k.2)
  label_there d (L.Send o b m args) e =
      let a = given_by (running (coded u) c o) _ d e in
      let r = running_gives (coded u) c o a.0 a.1 in
      let t = required (posts ((coded u).kind o a.0) b m.0 args && is_some (object_of c b)) _ d a.2 in
      let k = async_is a.0.served (code_kind u a.0.object) b m.0 args (first _ (is_some (object_of c b)) t.0) in
      let v = async_values u proper (Names c) (plain_names c) a.0.object (w.of_unit o a.0 r.0) b (id m.0) args k.1 in
      ((a.0, r.0), v.0 b refl, v.1)
  label_there d (L.Take b s m args) e =
      let a = given_by (running (coded u) c b) _ d e in
      let r = running_gives (coded u) c b a.0 a.1 in
      let v = given_by (offered 1 (alternatives ((coded u).kind b a.0)) m.0) _ d a.2 in
      let f = given_by (first_message v.0.1 (messages_of c s b)) _ d v.2 in
      let t = required (f.0.method == m.0 && are_same f.0.args args) _ d f.2 in
      let same : f.0.args ≡ args = same_values f.0.args args (second (f.0.method == m.0) (are_same f.0.args args) t.0) in
      ((a.0, r.0), subst (Each (Names c)) same (first_there u proper (IsMessageOf u c b) v.0.1 (messages_of c s b) f.0 (w.messages s b) f.1).2)
  label_there d (L.Write o item) e =
      let a = given_by (running (coded u) c o) _ d e in
      let r = running_gives (coded u) c o a.0 a.1 in
      let t = required (writes ((coded u).kind o a.0) item) _ d a.2 in
      ((a.0, r.0), item_names (Names c) (code_kind u a.0.object) a.0.served item t.0 (λ j q. write_value u proper (Names c) (plain_names c) a.0.object (w.of_unit o a.0 r.0) j q))
  label_there d (L.Pick o i) e =
      let a = given_by (running (coded u) c o) _ d e in
      let r = running_gives (coded u) c o a.0 a.1 in
      let t = required (can_pick (numbered (alternatives ((coded u).kind o a.0)) i)) _ d a.2 in
      let k = picked_from (alternatives ((coded u).kind o a.0)) i t.0 in
      let n = unless_few u proper (Names c) a.0.served a.0.object (w.of_unit o a.0 r.0) in
      ((a.0, r.0), k.0, (let m = k.1 in omega (arith, m, n)))
  label_there d (L.Fault o error) e =
      let a = given_by (running (coded u) c o) _ d e in
      let r = running_gives (coded u) c o a.0 a.1 in (a.0, r.0)
