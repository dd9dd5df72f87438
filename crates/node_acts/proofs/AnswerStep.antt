-- The step of an object that answers or selects.
use Rattle.std.proofs.Common.{◌≡◌, refl, sym, ap, ap₂, subst, ◌∙◌, ℕ, zero, suc, ◌+◌, ◌<◌, ◌≤◌, ◌==◌, ◌&&◌, ◌||◌, List, [], ◌∷◌, length, Option, Some, None, is_some, is_none, Bool, true, false, if◌then◌else◌, arith}
use Rattle.std.specs.Prelude.{slice_get, position, remove}
use Rattle.std.specs.List.{list_any, position_from}
use Rattle.std.proofs.lemmas.Iterator.Adapters.{position_from-zero}
use Rattle.run_types.specs.declared.types.Value.{Value}
use Rattle.run_types.specs.declared.types.NameId.{NameId}
use Rattle.run_types.specs.declared.types.Serves.{Serves}
use Rattle.run_types.specs.declared.types.Error.TheVariants.{NilOperand, NoOpenGuard}
use Rattle.run_types.specs.declared.types.Label.TheVariants as L
use Rattle.run_types.specs.declared.types.What.{What}
use Rattle.run_types.specs.declared.types.What.TheVariants as W
use Rattle.run_types.specs.declared.types.FullKind.TheVariants as F
use Rattle.run_types.specs.declared.types.Placement.{Placement}
use Rattle.run_types.specs.Values.{is_bool, is_true, not_bool}
use Rattle.code_semantics.specs.declared.unit.Instr.{Instr}
use Rattle.code_semantics.specs.declared.unit.Instr.TheVariants as I
use Rattle.code_semantics.specs.declared.unit.AltCode.{AltCode}
use Rattle.code_semantics.specs.declared.unit.ClassCode.{ClassCode}
use Rattle.run_types.specs.declared.frames.Frame.{Frame}
use Rattle.run_types.specs.declared.frames.CodeObject.{CodeObject}
use Rattle.code_semantics.specs.declared.unit.Unit.{Unit as Code}
use Rattle.code_semantics.specs.Frames.{code_of}
use Rattle.run_types.specs.Operands.{top, dropped, taken}
use Rattle.code_semantics.specs.Kinds as C
use Rattle.code_semantics.specs.Kinds.{Kind, Offered, offers, operated, select_kind, instr_kind, frames_kind, code_kind}
use Rattle.code_semantics.specs.Step.{code_serving}
use Rattle.code_semantics.specs.Proper.{IsProper}
use Rattle.code_semantics.specs.Forget.{forget, forget_serves}
use Rattle.code_semantics.specs.StepInstructions.{FitsUnit, AnyValue}
use Rattle.code_semantics.proofs.Laws.{served_there, chosen_there, named_by_test}
use Rattle.node_heap.specs.Heaps.{object_at, frames_used}
use Rattle.object_interp.specs.Offers.{IsChoosing, instr_offers, frames_offers, offers_at, offer_at, open_names, is_open_plain, answers_to}
use Rattle.mesh_semantics.specs.Kind as K
use Rattle.mesh_semantics.specs.Kind.{Alternative, has_name, answered}
use Rattle.run_types.specs.Paths.{without_first}
use Rattle.run_types.specs.Partial.{◌>>=◌}
use Rattle.run_types.proofs.Laws.{same_some}
use Rattle.mesh_of_code.specs.Coded as E
use Rattle.mesh_of_code.specs.Coded.{Placed, coded, kind_of, numbers, alternatives_of, under_way}
use Rattle.node_semantics.specs.Node as N
use Rattle.node_semantics.specs.Node.{Slot, NodeState, NodeActed, NumberedArrival, arrivals, choice_act, chosen_act, first_on, frames_in, is_on, message_count, name_at, put_state, serve_act, set_at, slot_act, taken_act, within_node}
use Rattle.node_semantics.proofs.Laws.{set_length}
use Rattle.node_state.proofs.Laws.{slots_length, no_outcome, no_branch, no_return, no_send, no_async, same_names, possible_is, choosing_kind, slot_real, kind_seen, served_is, numbers_serving}
use Rattle.slot_queues.specs.declared.Message.{Message}
use Rattle.slot_queues.specs.Mail.{box_of, is_named}
use Rattle.node_state.specs.declared.state.NodeParts.{NodeParts}
use Rattle.node_acts.specs.ActOf as A
use Rattle.node_state.specs.Views.{arrival_of, arrivals_of, number_by, slots_of, node_of, slot_at}
use Rattle.node_state.specs.Changes.{IsChanged, serves_for_call}
use Rattle.node_state.specs.Choices.{is_called, may_go, first_of_these, place_called}
use Rattle.node_acts.specs.NodeSteps.{IsSet, IsTurned, turn_at, taken_label, label_by}
use Rattle.node_acts.proofs.NodeLimits.{frames_seen, frames_set, messages_set, within_frames, some_frame, under_way_is}
use Rattle.node_acts.proofs.StepFromChanges.{here, moved, moved_line, turned, quiet_cells}

-- what is offered, by what is at hand
abbrev offered_by : Kind → List Offered
offered_by (C.Answer names) = record { is_open = true; answer = Some names } ∷ []
offered_by (C.Select alts) = alts
offered_by _ = []

offer_select : (alts : List AltCode) (vs : List Value) → IsChoosing (select_kind alts vs) → offers alts vs ≡ offered_by (select_kind alts vs)
offer_select alts vs h = by (list_any not_bool vs) (list_any is_true vs) h
  where
    by : (a b : Bool) → IsChoosing (if a then C.Fault NilOperand else (if b then C.Select (offers alts vs) else C.Fault NoOpenGuard))
        → offers alts vs ≡ offered_by (if a then C.Fault NilOperand else (if b then C.Select (offers alts vs) else C.Fault NoOpenGuard))
    by true b h = absurd h
    by false true h = refl
    by false false h = absurd h

offer_instr : (f : Frame) (i : Option Instr) → IsChoosing (instr_kind f i) → instr_offers f i ≡ offered_by (instr_kind f i)
offer_instr f (Some (I.Answer names)) h = refl
offer_instr f (Some (I.Select alts)) h = offer_select alts (taken (length alts) f.operands []) h
offer_instr f (Some (I.Oper op)) h = absurd (no_outcome (operated op f.operands) h)
offer_instr f (Some (I.Branch a)) h = absurd (no_branch (is_bool (top f.operands)) h)
offer_instr f (Some I.Ret) h = absurd (no_return f.serves (top f.operands) h)
offer_instr f (Some I.Post) h = absurd (no_return f.serves (top f.operands) h)
offer_instr f (Some (I.Send m n)) h = absurd (no_send (top (dropped n f.operands)) m (taken n f.operands []) h)
offer_instr f (Some (I.Async m n)) h = absurd (no_async (top (dropped n f.operands)) m (taken n f.operands []) h)
offer_instr f _ h = absurd h

offer_frames : (k : Option ClassCode) (fs : List Frame) → IsChoosing (frames_kind k fs) → frames_offers k fs ≡ offered_by (frames_kind k fs)
offer_frames k [] h = absurd h
offer_frames k (f ∷ fs) h = offer_instr f (slice_get (code_of k f.method) f.at) h

pub offers_are : (u : Code) (x : CodeObject) → IsChoosing (code_kind u x) → offers_at u x ≡ offered_by (code_kind u x)
offers_are u x h = offer_frames (slice_get u.classes x.class) x.frames h

-- a method that is offered is there
pub offered_there : (u : Code) (x : CodeObject) → FitsUnit u x → IsProper u → IsChoosing (code_kind u x) → (j : ℕ) (a : Offered) (names : List NameId) (alt : ℕ) (m : NameId)
    (args : List Value) (s : Serves) → slice_get (offers_at u x) j ≡ Some a → a.answer ≡ Some names → is_named names m ≡ true → (y : CodeObject) × (code_serving u x alt m args s ≡ Some y)
offered_there u x fits proper h j a names alt m args s at q named =
    by (code_kind u x) refl h (subst (λ (os : List Offered). slice_get os j ≡ Some a) (offers_are u x h) at)
  where
    by : (k : Kind) → code_kind u x ≡ k → IsChoosing k → slice_get (offered_by k) j ≡ Some a → (y : CodeObject) × (code_serving u x alt m args s ≡ Some y)
    by (C.Answer ns) e c w = served_there u proper AnyValue (λ z n. tt, λ b. tt, tt) x fits ns alt m args s e (named_by_test m ns (first j w))
      where
        first : (i : ℕ) → slice_get (offered_by (C.Answer ns)) i ≡ Some a → list_any (λ (n : NameId). n.0 == m.0) ns ≡ true
        first zero z =
            let v : Some ns ≡ Some names = ap (λ (b : Offered). b.answer) (same_some z) ∙ q in
            ap (λ (l : List NameId). is_named l m) (same_some v) ∙ named
        first (suc i) z = absurd (cc)
    by (C.Select alts) e c w = chosen_there u proper AnyValue (λ z n. tt, λ b. tt, tt) x fits alts j a names alt m args s e w q (named_by_test m names named)
    by C.Finished e c w = absurd c
    by C.Local e c w = absurd c
    by (C.Fault f) e c w = absurd c
    by (C.New k) e c w = absurd c
    by (C.Send b k vs) e c w = absurd c
    by (C.Async b k vs) e c w = absurd c
    by (C.Write item) e c w = absurd c
    by (C.Return b k v) e c w = absurd c

-- the message that is the first on these methods
pub record IsFound (names : List NameId) (box : List Message) (place : ℕ) : Type 0 where
  pub message : Message
  pub there : slice_get box place ≡ Some message
  pub named : is_named names message.method ≡ true
  pub first : first_on (numbers names) (arrivals_of box) ≡ Some (arrival_of message)
  pub rest : without_first (is_on (numbers names)) (arrivals_of box) ≡ arrivals_of (remove box place)
  pub less : length (arrivals_of (remove box place)) ≤ length (arrivals_of box)

abbrev test_of : List NameId → Message → Bool
test_of names m = is_named names m.method

found_from : (names : List NameId) (n : ℕ) (box : List Message) (place : ℕ) → position_from (test_of names) n box ≡ Some place → (j : ℕ) × (place ≡ n + j) × IsFound names box j
found_from names n [] place h = absurd (cc)
found_from names n (m ∷ box) place h = by (is_named names m.method) refl (found_from names (n + 1) box place)
  where
    by : (b : Bool) → is_named names m.method ≡ b → (position_from (test_of names) (n + 1) box ≡ Some place → (j : ℕ) × (place ≡ n + 1 + j) × IsFound names box j)
        → (j : ℕ) × (place ≡ n + j) × IsFound names (m ∷ box) j
    by true e r =
        let w : has_name (numbers names) m.method.0 ≡ true = same_names names m.method ∙ e in
        let p : n ≡ place = same_some (rw e at h) in
        (0, (let z : place ≡ n + 0 = omega (arith, p) in z), record { message = m; there = refl; named = e; first = rw w refl; rest = rw w refl; less = omega arith })
    by false e r =
        let w : has_name (numbers names) m.method.0 ≡ false = same_names names m.method ∙ e in
        let k = r (rw e at h) in
        let f = k.2 in (
          suc k.0,
          (let a = k.1 in let z : place ≡ n + suc k.0 = omega (arith, a) in z),
          record {
            message = f.message;
            there = f.there;
            named = f.named;
            first = rw w f.first;
            rest = rw w (ap (λ (es : List NumberedArrival). arrival_of m ∷ es) f.rest);
            less = let l = f.less in omega (arith, l);
          },
        )

pub found : (names : List NameId) (box : List Message) (place : ℕ) → position (test_of names) box ≡ Some place → IsFound names box place
found names box place h =
    let r = found_from names 0 box place (sym (position_from-zero (test_of names) box) ∙ h) in
    let e : r.0 ≡ place = let a = r.1 in omega (arith, a) in
    subst (λ (j : ℕ). IsFound names box j) e r.2

not_called : (box : List Message) (o : Option (List NameId)) → place_called box o ≡ None → is_called box o ≡ false
not_called box None e = refl
not_called box (Some names) e = ap (λ (z : Option ℕ). is_some z) e

pub some_place : (o : Option ℕ) → is_some o ≡ true → (place : ℕ) × (o ≡ Some place)
some_place None e = absurd (cc)
some_place (Some place) e = (place, refl)

pub is_called_since : (o : Option ℕ) → (o ≡ None → ⊥) → is_some o ≡ true
is_called_since None ne = absurd (ne refl)
is_called_since (Some place) ne = refl

record IsCalled (box : List Message) (o : Option (List NameId)) (place : ℕ) : Type 0 where
  names : List NameId
  is : o ≡ Some names
  at : position (test_of names) box ≡ Some place

called_split : (box : List Message) (o : Option (List NameId)) (place : ℕ) → place_called box o ≡ Some place → IsCalled box o place
called_split box None place e = absurd (cc)
called_split box (Some names) place e = record { names = names; is = refl; at = e }

-- the first alternative that is possible
module _ (u : Code) (p : NodeParts) (i : ℕ) (x : NodeState Placed) where
  abbrev s : Slot Placed
  s = slot_at p i

  abbrev box : List Message
  box = box_of p.mailbox i

  abbrev acts_at : ℕ → Offered → NodeActed Placed
  acts_at alt a = chosen_act (coded u) p.id x i s alt (E.answered a.answer) (first_on (answered (E.answered a.answer)) s.mailbox)

  pub record IsFirst (n : ℕ) (os : List Offered) (alt : ℕ) : Type 0 where
    pub place : ℕ
    pub is : alt ≡ n + place
    pub offered : Offered
    pub at : slice_get os place ≡ Some offered
    pub may : may_go box (Some offered) ≡ true
    pub acts : choice_act (coded u) p.id x i s n (alternatives_of os) ≡ acts_at alt offered

  pub first_is : (n : ℕ) (os : List Offered) (alt : ℕ) → first_of_these box n os ≡ Some alt → IsFirst n os alt
  first_is n [] alt h = absurd (cc)
  first_is n (a ∷ os) alt h = by (may_go box (Some a)) refl (first_is (n + 1) os alt)
    where
      by : (b : Bool) → may_go box (Some a) ≡ b → (first_of_these box (n + 1) os ≡ Some alt → IsFirst (n + 1) os alt) → IsFirst n (a ∷ os) alt
      by true e r =
          let w = possible_is box a ∙ e in
          let z : n ≡ alt = same_some (rw e at h) in
          record {
            place = 0;
            is = let v : alt ≡ n + 0 = omega (arith, z) in v;
            offered = a;
            at = refl;
            may = e;
            acts = ap (λ (b : Bool). if b then acts_at n a else choice_act (coded u) p.id x i s (n + 1) (alternatives_of os)) w ∙ ap (λ (k : ℕ). acts_at k a) z;
          }
      by false e r =
          let w = possible_is box a ∙ e in
          let f = r (rw e at h) in
          record {
            place = suc f.place;
            is = let v = f.is in let z : alt ≡ n + suc f.place = omega (arith, v) in z;
            offered = f.offered;
            at = f.at;
            may = f.may;
            acts = ap (λ (b : Bool). if b then acts_at n a else choice_act (coded u) p.id x i s (n + 1) (alternatives_of os)) w ∙ f.acts;
          }

offer_here : (os : List Offered) (alt place : ℕ) (a : Offered) → alt ≡ 1 + place → slice_get os place ≡ Some a → offer_at os alt ≡ Some a
offer_here os alt place a e h = let f : alt ≡ suc place = omega (arith, e) in ap (λ (k : ℕ). offer_at os k) f ∙ h

plain_of : (a : Offered) → is_open_plain (Some a) ≡ true → a.answer ≡ None
plain_of a h = by a.is_open a.answer h
  where
    by : (o : Bool) (ns : Option (List NameId)) → (o && is_none ns) ≡ true → ns ≡ None
    by true None e = refl
    by true (Some ns) e = absurd (cc)
    by false ns e = absurd (cc)

names_of : (a : Offered) (names : List NameId) → open_names (Some a) ≡ Some names → a.answer ≡ Some names
names_of a names h = by a.is_open h
  where
    by : (o : Bool) → (if o then a.answer else None) ≡ Some names → a.answer ≡ Some names
    by true e = e
    by false e = absurd (cc)

module _ (u : Code) (l : Placement) (leaving : ℕ) (p : NodeParts) (set : IsSet u l leaving p) (i : ℕ) (h : i < length p.heap.objects) (alt : ℕ)
    (choosing : IsChoosing (code_kind u (object_at p.heap i))) (first : first_of_these (box_of p.mailbox i) 1 (offers_at u (object_at p.heap i)) ≡ Some alt) where
  abbrev x : CodeObject
  x = object_at p.heap i

  abbrev v : Slot Placed
  v = slot_at p i

  abbrev o : ℕ
  o = name_at p.id i

  abbrev os : List Offered
  os = offers_at u x

  at_first : IsFirst u p i (node_of p).state 1 os alt
  at_first = first_is u p i (node_of p).state 1 os alt first

  offer : offer_at os alt ≡ Some at_first.offered
  offer = offer_here os alt at_first.place at_first.offered at_first.is at_first.at

  turn : (n fresh : ℕ) → turn_at u l n fresh p i ≡ acts_at u p i (node_of p).state alt at_first.offered
  turn n fresh =
      ap (λ (k : K.Kind). slot_act (coded u) l n p.id fresh (node_of p).state i v k) (kind_seen u p i o ∙ choosing_kind u x choosing) ∙ at_first.acts

  pub pick_made : (n : ℕ) (q : NodeParts) (what : What) → is_open_plain (offer_at os alt) ≡ true → IsChanged u p q i (record v { state = (coded u).picked o v.state alt })
      → what ≡ W.Step (L.Pick o alt) 1 → IsTurned u l n leaving (A.Line what None) p q i
  pick_made n q what plain c w =
      let e = plain_of at_first.offered (subst (λ (a : Option Offered). is_open_plain a ≡ true) offer plain) in
      let t = record v { state = (coded u).picked o v.state alt } in
      turned u l n leaving (A.Line what None) p q i (λ fresh.
      moved_line u p q (record (node_of p).state { slots = set_at (slots_of p) i t }) (moved u p q i t c) l leaving what None (turn_at u l n fresh p i)
      (turn n fresh ∙ (ap (λ (ns : Option (List NameId)). chosen_act (coded u) p.id (node_of p).state i v alt (E.answered ns) (first_on (answered (E.answered ns)) v.mailbox)) e
      ∙ ap (λ (z : What). N.Acts z None (put_state (node_of p).state i v ((coded u).picked o v.state alt))) (sym w)))
      (quiet_cells u l leaving p set i h t refl))

  -- it is plain, or a message is there for it
  pub some_way : is_open_plain (offer_at os alt) ≡ false → place_called (box_of p.mailbox i) (open_names (offer_at os alt)) ≡ None → ⊥
  some_way plain none =
      let a = subst (λ (z : Option Offered). is_open_plain z ≡ false) offer plain in
      let b = subst (λ (z : Option Offered). place_called (box_of p.mailbox i) (open_names z) ≡ None) offer none in
      let c = not_called (box_of p.mailbox i) (open_names (Some at_first.offered)) b in
      let d : false ≡ true = sym (ap₂ (λ (x y : Bool). x || y) a c) ∙ at_first.may in absurd (cc)

  module _ (place : ℕ) (called : place_called (box_of p.mailbox i) (open_names (offer_at os alt)) ≡ Some place) where
    split : IsCalled (box_of p.mailbox i) (open_names (offer_at os alt)) place
    split = called_split (box_of p.mailbox i) (open_names (offer_at os alt)) place called

    abbrev names : List NameId
    names = split.names

    at : open_names (offer_at os alt) ≡ Some names
    at = split.is

    pos : position (test_of names) (box_of p.mailbox i) ≡ Some place
    pos = split.at

    the_names : at_first.offered.answer ≡ Some names
    the_names = names_of at_first.offered names (subst (λ (a : Option Offered). open_names a ≡ Some names) offer at)

    it : IsFound names (box_of p.mailbox i) place
    it = found names (box_of p.mailbox i) place pos

    pub answers_it : (m : Message) → slice_get (box_of p.mailbox i) place ≡ Some m → answers_to (open_names (offer_at os alt)) m.method ≡ true
    answers_it m e =
        let w : it.message ≡ m = same_some (sym it.there ∙ e) in
        ap (λ (ns : Option (List NameId)). answers_to ns m.method) at ∙ subst (λ (z : Message). is_named names z.method ≡ true) w it.named

    served : (n fresh : ℕ) → turn_at u l n fresh p i ≡ serve_act (coded u) p.id (node_of p).state i v alt (numbers names) it.message.call (arrival_of it.message).message
    served n fresh =
        turn n fresh
        ∙ (ap (λ (ns : Option (List NameId)). chosen_act (coded u) p.id (node_of p).state i v alt (E.answered ns) (first_on (answered (E.answered ns)) v.mailbox)) the_names
        ∙ ap (λ (a : Option NumberedArrival). chosen_act (coded u) p.id (node_of p).state i v alt (Some (numbers names)) a) it.first)

    -- the slot after the message is taken
    abbrev slot_after : CodeObject → Option ℕ → ℕ → Slot Placed
    slot_after y call from = record v {
      state = record v.state { object = forget y };
      callers = number_by (serves_for_call from call) v.callers;
      mailbox = arrivals_of (remove (box_of p.mailbox i) place);
    }

    taken_turn : (n fresh : ℕ) (y : CodeObject) → code_serving u x alt it.message.method it.message.args (serves_for_call it.message.from it.message.call) ≡ Some y
        → turn_at u l n fresh p i ≡ N.Acts (W.Step (taken_label o it.message) 1) None (record (node_of p).state { slots = set_at (slots_of p) i (slot_after y it.message.call it.message.from) })
    taken_turn n fresh y is =
        let m = it.message in
        let e = served_is u p set.whole set.unit i h y alt m.method m.args (serves_for_call m.from m.call) is in
        served n fresh ∙ by m.call e
      where
        by : (call : Option ℕ) → code_serving u (forget x) alt it.message.method it.message.args (forget_serves (serves_for_call it.message.from call)) ≡ Some (forget y)
            → serve_act (coded u) p.id (node_of p).state i v alt (numbers names) call (arrival_of it.message).message
            ≡ N.Acts (W.Step (label_by call o it.message.from it.message.method it.message.args) 1) None
            (record (node_of p).state { slots = set_at (slots_of p) i (slot_after y call it.message.from) })
        by None e =
            ap (λ (z : Option CodeObject). taken_act (W.Step (L.Take o it.message.from it.message.method it.message.args) 1) (node_of p).state (numbers names) v.callers i v
            (z >>= λ k. Some (record v.state { object = k }))) e
            ∙ ap (λ (es : List NumberedArrival). N.Acts (W.Step (L.Take o it.message.from it.message.method it.message.args) 1) None
            (record (node_of p).state { slots = set_at (slots_of p) i (record v { state = record v.state { object = forget y }; callers = v.callers; mailbox = es }) })) it.rest
        by (Some k) e =
            ap (λ (z : Option CodeObject). taken_act (W.Step (L.Answer o it.message.from it.message.method it.message.args) 1) (node_of p).state (numbers names) (k ∷ v.callers) i v
            (z >>= λ k. Some (record v.state { object = k }))) e
            ∙ ap (λ (es : List NumberedArrival). N.Acts (W.Step (L.Answer o it.message.from it.message.method it.message.args) 1) None
            (record (node_of p).state { slots = set_at (slots_of p) i (record v { state = record v.state { object = forget y }; callers = k ∷ v.callers; mailbox = es }) })) it.rest

    pub serve_made : (n : ℕ) (q : NodeParts) (what : What) (m : Message) (y : CodeObject) → slice_get (box_of p.mailbox i) place ≡ Some m
        → code_serving u x alt m.method m.args (serves_for_call m.from m.call) ≡ Some y → IsChanged u p q i (slot_after y m.call m.from)
        → what ≡ W.Step (taken_label o m) 1 → IsTurned u l n leaving (A.Line what None) p q i
    serve_made n q what m y there is c w =
        let same : it.message ≡ m = same_some (sym it.there ∙ there) in
        let t = slot_after y m.call m.from in
        let f : (fresh : ℕ) → turn_at u l n fresh p i ≡ N.Acts (W.Step (taken_label o m) 1) None (record (node_of p).state { slots = set_at (slots_of p) i t }) =
        λ fresh. subst (λ (z : Message). code_serving u x alt z.method z.args (serves_for_call z.from z.call) ≡ Some y
        → turn_at u l n fresh p i ≡ N.Acts (W.Step (taken_label o z) 1) None (record (node_of p).state { slots = set_at (slots_of p) i (slot_after y z.call z.from) })) same (taken_turn n fresh y) is in
        turned u l n leaving (A.Line what None) p q i (λ fresh.
        moved_line u p q (record (node_of p).state { slots = set_at (slots_of p) i t }) (moved u p q i t c) l leaving what None (turn_at u l n fresh p i)
        (f fresh ∙ ap (λ (z : What). N.Acts z None (record (node_of p).state { slots = set_at (slots_of p) i t })) (sym w))
        (let a = messages_set u (slots_of p) i v t (here u l leaving p set i h) in let b = it.less in let z = set.cells in omega (arith, a, b, z)))

    pub serve_full : (n : ℕ) → l.frames ≤ frames_used p.heap → IsTurned u l n leaving (A.Full F.Frames) p p i
    serve_full n full =
        let m = it.message in
        let real = slot_real u p set.unit i h in
        let y = offered_there u x real.fits set.unit.proper choosing at_first.place at_first.offered names alt m.method m.args (serves_for_call m.from m.call) at_first.at the_names it.named in
        let t = slot_after y.0 m.call m.from in
        let long = (numbers_serving u x y.0 alt m.method m.args (serves_for_call m.from m.call) real.fits y.1).1 in
        let some = some_frame u x real.fits in
        let a = frames_set u (slots_of p) i v t (here u l leaving p set i h) in
        let b = under_way_is u x some in
        let more : 0 < length y.0.frames = omega (arith, long) in
        let c = under_way_is u y.0 more in
        let d = frames_seen u p set.unit in
        turned u l n leaving (A.Full F.Frames) p p i (λ fresh. record {
          same = refl;
          full =
              ap (λ (z : NodeActed Placed). within_node (coded u) l leaving z) (taken_turn n fresh y.0 y.1)
              ∙ within_frames (coded u) l leaving (W.Step (taken_label o m) 1) None (record (node_of p).state { slots = set_at (slots_of p) i t })
              (objects t) (omega (arith, a, b, c, d, long, full));
        })
      where
        objects : (t : Slot Placed) → length (set_at (slots_of p) i t) ≤ l.objects
        objects t =
            let a = set_length (slots_of p) i t in
            let b = slots_length p.heap.objects p.outstanding p.faults p.goals p.mailbox.boxes in
            let c = set.whole.objects in let d = set.placement.objects in omega (arith, a, b, c, d)
