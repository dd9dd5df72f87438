-- The alternatives of an object of code, as the definition of nodes sees them.
use Rattle.std.proofs.Common.{◌≡◌, refl, sym, ap, subst, ◌∙◌, ℕ, ◌+◌, ◌==◌, List, [], ◌∷◌, length, Option, Some, None, is_some, Bool, true, false, ◌||◌, if◌then◌else◌}
use Rattle.std.specs.Prelude.{slice_get, position}
use Rattle.std.specs.Option.{unwrap_or}
use Rattle.std.specs.List.{list_any, position_from}
use Rattle.std.proofs.lemmas.Iterator.Adapters.{position_from-zero}
use Rattle.run_types.specs.declared.types.NameId.{NameId}
use Rattle.run_types.specs.declared.types.Value.{Value}
use Rattle.run_types.specs.declared.types.Value.TheVariants as V
use Rattle.run_types.specs.declared.types.Serves.{Serves}
use Rattle.run_types.specs.declared.types.Serves.TheVariants as S
use Rattle.run_types.specs.declared.types.Error.TheVariants.{NilOperand, NoOpenGuard}
use Rattle.run_types.specs.Values.{Outcome, Gives, Fails, WrongSort, is_bool, is_true, not_bool}
use Rattle.code_semantics.specs.declared.unit.Instr.{Instr}
use Rattle.code_semantics.specs.declared.unit.Instr.TheVariants as I
use Rattle.code_semantics.specs.declared.unit.AltCode.{AltCode}
use Rattle.code_semantics.specs.declared.unit.ClassCode.{ClassCode}
use Rattle.code_semantics.specs.declared.unit.Unit.{Unit as Code}
use Rattle.run_types.specs.declared.frames.Frame.{Frame}
use Rattle.run_types.specs.declared.frames.CodeObject.{CodeObject}
use Rattle.code_semantics.specs.Frames.{code_of}
use Rattle.run_types.specs.Operands.{top, dropped, taken}
use Rattle.code_semantics.specs.Kinds as C
use Rattle.code_semantics.specs.Kinds.{Kind, Offered, offers, operated, outcome_kind, sent_kind, return_kind, select_kind, instr_kind, frames_kind, code_kind}
use Rattle.code_semantics.specs.Step.{class_from}
use Rattle.code_semantics.proofs.Laws.{if_never}
use Rattle.object_interp.specs.declared.types.Need.TheVariants as N
use Rattle.object_interp.specs.declared.types.Hand.TheVariants as H
use Rattle.object_interp.specs.Offers.{IsChoosing, IsSelecting, instr_offers, frames_offers, offers_at, hand_of, steps_alone}
use Rattle.mesh_semantics.specs.Kind as K
use Rattle.mesh_semantics.specs.Kind.{Alternative, has_name, answered}
use Rattle.mesh_semantics.specs.Delay.{Arrival}
use Rattle.mesh_semantics.specs.Act.{first_arrival, is_possible, can_step}
use Rattle.mesh_of_code.specs.Coded as E
use Rattle.mesh_of_code.specs.Coded.{numbers, alternatives_of, kind_of}
use Rattle.node_semantics.specs.Node.{arrivals}
use Rattle.slot_queues.specs.declared.Message.{Message}
use Rattle.slot_queues.specs.Mail.{is_named}
use Rattle.node_state.specs.Views.{arrivals_of}
use Rattle.node_state.specs.Choices.{may_go, first_of_these}

-- an instruction at which an object chooses
choose_select : (alts : List AltCode) (vs : List Value) → IsChoosing (select_kind alts vs) → kind_of (select_kind alts vs) ≡ K.Select (alternatives_of (offers alts vs))
choose_select alts vs h = by (list_any not_bool vs) (list_any is_true vs) h
  where
    by : (a b : Bool) → IsChoosing (if a then C.Fault NilOperand else (if b then C.Select (offers alts vs) else C.Fault NoOpenGuard))
        → kind_of (if a then C.Fault NilOperand else (if b then C.Select (offers alts vs) else C.Fault NoOpenGuard)) ≡ K.Select (alternatives_of (offers alts vs))
    by true b h = absurd h
    by false true h = refl
    by false false h = absurd h

pub no_outcome : (w : Outcome) → IsChoosing (outcome_kind w) → ⊥
no_outcome (Gives v) h = h
no_outcome (Fails e) h = h
no_outcome WrongSort h = h

pub no_branch : (b : Bool) → IsChoosing (if b then C.Local else C.Fault NilOperand) → ⊥
no_branch true h = h
no_branch false h = h

pub no_return : (s : Serves) (v : Value) → IsChoosing (return_kind s v) → ⊥
no_return S.Own v h = h
no_return (S.Caller k n) v h = h
no_return S.Sender v h = h

pub no_send : (d : Value) (m : NameId) (args : List Value) → IsChoosing (sent_kind d (λ b. C.Send b m args)) → ⊥
no_send (V.Int z) m args h = h
no_send (V.Bool b) m args h = h
no_send V.Nil m args h = h
no_send (V.Ref b) m args h = h

pub no_async : (d : Value) (m : NameId) (args : List Value) → IsChoosing (sent_kind d (λ b. C.Async b m args)) → ⊥
no_async (V.Int z) m args h = h
no_async (V.Bool b) m args h = h
no_async V.Nil m args h = h
no_async (V.Ref b) m args h = h

choose_instr : (f : Frame) (i : Option Instr) → IsChoosing (instr_kind f i) → kind_of (instr_kind f i) ≡ K.Select (alternatives_of (instr_offers f i))
choose_instr f (Some (I.Answer names)) h = refl
choose_instr f (Some (I.Select alts)) h = choose_select alts (taken (length alts) f.operands []) h
choose_instr f (Some (I.Oper op)) h = absurd (no_outcome (operated op f.operands) h)
choose_instr f (Some (I.Branch a)) h = absurd (no_branch (is_bool (top f.operands)) h)
choose_instr f (Some I.Ret) h = absurd (no_return f.serves (top f.operands) h)
choose_instr f (Some I.Post) h = absurd (no_return f.serves (top f.operands) h)
choose_instr f (Some (I.Send m n)) h = absurd (no_send (top (dropped n f.operands)) m (taken n f.operands []) h)
choose_instr f (Some (I.Async m n)) h = absurd (no_async (top (dropped n f.operands)) m (taken n f.operands []) h)
choose_instr f _ h = absurd h

choose_frames : (k : Option ClassCode) (fs : List Frame) → IsChoosing (frames_kind k fs) → kind_of (frames_kind k fs) ≡ K.Select (alternatives_of (frames_offers k fs))
choose_frames k [] h = absurd h
choose_frames k (f ∷ fs) h = choose_instr f (slice_get (code_of k f.method) f.at) h

-- an object that chooses is at a select of what it offers
pub choosing_kind : (u : Code) (x : CodeObject) → IsChoosing (code_kind u x) → kind_of (code_kind u x) ≡ K.Select (alternatives_of (offers_at u x))
choosing_kind u x h = choose_frames (slice_get u.classes x.class) x.frames h

-- names of methods
pub same_names : (names : List NameId) (m : NameId) → has_name (numbers names) m.0 ≡ is_named names m
same_names [] m = refl
same_names (n ∷ ns) m = ap (λ b. (n.0 == m.0) || b) (same_names ns m)

same_from : (names : List NameId) (n : ℕ) (box : List Message)
    → is_some (first_arrival (numbers names) (arrivals (arrivals_of box))) ≡ is_some (position_from (λ (m : Message). is_named names m.method) n box)
same_from names n [] = refl
same_from names n (m ∷ box) = by (is_named names m.method) refl (same_from names (n + 1) box)
  where
    by : (b : Bool) → is_named names m.method ≡ b
        → is_some (first_arrival (numbers names) (arrivals (arrivals_of box))) ≡ is_some (position_from (λ (m : Message). is_named names m.method) (n + 1) box)
        → is_some (first_arrival (numbers names) (arrivals (arrivals_of (m ∷ box)))) ≡ is_some (position_from (λ (m : Message). is_named names m.method) n (m ∷ box))
    by true e h = let w : has_name (numbers names) m.method.0 ≡ true = same_names names m.method ∙ e in rw (w, e) refl
    by false e h = let w : has_name (numbers names) m.method.0 ≡ false = same_names names m.method ∙ e in rw (w, e) h

same_found : (names : List NameId) (box : List Message) → is_some (first_arrival (numbers names) (arrivals (arrivals_of box))) ≡ is_some (position (λ (m : Message). is_named names m.method) box)
same_found names box = same_from names 0 box ∙ ap (λ (o : Option ℕ). is_some o) (sym (position_from-zero (λ (m : Message). is_named names m.method) box))

-- an alternative is possible where it may go
pub possible_is : (box : List Message) (a : Offered)
    → is_possible (arrivals (arrivals_of box)) (record { is_open = a.is_open; names = E.answered a.answer }) ≡ may_go box (Some a)
possible_is box a = by a.is_open a.answer
  where
    by : (o : Bool) (ns : Option (List NameId))
        → is_possible (arrivals (arrivals_of box)) (record { is_open = o; names = E.answered ns }) ≡ may_go box (Some (record { is_open = o; answer = ns }))
    by false ns = refl
    by true None = refl
    by true (Some names) = same_found names box

any_possible : (box : List Message) (n : ℕ) (os : List Offered)
    → list_any (is_possible (arrivals (arrivals_of box))) (alternatives_of os) ≡ is_some (first_of_these box n os)
any_possible box n [] = refl
any_possible box n (a ∷ os) = by (may_go box (Some a)) refl (any_possible box (n + 1) os)
  where
    by : (b : Bool) → may_go box (Some a) ≡ b → list_any (is_possible (arrivals (arrivals_of box))) (alternatives_of os) ≡ is_some (first_of_these box (n + 1) os)
        → list_any (is_possible (arrivals (arrivals_of box))) (alternatives_of (a ∷ os)) ≡ is_some (first_of_these box n (a ∷ os))
    by true e h = let w = possible_is box a ∙ e in rw (w, e) refl
    by false e h = let w = possible_is box a ∙ e in rw (w, e) h

pub hand_answer : (u : Code) (k : Kind) → H.At N.Answer ≡ hand_of u k → IsChoosing k
hand_answer u (C.Answer names) h = tt
hand_answer u _ h = absurd (cc)

pub hand_select : (u : Code) (k : Kind) → H.At N.Select ≡ hand_of u k → IsSelecting k
hand_select u (C.Select alts) h = tt
hand_select u _ h = absurd (cc)

pub selecting_chooses : (k : Kind) → IsSelecting k → IsChoosing k
selecting_chooses (C.Select alts) h = tt
selecting_chooses _ h = absurd h

-- an object that chooses can step where an alternative is possible
pub can_choose : (u : Code) (x : CodeObject) (box : List Message) → IsChoosing (code_kind u x)
    → is_some (first_of_these box 1 (offers_at u x)) ≡ can_step (arrivals (arrivals_of box)) (kind_of (code_kind u x))
can_choose u x box h = sym (any_possible box 1 (offers_at u x)) ∙ ap (λ k. can_step (arrivals (arrivals_of box)) k) (sym (choosing_kind u x h))

-- an object that steps alone can step
pub alone_can : (box : List Arrival) (k : Kind) → steps_alone k ≡ true → can_step box (kind_of k) ≡ true
alone_can box C.Finished h = absurd (cc)
alone_can box (C.Answer names) h = absurd (cc)
alone_can box (C.Select alts) h = absurd (cc)
alone_can box _ h = refl

over_instr : (f : Frame) (i : Option Instr) → instr_kind f i ≡ C.Finished → instr_offers f i ≡ []
over_instr f (Some (I.Answer names)) h = absurd (cc)
over_instr f (Some (I.Select alts)) h =
    let vs = taken (length alts) f.operands [] in
    absurd (if_never (λ k. k ≡ C.Finished) (list_any not_bool vs) _ _ (λ e. cc) (if_never (λ k. k ≡ C.Finished) (list_any is_true vs) _ _ (λ e. cc) (λ e. cc)) h)
over_instr f _ h = refl

-- an object that is over offers nothing
over_frames : (k : Option ClassCode) (fs : List Frame) → frames_kind k fs ≡ C.Finished → frames_offers k fs ≡ []
over_frames k [] h = refl
over_frames k (f ∷ fs) h = over_instr f (slice_get (code_of k f.method) f.at) h

-- another object can step where an alternative is possible
pub else_can : (u : Code) (x : CodeObject) (box : List Message) → steps_alone (code_kind u x) ≡ false
    → is_some (first_of_these box 1 (offers_at u x)) ≡ can_step (arrivals (arrivals_of box)) (kind_of (code_kind u x))
else_can u x box h = by (code_kind u x) refl h
  where
    by : (k : Kind) → code_kind u x ≡ k → steps_alone k ≡ false → is_some (first_of_these box 1 (offers_at u x)) ≡ can_step (arrivals (arrivals_of box)) (kind_of (code_kind u x))
    by C.Finished e h =
        ap (λ os. is_some (first_of_these box 1 os)) (over_frames (slice_get u.classes x.class) x.frames e) ∙ ap (λ k. can_step (arrivals (arrivals_of box)) (kind_of k)) (sym e)
    by (C.Answer names) e h = can_choose u x box (subst IsChoosing (sym e) tt)
    by (C.Select alts) e h = can_choose u x box (subst IsChoosing (sym e) tt)
    by _ e h = absurd (cc)

pub hand_new : (u : Code) (k : Kind) (c : ℕ) → H.At (N.New c) ≡ hand_of u k → (n : NameId) × (k ≡ C.New n) × (unwrap_or (class_from 0 u.classes n) 0 ≡ c)
hand_new u (C.New n) c h = (n, refl, let e : unwrap_or (class_from 0 u.classes n) 0 ≡ c = cc in e)
hand_new u _ c h = absurd (cc)
