-- The next action of an object of a proper unit: its values have the property, and the classes and methods that it names exist.
use Rattle.std.proofs.Common.{◌≡◌, inl, inr, refl, sym, ap, ◌∙◌, subst, IsTrue, ℕ, zero, suc, ◌+◌, ◌≤◌, ◌==◌, List, [], ◌∷◌, length, Option, Some, None, is_some, Bool, true, false, arith}
use Rattle.std.specs.Prelude.{slice_get, if◌then◌else◌}
use Rattle.std.specs.List.{list_any}
use Rattle.run_types.specs.declared.types.NameId.{NameId}
use Rattle.run_types.specs.declared.types.Value.{Value}
use Rattle.run_types.specs.declared.types.Item.{Item}
use Rattle.run_types.specs.declared.types.Item.TheVariants as It
use Rattle.run_types.specs.declared.types.Value.TheVariants as V
use Rattle.run_types.specs.declared.types.Serves.{Serves}
use Rattle.run_types.specs.declared.types.Serves.TheVariants as S
use Rattle.run_types.specs.declared.types.Error.TheVariants.{NilDestination, NilOperand, NoOpenGuard}
use Rattle.run_types.specs.Values.{is_bool, is_true, not_bool}
use Rattle.code_semantics.specs.declared.unit.Instr.{Instr}
use Rattle.code_semantics.specs.declared.unit.Instr.TheVariants as I
use Rattle.code_semantics.specs.declared.unit.AltCode.{AltCode}
use Rattle.code_semantics.specs.declared.unit.ClassCode.{ClassCode}
use Rattle.code_semantics.specs.declared.unit.Unit.{Unit as Code}
use Rattle.run_types.specs.declared.frames.Frame.{Frame}
use Rattle.run_types.specs.declared.frames.CodeObject.{CodeObject}
use Rattle.code_semantics.specs.Frames.{code_of}
use Rattle.run_types.specs.Operands.{top, dropped, taken}
use Rattle.code_semantics.specs.Kinds as K
use Rattle.code_semantics.specs.Kinds.{Kind, Offered, operated, outcome_kind, sent_kind, return_kind, select_kind, offers, instr_kind, frames_kind, code_kind}
use Rattle.code_semantics.specs.Proper.{IsProper}
use Rattle.code_semantics.specs.ReachedPlaces.{AreOwn, AnswerOwn, AltsExist, Exists}
use Rattle.code_semantics.specs.Step.{Numbered, method_named, method_serving, frames_serving, code_serving, placed_of, code_placed, placed_at, class_from, code_made}
use Rattle.run_types.specs.Tables.{Each}
use Rattle.code_semantics.proofs.FrameSuccessors.{plain_range}
use Rattle.code_semantics.specs.OfUnit.{IsFrameOf, AreFramesOf, IsObjectOf}
use Rattle.code_semantics.specs.MadeNumbers.{HoldsOfPlain, IsInRange, IsMadeIn}
use Rattle.code_semantics.specs.StepInstructions.{IsNamed}
use Rattle.code_semantics.proofs.MadeValues.{HoldsOfItem}
use Rattle.code_semantics.proofs.Elements.{length_taken, each_dropped, each_taken, each_top}
use Rattle.code_semantics.proofs.SilentTermination.{same_some}
use Rattle.code_semantics.proofs.StepPreservation.{outcome_never, if_never, sent_never, return_never}
use Rattle.code_semantics.proofs.InstructionAtHand.{top_frame, top_exists}

-- the parts of a kind
abbrev receiver_of : Kind → ℕ
receiver_of (K.Send b m args) = b
receiver_of (K.Async b m args) = b
receiver_of _ = 0

abbrev args_of : Kind → List Value
args_of (K.Send b m args) = args
args_of (K.Async b m args) = args
args_of _ = []

abbrev value_of : Kind → Value
value_of (K.Return k n v) = v
value_of _ = V.Nil

abbrev class_of : Kind → NameId → NameId
class_of (K.New c) d = c
class_of _ d = d

abbrev names_of : Kind → List NameId
names_of (K.Answer names) = names
names_of _ = []

abbrev alts_of : Kind → List Offered
alts_of (K.Select alts) = alts
alts_of _ = []

-- no other instruction is of this kind
module _ (f : Frame) (Q : Kind → Type 0) (local : Q K.Local → ⊥) (fault : (e : _) → Q (K.Fault e) → ⊥) where
  branch_never : Q (if is_bool (top f.operands) then K.Local else K.Fault NilOperand) → ⊥
  branch_never a = if_never Q (is_bool (top f.operands)) K.Local (K.Fault NilOperand) local (fault NilOperand) a

  select_never : (alts : List AltCode) (gs : List Value) → ((os : List Offered) → Q (K.Select os) → ⊥) → Q (select_kind alts gs) → ⊥
  select_never alts gs s a =
      if_never Q (list_any not_bool gs) (K.Fault NilOperand) (if list_any is_true gs then K.Select (offers alts gs) else K.Fault NoOpenGuard) (fault NilOperand)
      (if_never Q (list_any is_true gs) (K.Select (offers alts gs)) (K.Fault NoOpenGuard) (s (offers alts gs)) (fault NoOpenGuard)) a

abbrev item_of : Kind → Item
item_of (K.Write j) = j
item_of _ = It.Value V.Nil

-- what a frame sends
module _ (P : Value → Type 0) (plain : HoldsOfPlain IsInRange P) where
  abbrev Sends : ℕ → List Value → Type 0
  Sends b args = P (V.Ref b) × Each P args × (length args ≤ 8)

  sends_by : (q : Kind) (n : ℕ) (vs : List Value) (go : ℕ → Kind) → n ≤ 8 → Each P vs → ((b : ℕ) → receiver_of (go b) ≡ b) → ((b : ℕ) → args_of (go b) ≡ taken n vs [])
      → ((e : _) → K.Fault e ≡ q → ⊥) → (v : Value) → P v → sent_kind v go ≡ q → Sends (receiver_of q) (args_of q)
  sends_by q n vs go small each to with none (V.Ref b) p e =
      let r : b ≡ receiver_of q = sym (to b) ∙ ap receiver_of e in
      let a : taken n vs [] ≡ args_of q = sym (with b) ∙ ap args_of e in
      let l : length (taken n vs []) ≤ 8 = omega (arith, length_taken n vs [], small) in
      (subst (λ c. P (V.Ref c)) r p, subst (Each P) a (each_taken P plain n vs [] each tt), subst (λ c. length c ≤ 8) a l)
  sends_by q n vs go small each to with none (V.Int z) p e = absurd (none NilDestination e)
  sends_by q n vs go small each to with none (V.Bool z) p e = absurd (none NilDestination e)
  sends_by q n vs go small each to with none V.Nil p e = absurd (none NilDestination e)

  return_by : (k n : ℕ) (w : Value) (s : Serves) (v : Value) → P v → return_kind s v ≡ K.Return k n w → P w
  return_by k n w (S.Caller c l) v p e = subst P (ap value_of e) p
  return_by k n w S.Own v p e = absurd (grind (arith, e))
  return_by k n w S.Sender v p e = absurd (grind (arith, e))

  module _ (u : Code) (proper : IsProper u) (k : ClassCode) (c : ℕ) (is_class : slice_get u.classes c ≡ Some k) (f : Frame) (fs : List Frame)
      (h : AreFramesOf k P None (f ∷ fs)) where
    on_top : IsFrameOf k P 0 f
    on_top = top_frame u k (proper.each c k is_class) P f fs h

    exists : (i : Instr) → slice_get (code_of (Some k) f.method) f.at ≡ Some i → Exists u (Some k) (length f.temps) (code_of (Some k) f.method) i
    exists i e = top_exists u k (proper.each c k is_class) P f fs h i e

    at_top : (n : ℕ) → P (top (dropped n f.operands))
    at_top n = each_top P plain (dropped n f.operands) (each_dropped P n f.operands on_top.operands)

    send_at : (b : ℕ) (m : NameId) (args : List Value) (i : Option Instr) → slice_get (code_of (Some k) f.method) f.at ≡ i → instr_kind f i ≡ K.Send b m args → Sends b args
    send_at b m args (Some (I.Send l n)) e q =
        sends_by (K.Send b m args) n f.operands (λ d. K.Send d l (taken n f.operands [])) (exists (I.Send l n) e).1 on_top.operands (λ d. refl) (λ d. refl)
        (λ x z. grind (arith, z)) (top (dropped n f.operands)) (at_top n) q
    send_at b m args (Some (I.Async l n)) e q =
        absurd (sent_never (λ x. x ≡ K.Send b m args) (top (dropped n f.operands)) (λ d. K.Async d l (taken n f.operands [])) (λ d z. grind (arith, z)) (λ x z. grind (arith, z)) q)
    send_at b m args (Some (I.Oper op)) e q = absurd (outcome_never (λ x. x ≡ K.Send b m args) (λ z. grind (arith, z)) (λ x z. grind (arith, z)) (operated op f.operands) q)
    send_at b m args (Some (I.Branch a)) e q = absurd (branch_never f (λ x. x ≡ K.Send b m args) (λ z. grind (arith, z)) (λ x z. grind (arith, z)) q)
    send_at b m args (Some I.Ret) e q =
        absurd (return_never (λ x. x ≡ K.Send b m args) f.serves (top f.operands) (λ z. grind (arith, z)) (λ a d z. grind (arith, z)) q)
    send_at b m args (Some I.Post) e q =
        absurd (return_never (λ x. x ≡ K.Send b m args) f.serves (top f.operands) (λ z. grind (arith, z)) (λ a d z. grind (arith, z)) q)
    send_at b m args (Some (I.Select alts)) e q =
        absurd (select_never f (λ x. x ≡ K.Send b m args) (λ z. grind (arith, z)) (λ x z. grind (arith, z)) alts (taken (length alts) f.operands []) (λ os z. grind (arith, z)) q)
    send_at b m args _ e q = absurd (grind (arith, q))

    async_at : (b : ℕ) (m : NameId) (args : List Value) (i : Option Instr) → slice_get (code_of (Some k) f.method) f.at ≡ i → instr_kind f i ≡ K.Async b m args → Sends b args
    async_at b m args (Some (I.Async l n)) e q =
        sends_by (K.Async b m args) n f.operands (λ d. K.Async d l (taken n f.operands [])) (exists (I.Async l n) e).1 on_top.operands (λ d. refl) (λ d. refl)
        (λ x z. grind (arith, z)) (top (dropped n f.operands)) (at_top n) q
    async_at b m args (Some (I.Send l n)) e q =
        absurd (sent_never (λ x. x ≡ K.Async b m args) (top (dropped n f.operands)) (λ d. K.Send d l (taken n f.operands [])) (λ d z. grind (arith, z)) (λ x z. grind (arith, z)) q)
    async_at b m args (Some (I.Oper op)) e q = absurd (outcome_never (λ x. x ≡ K.Async b m args) (λ z. grind (arith, z)) (λ x z. grind (arith, z)) (operated op f.operands) q)
    async_at b m args (Some (I.Branch a)) e q = absurd (branch_never f (λ x. x ≡ K.Async b m args) (λ z. grind (arith, z)) (λ x z. grind (arith, z)) q)
    async_at b m args (Some I.Ret) e q =
        absurd (return_never (λ x. x ≡ K.Async b m args) f.serves (top f.operands) (λ z. grind (arith, z)) (λ a d z. grind (arith, z)) q)
    async_at b m args (Some I.Post) e q =
        absurd (return_never (λ x. x ≡ K.Async b m args) f.serves (top f.operands) (λ z. grind (arith, z)) (λ a d z. grind (arith, z)) q)
    async_at b m args (Some (I.Select alts)) e q =
        absurd (select_never f (λ x. x ≡ K.Async b m args) (λ z. grind (arith, z)) (λ x z. grind (arith, z)) alts (taken (length alts) f.operands []) (λ os z. grind (arith, z)) q)
    async_at b m args _ e q = absurd (grind (arith, q))

    return_at : (a n : ℕ) (v : Value) (i : Option Instr) → slice_get (code_of (Some k) f.method) f.at ≡ i → instr_kind f i ≡ K.Return a n v → P v
    return_at a n v (Some I.Ret) e q = return_by a n v f.serves (top f.operands) (at_top 0) q
    return_at a n v (Some I.Post) e q = return_by a n v f.serves (top f.operands) (at_top 0) q
    return_at a n v (Some (I.Send l m)) e q =
        absurd (sent_never (λ x. x ≡ K.Return a n v) (top (dropped m f.operands)) (λ d. K.Send d l (taken m f.operands [])) (λ d z. grind (arith, z)) (λ x z. grind (arith, z)) q)
    return_at a n v (Some (I.Async l m)) e q =
        absurd (sent_never (λ x. x ≡ K.Return a n v) (top (dropped m f.operands)) (λ d. K.Async d l (taken m f.operands [])) (λ d z. grind (arith, z)) (λ x z. grind (arith, z)) q)
    return_at a n v (Some (I.Oper op)) e q = absurd (outcome_never (λ x. x ≡ K.Return a n v) (λ z. grind (arith, z)) (λ x z. grind (arith, z)) (operated op f.operands) q)
    return_at a n v (Some (I.Branch b)) e q = absurd (branch_never f (λ x. x ≡ K.Return a n v) (λ z. grind (arith, z)) (λ x z. grind (arith, z)) q)
    return_at a n v (Some (I.Select alts)) e q =
        absurd (select_never f (λ x. x ≡ K.Return a n v) (λ z. grind (arith, z)) (λ x z. grind (arith, z)) alts (taken (length alts) f.operands []) (λ os z. grind (arith, z)) q)
    return_at a n v _ e q = absurd (grind (arith, q))

    write_at : (j : Item) (i : Option Instr) → slice_get (code_of (Some k) f.method) f.at ≡ i → instr_kind f i ≡ K.Write j → HoldsOfItem P j
    write_at j (Some I.Write) e q = subst (HoldsOfItem P) (ap item_of q) (at_top 0)
    write_at j (Some (I.WriteText s)) e q = subst (HoldsOfItem P) (ap item_of q) tt
    write_at j (Some (I.Send l m)) e q =
        absurd (sent_never (λ x. x ≡ K.Write j) (top (dropped m f.operands)) (λ d. K.Send d l (taken m f.operands [])) (λ d z. grind (arith, z)) (λ x z. grind (arith, z)) q)
    write_at j (Some (I.Async l m)) e q =
        absurd (sent_never (λ x. x ≡ K.Write j) (top (dropped m f.operands)) (λ d. K.Async d l (taken m f.operands [])) (λ d z. grind (arith, z)) (λ x z. grind (arith, z)) q)
    write_at j (Some (I.Oper op)) e q = absurd (outcome_never (λ x. x ≡ K.Write j) (λ z. grind (arith, z)) (λ x z. grind (arith, z)) (operated op f.operands) q)
    write_at j (Some (I.Branch b)) e q = absurd (branch_never f (λ x. x ≡ K.Write j) (λ z. grind (arith, z)) (λ x z. grind (arith, z)) q)
    write_at j (Some I.Ret) e q =
        absurd (return_never (λ x. x ≡ K.Write j) f.serves (top f.operands) (λ z. grind (arith, z)) (λ a b z. grind (arith, z)) q)
    write_at j (Some (I.Select alts)) e q =
        absurd (select_never f (λ x. x ≡ K.Write j) (λ z. grind (arith, z)) (λ x z. grind (arith, z)) alts (taken (length alts) f.operands []) (λ os z. grind (arith, z)) q)
    write_at j _ e q = absurd (grind (arith, q))

    -- the class of a New is there
    new_at : (d : NameId) (i : Option Instr) → slice_get (code_of (Some k) f.method) f.at ≡ i → instr_kind f i ≡ K.New d → IsTrue (is_some (class_from 0 u.classes d))
    new_at d (Some (I.New n)) e q = subst (λ m. IsTrue (is_some (class_from 0 u.classes m))) (ap (λ a. class_of a d) q) (exists (I.New n) e)
    new_at d (Some (I.Send l m)) e q =
        absurd (sent_never (λ x. x ≡ K.New d) (top (dropped m f.operands)) (λ b. K.Send b l (taken m f.operands [])) (λ b z. grind (arith, z)) (λ x z. grind (arith, z)) q)
    new_at d (Some (I.Async l m)) e q =
        absurd (sent_never (λ x. x ≡ K.New d) (top (dropped m f.operands)) (λ b. K.Async b l (taken m f.operands [])) (λ b z. grind (arith, z)) (λ x z. grind (arith, z)) q)
    new_at d (Some (I.Oper op)) e q = absurd (outcome_never (λ x. x ≡ K.New d) (λ z. grind (arith, z)) (λ x z. grind (arith, z)) (operated op f.operands) q)
    new_at d (Some (I.Branch b)) e q = absurd (branch_never f (λ x. x ≡ K.New d) (λ z. grind (arith, z)) (λ x z. grind (arith, z)) q)
    new_at d (Some I.Ret) e q =
        absurd (return_never (λ x. x ≡ K.New d) f.serves (top f.operands) (λ z. grind (arith, z)) (λ a b z. grind (arith, z)) q)
    new_at d (Some I.Post) e q =
        absurd (return_never (λ x. x ≡ K.New d) f.serves (top f.operands) (λ z. grind (arith, z)) (λ a b z. grind (arith, z)) q)
    new_at d (Some (I.Select alts)) e q =
        absurd (select_never f (λ x. x ≡ K.New d) (λ z. grind (arith, z)) (λ x z. grind (arith, z)) alts (taken (length alts) f.operands []) (λ os z. grind (arith, z)) q)
    new_at d _ e q = absurd (grind (arith, q))

    -- the methods of an Answer are the class's own
    answer_at : (names : List NameId) (i : Option Instr) → slice_get (code_of (Some k) f.method) f.at ≡ i → instr_kind f i ≡ K.Answer names → AreOwn (Some k) names
    answer_at names (Some (I.Answer ms)) e q = subst (AreOwn (Some k)) (ap names_of q) (exists (I.Answer ms) e)
    answer_at names (Some (I.Send l m)) e q =
        absurd (sent_never (λ x. x ≡ K.Answer names) (top (dropped m f.operands)) (λ b. K.Send b l (taken m f.operands [])) (λ b z. grind (arith, z)) (λ x z. grind (arith, z)) q)
    answer_at names (Some (I.Async l m)) e q =
        absurd (sent_never (λ x. x ≡ K.Answer names) (top (dropped m f.operands)) (λ b. K.Async b l (taken m f.operands [])) (λ b z. grind (arith, z)) (λ x z. grind (arith, z)) q)
    answer_at names (Some (I.Oper op)) e q = absurd (outcome_never (λ x. x ≡ K.Answer names) (λ z. grind (arith, z)) (λ x z. grind (arith, z)) (operated op f.operands) q)
    answer_at names (Some (I.Branch b)) e q = absurd (branch_never f (λ x. x ≡ K.Answer names) (λ z. grind (arith, z)) (λ x z. grind (arith, z)) q)
    answer_at names (Some I.Ret) e q =
        absurd (return_never (λ x. x ≡ K.Answer names) f.serves (top f.operands) (λ z. grind (arith, z)) (λ a b z. grind (arith, z)) q)
    answer_at names (Some I.Post) e q =
        absurd (return_never (λ x. x ≡ K.Answer names) f.serves (top f.operands) (λ z. grind (arith, z)) (λ a b z. grind (arith, z)) q)
    answer_at names (Some (I.Select alts)) e q =
        absurd (select_never f (λ x. x ≡ K.Answer names) (λ z. grind (arith, z)) (λ x z. grind (arith, z)) alts (taken (length alts) f.operands []) (λ os z. grind (arith, z)) q)
    answer_at names _ e q = absurd (grind (arith, q))

    -- the alternatives of a select are those of its instruction
    abbrev IsSelect : List Offered → Type 0
    IsSelect os = (alts : List AltCode) × (gs : List Value) × (offers alts gs ≡ os) × AltsExist (Some k) (code_of (Some k) f.method) alts

    select_by : (os : List Offered) (alts : List AltCode) (gs : List Value) → AltsExist (Some k) (code_of (Some k) f.method) alts → (a b : Bool)
        → (if a then K.Fault NilOperand else (if b then K.Select (offers alts gs) else K.Fault NoOpenGuard)) ≡ K.Select os → IsSelect os
    select_by os alts gs x true b q = absurd (grind (arith, q))
    select_by os alts gs x false true q = (alts, gs, ap alts_of q, x)
    select_by os alts gs x false false q = absurd (grind (arith, q))

    select_at : (os : List Offered) (i : Option Instr) → slice_get (code_of (Some k) f.method) f.at ≡ i → instr_kind f i ≡ K.Select os → IsSelect os
    select_at os (Some (I.Select alts)) e q =
        let gs = taken (length alts) f.operands [] in
        select_by os alts gs (exists (I.Select alts) e) (list_any not_bool gs) (list_any is_true gs) q
    select_at os (Some (I.Send l m)) e q =
        absurd (sent_never (λ x. x ≡ K.Select os) (top (dropped m f.operands)) (λ b. K.Send b l (taken m f.operands [])) (λ b z. grind (arith, z)) (λ x z. grind (arith, z)) q)
    select_at os (Some (I.Async l m)) e q =
        absurd (sent_never (λ x. x ≡ K.Select os) (top (dropped m f.operands)) (λ b. K.Async b l (taken m f.operands [])) (λ b z. grind (arith, z)) (λ x z. grind (arith, z)) q)
    select_at os (Some (I.Oper op)) e q = absurd (outcome_never (λ x. x ≡ K.Select os) (λ z. grind (arith, z)) (λ x z. grind (arith, z)) (operated op f.operands) q)
    select_at os (Some (I.Branch b)) e q = absurd (branch_never f (λ x. x ≡ K.Select os) (λ z. grind (arith, z)) (λ x z. grind (arith, z)) q)
    select_at os (Some I.Ret) e q =
        absurd (return_never (λ x. x ≡ K.Select os) f.serves (top f.operands) (λ z. grind (arith, z)) (λ a b z. grind (arith, z)) q)
    select_at os (Some I.Post) e q =
        absurd (return_never (λ x. x ≡ K.Select os) f.serves (top f.operands) (λ z. grind (arith, z)) (λ a b z. grind (arith, z)) q)
    select_at os _ e q = absurd (grind (arith, q))

-- an alternative of a select answers methods of the class
alternative_own : (k : Option ClassCode) (c : List Instr) (alts : List AltCode) (gs : List Value) (j : ℕ) (a : Offered) (names : List NameId) → AltsExist k c alts
    → slice_get (offers alts gs) j ≡ Some a → a.answer ≡ Some names → AreOwn k names
alternative_own k c [] gs j a names x e q = absurd (grind (arith, e))
alternative_own k c (b ∷ alts) [] j a names x e q = absurd (grind (arith, e))
alternative_own k c (b ∷ alts) (v ∷ gs) zero a names x e q =
    let same : b.answer ≡ Some names = ap (λ (o : Offered). o.answer) (same_some (record { is_open = is_true v; answer = b.answer }) a e) ∙ q in
    subst (AnswerOwn k) same x.0
alternative_own k c (b ∷ alts) (v ∷ gs) (suc j) a names x e q = alternative_own k c alts gs j a names x.2 e q

-- a name of the class's own methods
own_named : (k : Option ClassCode) (m : NameId) (names : List NameId) → AreOwn k names → IsNamed m names → IsTrue (is_some (method_named k m))
own_named k m [] o h = absurd h
own_named k m (n ∷ names) o (inl e) =
    let same : n ≡ m = λ i. record { 0 = e i } in subst (λ l. IsTrue (is_some (method_named k l))) same o.0
own_named k m (n ∷ names) o (inr h) = own_named k m names o.1 h

serving_some : (k : Option ClassCode) (x : CodeObject) (i : ℕ) (args : List Value) (s : Serves) (r : Option Numbered) → IsTrue (is_some r)
    → (y : CodeObject) × (method_serving k x i r args s ≡ Some y)
serving_some k x i args s None h = absurd (grind (arith, h))
serving_some k x i args s (Some r) h = (frames_serving k x i r args s x.frames, refl)

-- the class of a name is there
class_at : (n : ℕ) (ks : List ClassCode) (c : NameId) (l : ℕ) → class_from n ks c ≡ Some l → (j : ℕ) × (l ≡ n + j) × ((k : ClassCode) × (slice_get ks j ≡ Some k))
class_at n [] c l h = absurd (grind (arith, h))
class_at n (k ∷ ks) c l h = by (k.name.0 == c.0) refl (class_at (suc n) ks c l)
  where
    by : (b : Bool) → (k.name.0 == c.0) ≡ b → (class_from (suc n) ks c ≡ Some l → (j : ℕ) × (l ≡ suc n + j) × ((d : ClassCode) × (slice_get ks j ≡ Some d)))
        → (j : ℕ) × (l ≡ n + j) × ((d : ClassCode) × (slice_get (k ∷ ks) j ≡ Some d))
    by true e more = let s : n ≡ l = same_some n l (rw e at h) in (0, omega (arith, s), (k, refl))
    by false e more = let d = more (rw e at h) in (suc d.0, omega (arith, d.1), d.2)

module _ (u : Code) where
  placed_some : (n : ℕ) (k : ClassCode) → slice_get u.classes n ≡ Some k → (y : CodeObject) × (code_placed u n ≡ Some y)
  placed_some n k e = by (placed_of n (Some k)) refl
    where
      by : (o : Option CodeObject) → placed_of n (Some k) ≡ o → (y : CodeObject) × (code_placed u n ≡ Some y)
      by None q = absurd (grind (arith, q))
      by (Some y) q = (y, ap (placed_of n) e ∙ q)

  made_some : (c : NameId) (o : Option ℕ) → class_from 0 u.classes c ≡ o → IsTrue (is_some o) → (y : CodeObject) × (placed_at u o ≡ Some y)
  made_some c None e h = absurd (grind (arith, h))
  made_some c (Some n) e h =
      let d = class_at 0 u.classes c n e in
      let same : n ≡ d.0 = omega (arith, d.1) in
      placed_some n d.2.0 (ap (slice_get u.classes) same ∙ d.2.1)

module _ (u : Code) (proper : IsProper u) (P : Value → Type 0) (plain : HoldsOfPlain (IsMadeIn u) P) (x : CodeObject) (h : IsObjectOf u P x) where
  same_kind : (q : Kind) → code_kind u x ≡ q → frames_kind (Some h.class) x.frames ≡ q
  same_kind q e = subst (λ k. frames_kind k x.frames ≡ q) h.is_class e

  send_by : (b : ℕ) (m : NameId) (args : List Value) (fs : List Frame) → AreFramesOf h.class P None fs → frames_kind (Some h.class) fs ≡ K.Send b m args → Sends P (plain_range u P plain) b args
  send_by b m args [] a e = absurd a
  send_by b m args (f ∷ fs) a e = send_at P (plain_range u P plain) u proper h.class x.class h.is_class f fs a b m args (slice_get (code_of (Some h.class) f.method) f.at) refl e

  async_by : (b : ℕ) (m : NameId) (args : List Value) (fs : List Frame) → AreFramesOf h.class P None fs → frames_kind (Some h.class) fs ≡ K.Async b m args → Sends P (plain_range u P plain) b args
  async_by b m args [] a e = absurd a
  async_by b m args (f ∷ fs) a e = async_at P (plain_range u P plain) u proper h.class x.class h.is_class f fs a b m args (slice_get (code_of (Some h.class) f.method) f.at) refl e

  value_by : (k n : ℕ) (v : Value) (fs : List Frame) → AreFramesOf h.class P None fs → frames_kind (Some h.class) fs ≡ K.Return k n v → P v
  value_by k n v [] a e = absurd a
  value_by k n v (f ∷ fs) a e = return_at P (plain_range u P plain) u proper h.class x.class h.is_class f fs a k n v (slice_get (code_of (Some h.class) f.method) f.at) refl e

  item_by : (j : Item) (fs : List Frame) → AreFramesOf h.class P None fs → frames_kind (Some h.class) fs ≡ K.Write j → HoldsOfItem P j
  item_by j [] a e = absurd a
  item_by j (f ∷ fs) a e = write_at P (plain_range u P plain) u proper h.class x.class h.is_class f fs a j (slice_get (code_of (Some h.class) f.method) f.at) refl e

  new_by : (c : NameId) (fs : List Frame) → AreFramesOf h.class P None fs → frames_kind (Some h.class) fs ≡ K.New c → IsTrue (is_some (class_from 0 u.classes c))
  new_by c [] a e = absurd a
  new_by c (f ∷ fs) a e = new_at P (plain_range u P plain) u proper h.class x.class h.is_class f fs a c (slice_get (code_of (Some h.class) f.method) f.at) refl e

  answer_by : (names : List NameId) (fs : List Frame) → AreFramesOf h.class P None fs → frames_kind (Some h.class) fs ≡ K.Answer names → AreOwn (Some h.class) names
  answer_by names [] a e = absurd a
  answer_by names (f ∷ fs) a e = answer_at P (plain_range u P plain) u proper h.class x.class h.is_class f fs a names (slice_get (code_of (Some h.class) f.method) f.at) refl e

  chosen_by : (os : List Offered) (j : ℕ) (o : Offered) (names : List NameId) (fs : List Frame) → AreFramesOf h.class P None fs → frames_kind (Some h.class) fs ≡ K.Select os
      → slice_get os j ≡ Some o → o.answer ≡ Some names → AreOwn (Some h.class) names
  chosen_by os j o names [] a e s q = absurd a
  chosen_by os j o names (f ∷ fs) a e s q =
      let r = select_at P (plain_range u P plain) u proper h.class x.class h.is_class f fs a os (slice_get (code_of (Some h.class) f.method) f.at) refl e in
      alternative_own (Some h.class) (code_of (Some h.class) f.method) r.0 r.1 j o names r.3 (subst (λ l. slice_get l j ≡ Some o) (sym r.2) s) q

  serves_own : (m : NameId) (names : List NameId) (i : ℕ) (args : List Value) (s : Serves) → AreOwn (Some h.class) names → IsNamed m names
      → (y : CodeObject) × (code_serving u x i m args s ≡ Some y)
  serves_own m names i args s own named =
      subst (λ k. (y : CodeObject) × (method_serving k x i (method_named k m) args s ≡ Some y)) (sym h.is_class)
      (serving_some (Some h.class) x i args s (method_named (Some h.class) m) (own_named (Some h.class) m names own named))

  -- the values of a message and its receiver, of which there are at most eight and one
  pub send_values : (b : ℕ) (m : NameId) (args : List Value) → code_kind u x ≡ K.Send b m args → P (V.Ref b) × Each P args × (length args ≤ 8)
  send_values b m args e = send_by b m args x.frames h.frames (same_kind _ e)

  pub async_values : (b : ℕ) (m : NameId) (args : List Value) → code_kind u x ≡ K.Async b m args → P (V.Ref b) × Each P args × (length args ≤ 8)
  async_values b m args e = async_by b m args x.frames h.frames (same_kind _ e)

  -- the value that is returned
  pub return_value : (k n : ℕ) (v : Value) → code_kind u x ≡ K.Return k n v → P v
  return_value k n v e = value_by k n v x.frames h.frames (same_kind _ e)

  -- the value that is written, if it is no string
  pub write_value : (j : Item) → code_kind u x ≡ K.Write j → HoldsOfItem P j
  write_value j e = item_by j x.frames h.frames (same_kind _ e)

  -- the class of which an object is made is there
  pub made_there : (k : NameId) → code_kind u x ≡ K.New k → (y : CodeObject) × (code_made u k ≡ Some y)
  made_there k e = made_some u k (class_from 0 u.classes k) refl (new_by k x.frames h.frames (same_kind _ e))

  -- a method that is answered is there
  pub served_there : (names : List NameId) (i : ℕ) (m : NameId) (args : List Value) (s : Serves) → code_kind u x ≡ K.Answer names → IsNamed m names
      → (y : CodeObject) × (code_serving u x i m args s ≡ Some y)
  served_there names i m args s e named = serves_own m names i args s (answer_by names x.frames h.frames (same_kind _ e)) named

  -- so is one of an alternative, where j counts from 0
  pub chosen_there : (alts : List Offered) (j : ℕ) (a : Offered) (names : List NameId) (i : ℕ) (m : NameId) (args : List Value) (s : Serves) → code_kind u x ≡ K.Select alts
      → slice_get alts j ≡ Some a → a.answer ≡ Some names → IsNamed m names → (y : CodeObject) × (code_serving u x i m args s ≡ Some y)
  chosen_there alts j a names i m args s e at q named = serves_own m names i args s (chosen_by alts j a names x.frames h.frames (same_kind _ e) at q) named

-- a name by its test
pub named_by_test : (m : NameId) (names : List NameId) → list_any (λ (n : NameId). n.0 == m.0) names ≡ true → IsNamed m names
named_by_test m [] h = absurd (grind (arith, h))
named_by_test m (n ∷ names) h = by (n.0 == m.0) refl (named_by_test m names)
  where
    by : (b : Bool) → (n.0 == m.0) ≡ b → (list_any (λ (l : NameId). l.0 == m.0) names ≡ true → IsNamed m names) → IsNamed m (n ∷ names)
    by true e more = inl (let i : n.0 ≡ m.0 = grind (arith, e) in i)
    by false e more = inr (more (rw e at h))
