-- The instructions at which an object makes a request, and the object after the request was done.
use Rattle.std.proofs.Common.{◌≡◌, inl, inr, refl, sym, ap, ◌∙◌, subst, IsTrue, ℕ, zero, suc, ◌+◌, ◌-◌, ◌<◌, ◌≤◌, ◌^◌, List, [], ◌∷◌, length, map, Option, Some, None, is_some, Bool, true, false, not, arith}
use Rattle.std.specs.Prelude.{slice_get, if◌then◌else◌, ◌==◌, ◌||◌, is_none}
use Rattle.std.specs.List.{list_any}
use Rattle.std.proofs.lemmas.Bool.{eqb-true}
use Rattle.std.proofs.lemmas.Option.{slice_get_within}
use Rattle.run_types.specs.declared.types.NameId.{NameId}
use Rattle.run_types.specs.declared.types.Value.{Value}
use Rattle.run_types.specs.declared.types.Serves.{Serves}
use Rattle.run_types.specs.declared.types.Serves.TheVariants as S
use Rattle.run_types.specs.declared.types.Value.TheVariants as V
use Rattle.run_types.specs.declared.types.Error.TheVariants.{NilOperand}
use Rattle.run_types.specs.Values.{Outcome, Gives, Fails, WrongSort, is_true, not_bool, is_bool}
use Rattle.code_semantics.specs.declared.unit.Instr.{Instr}
use Rattle.code_semantics.specs.declared.unit.Instr.TheVariants as I
use Rattle.code_semantics.specs.declared.unit.AltCode.{AltCode}
use Rattle.code_semantics.specs.declared.unit.ClassCode.{ClassCode}
use Rattle.code_semantics.specs.declared.unit.Unit.{Unit as Code}
use Rattle.run_types.specs.declared.frames.Frame.{Frame}
use Rattle.run_types.specs.declared.frames.CodeObject.{CodeObject}
use Rattle.code_semantics.specs.Frames.{code_of, next}
use Rattle.run_types.specs.Operands.{top, below, taken, dropped, nth}
use Rattle.code_semantics.specs.Kinds.{Kind, Offered, offers, operated, outcome_kind, sent_kind, return_kind, instr_kind, frames_kind, code_kind}
use Rattle.code_semantics.specs.Kinds as C
use Rattle.code_semantics.specs.Step.{Numbered, method_named, begun, at_rest, left, asked, is_own, at_alternative, after_choice, instr_gone_on, frames_given, frames_gone_on, frames_picked, frames_serving, method_serving, code_given, code_gone_on, code_picked, code_serving}
use Rattle.code_semantics.specs.Proper.{IsProper}
use Rattle.code_semantics.specs.ReachedPlaces.{IsAmong, AreOwn, AnswerOwn, AltsExist}
use Rattle.node_heap.specs.Heaps.{top_in, under_top}
use Rattle.code_semantics.specs.OfUnit.{AreFramesOf}
use Rattle.code_semantics.specs.StepInstructions.{FitsUnit, AnyValue, IsAtStep, IsAsking, IsGoingOn, IsChoosing}
use Rattle.code_semantics.proofs.Laws.{plain_any, IsReady, ready_of, ready_rests, outcome_never, if_never, sent_never, return_never}
use Rattle.object_interp.specs.Choices.{offered_alt, Chooses, NextIs}
use Rattle.object_interp.specs.Moves.{gone, replaced, Passes}
use Rattle.object_interp.specs.Offers.{instr_offers, frames_offers, offers_at, offer_at, open_names, is_open_plain, is_one_of, answers_to, steps_alone, IsSelecting}
use Rattle.object_interp.specs.SettledObject.{settled_at}
use Rattle.object_interp.specs.Tops.{HasTop, class_in, instr_in}
use Rattle.object_interp.proofs.TopFrames.{with_top}
use Rattle.object_interp.proofs.InnermostFrame.{has_top}
use Rattle.object_interp.proofs.InstructionFacts.{instr_known, next_place, ret_frames}
use Rattle.object_interp.proofs.Guards.{answer_of, is_plain, open_names_alt, open_plain_alt, length_offered}
use Rattle.object_interp.proofs.Operands.{length_below, length_dropped}
use Rattle.object_interp.proofs.SilentSteps.{settled_top}
use Rattle.object_interp.proofs.LocalSteps.{frame_at, top_over, under_frame, left_frame}

-- the definitions by the innermost frame and the instruction at hand
module _ (u : Code) (x : CodeObject) (t : HasTop u x) (i : Instr) (at : instr_in u x ≡ Some i) where
  abbrev its : Option ClassCode
  its = class_in u x

  abbrev frame : Frame
  frame = top_in x.frames

  abbrev rest : List Frame
  rest = under_top x.frames

  pub kind_top : code_kind u x ≡ instr_kind frame (Some i)
  kind_top = ap (frames_kind its) t.some ∙ ap (instr_kind frame) at

  pub offers_top : offers_at u x ≡ instr_offers frame (Some i)
  offers_top = ap (frames_offers its) t.some ∙ ap (instr_offers frame) at

  pub given_top : (v : Value) → code_given u x v ≡ at_rest its x (replaced frame (asked (Some i)) v) rest
  given_top v = ap (frames_given its x v) t.some ∙ ap (λ o. at_rest its x (next frame (v ∷ dropped (asked o) frame.operands)) rest) at

  pub gone_top : code_gone_on u x ≡ instr_gone_on its x frame rest (Some i)
  gone_top = ap (frames_gone_on its x) t.some ∙ ap (instr_gone_on its x frame rest) at

  pub picked_top : (n : ℕ) → code_picked u x n ≡ at_rest its x (after_choice frame n (Some i)) rest
  picked_top n = ap (frames_picked its x n) t.some ∙ ap (λ o. at_rest its x (after_choice frame n o) rest) at

  pub serving_top : (n : ℕ) (m : NameId) (args : List Value) (s : Serves) (found : Numbered) → method_named its m ≡ Some found
      → code_serving u x n m args s ≡ Some (at_rest its x (begun found args s) (after_choice frame n (Some i) ∷ rest))
  serving_top n m args s found named =
      ap (λ o. method_serving its x n o args s) named ∙ ap (λ fs. Some (frames_serving its x n found args s fs)) t.some
      ∙ ap (λ o. Some (at_rest its x (begun found args s) (after_choice frame n o ∷ rest))) at

-- an object that was brought to a step instruction
module _ (u : Code) (proper : IsProper u) (x : CodeObject) (fits : FitsUnit u x) where
  ready : IsReady u AnyValue fits.class x (top_in x.frames ∷ under_top x.frames)
  ready = record {
    is_class = fits.is_class;
    count = fits.count;
    vars = fits.vars;
    frames = subst (AreFramesOf fits.class AnyValue None) (has_top u x fits).some fits.frames;
  }

  settled_is : at_rest (Some fits.class) x (top_in x.frames) (under_top x.frames) ≡ settled_at u x
  settled_is =
      ap (λ k. at_rest k x (top_in x.frames) (under_top x.frames)) (sym fits.is_class) ∙ sym (settled_top u x (has_top u x fits).some)

  pub settled_fits : FitsUnit u (settled_at u x)
  settled_fits = subst (FitsUnit u) settled_is (ready_of u AnyValue plain_any fits.class x (top_in x.frames) (under_top x.frames) ready)

  pub settled_at_step : IsAtStep u (settled_at u x)
  settled_at_step = subst (IsAtStep u) settled_is (ready_rests u AnyValue plain_any fits.class proper x (top_in x.frames) (under_top x.frames) ready)

-- an instruction that asks for a value
abbrev Asks : Instr → Type 0
Asks (I.New c) = Unit {0}
Asks (I.Send m n) = Unit {0}
Asks _ = ⊥

asks : (f : Frame) (i : Instr) → IsAsking (instr_kind f (Some i)) → Asks i
asks f (I.Oper op) h = outcome_never IsAsking (λ q. q) (λ e q. q) (operated op f.operands) h
asks f (I.Branch a) h = if_never IsAsking (is_bool (top f.operands)) C.Local _ (λ q. q) (λ q. q) h
asks f I.Ret h = return_never IsAsking f.serves (top f.operands) (λ q. q) (λ k n q. q) h
asks f I.Post h = return_never IsAsking f.serves (top f.operands) (λ q. q) (λ k n q. q) h
asks f (I.New c) h = tt
asks f (I.Send m n) h = tt
asks f (I.Async m n) h = sent_never IsAsking (top (dropped n f.operands)) _ (λ b q. q) (λ e q. q) h
asks f (I.Select alts) h =
    if_never IsAsking (list_any not_bool (taken (length alts) f.operands [])) _ _ (λ q. q)
    (λ q. if_never IsAsking (list_any is_true (taken (length alts) f.operands [])) _ _ (λ r. r) (λ r. r) q) h
asks f _ h = h

serves_caller : (s : Serves) (v : Value) → IsGoingOn (return_kind s v) → is_own s ≡ false
serves_caller S.Own v h = absurd h
serves_caller (S.Caller a n) v h = refl
serves_caller S.Sender v h = absurd h

-- what its answer needs
pub record Answerable (f : Frame) (n : ℕ) : Type 0 where
  pub fits : n < 2 ^ 32
  pub place : suc f.at < 2 ^ 32
  pub enough : n ≤ length f.operands
  pub room : length f.operands < 64 + n

pub answerable : (u : Code) → IsProper u → (x : CodeObject) (t : HasTop u x) (i : Instr) → instr_in u x ≡ Some i → IsAsking (code_kind u x)
    → Answerable (top_in x.frames) (asked (Some i))
answerable u proper x t i at asking = by i at (asks (top_in x.frames) i (subst IsAsking (kind_top u x t i at) asking))
  where
    by : (i : Instr) → instr_in u x ≡ Some i → Asks i → Answerable (top_in x.frames) (asked (Some i))
    by (I.New c) e h =
        let k = instr_known u proper x t (I.New c) e in
        let after = k.after (suc (top_in x.frames).at) (inl refl) in
        record { fits = omega arith; place = after.0; enough = omega arith; room = omega (arith, after.1) }
    by (I.Send m n) e h =
        let k = instr_known u proper x t (I.Send m n) e in
        let after = k.after (suc (top_in x.frames).at) (inl refl) in
        record { fits = omega (arith, k.exists.1); place = after.0; enough = k.enough; room = omega (arith, after.1) }
    by _ e h = absurd h

pub passes : (u : Code) → IsProper u → (x : CodeObject) → FitsUnit u x → (i : Instr) → instr_in u x ≡ Some i → Passes x i
passes u proper x fits I.Write e =
    let k = instr_known u proper x (has_top u x fits) I.Write e in ((k.after (suc (top_in x.frames).at) (inl refl)).0, omega (arith, k.enough))
passes u proper x fits (I.WriteText s) e =
    let k = instr_known u proper x (has_top u x fits) (I.WriteText s) e in (k.after (suc (top_in x.frames).at) (inl refl)).0
passes u proper x fits (I.Async m n) e =
    let k = instr_known u proper x (has_top u x fits) (I.Async m n) e in ((k.after (suc (top_in x.frames).at) (inl refl)).0, k.enough, k.exists.1)
passes u proper x fits I.Ret e = (ret_frames u proper x fits e).0
passes u proper x fits I.Post e = next_place u proper x (has_top u x fits) I.Post e (inl refl)
passes u proper x fits _ e = tt

module _ (u : Code) (proper : IsProper u) (x : CodeObject) (fits : FitsUnit u x) where
  -- after the value was given
  pub given_has_top : (i : Instr) → instr_in u x ≡ Some i → IsAsking (code_kind u x) → (v : Value)
      → HasTop u (with_top x (replaced (top_in x.frames) (asked (Some i)) v))
  given_has_top i e asking v = by i e (asks (top_in x.frames) i (subst IsAsking (kind_top u x (has_top u x fits) i e) asking))
    where
      by : (i : Instr) → instr_in u x ≡ Some i → Asks i → HasTop u (with_top x (replaced (top_in x.frames) (asked (Some i)) v))
      by (I.New c) e h =
          top_over u proper x fits x _ (under_top x.frames) refl
          (frame_at u proper x fits (I.New c) e (suc (top_in x.frames).at) (top_in x.frames).temps (v ∷ (top_in x.frames).operands) (inl refl) (omega arith) refl)
      by (I.Send m n) e h =
          let k = instr_known u proper x (has_top u x fits) (I.Send m n) e in
          top_over u proper x fits x _ (under_top x.frames) refl
          (frame_at u proper x fits (I.Send m n) e (suc (top_in x.frames).at) (top_in x.frames).temps (v ∷ dropped (suc n) (top_in x.frames).operands) (inl refl)
          (omega (arith, k.enough, length_dropped (suc n) (top_in x.frames).operands)) refl)
      by _ e h = absurd h

  -- after what was asked for was done
  gone_ret : (fs : List Frame) → under_top x.frames ≡ fs → is_own (top_in x.frames).serves ≡ false → HasTop u (gone x (top_in x.frames) fs I.Ret)
  gone_ret [] e own = has_top u x fits
  gone_ret (g ∷ gs) e own =
      top_over u proper x fits x g gs refl
      (left_frame fits.class (top_in x.frames) g (top_in x.frames).serves refl own (under_frame fits.class x.frames g gs fits.frames e))

  pub gone_has_top : (i : Instr) → instr_in u x ≡ Some i → IsGoingOn (code_kind u x) → HasTop u (gone x (top_in x.frames) (under_top x.frames) i)
  gone_has_top I.Write e going =
      let k = instr_known u proper x (has_top u x fits) I.Write e in
      top_over u proper x fits x _ (under_top x.frames) refl
      (frame_at u proper x fits I.Write e (suc (top_in x.frames).at) (top_in x.frames).temps (below (top_in x.frames).operands) (inl refl)
      (omega (arith, k.enough, length_below (top_in x.frames).operands)) refl)
  gone_has_top (I.WriteText s) e going =
      top_over u proper x fits x _ (under_top x.frames) refl
      (frame_at u proper x fits (I.WriteText s) e (suc (top_in x.frames).at) (top_in x.frames).temps (top_in x.frames).operands (inl refl) (omega arith) refl)
  gone_has_top (I.Async m n) e going =
      let k = instr_known u proper x (has_top u x fits) (I.Async m n) e in
      top_over u proper x fits x _ (under_top x.frames) refl
      (frame_at u proper x fits (I.Async m n) e (suc (top_in x.frames).at) (top_in x.frames).temps (dropped (suc n) (top_in x.frames).operands) (inl refl)
      (omega (arith, k.enough, length_dropped (suc n) (top_in x.frames).operands)) refl)
  gone_has_top I.Ret e going =
      gone_ret (under_top x.frames) refl
      (serves_caller (top_in x.frames).serves (top (top_in x.frames).operands) (subst IsGoingOn (kind_top u x (has_top u x fits) I.Ret e) going))
  gone_has_top I.Post e going =
      let t = frame_at u proper x fits I.Post e (suc (top_in x.frames).at) (top_in x.frames).temps (top_in x.frames).operands (inl refl) (omega arith) refl in
      top_over u proper x fits x _ (under_top x.frames) refl (record { reached = t.reached; has_temps = t.has_temps; temps = t.temps; operands = t.operands })
  gone_has_top _ e going = has_top u x fits

gone_frames : (u : Code) (x : CodeObject) (f : Frame) (fs : List Frame) → settled_at u x ≡ x → settled_at u (gone x f fs I.Ret) ≡ left (class_in u x) x fs
gone_frames u x f [] stays = stays
gone_frames u x f (g ∷ gs) stays = refl

pub settled_gone : (u : Code) (x : CodeObject) (f : Frame) (fs : List Frame) (i : Instr) → settled_at u x ≡ x
    → settled_at u (gone x f fs i) ≡ instr_gone_on (class_in u x) x f fs (Some i)
settled_gone u x f fs I.Write stays = refl
settled_gone u x f fs (I.WriteText s) stays = refl
settled_gone u x f fs (I.Async m n) stays = refl
settled_gone u x f fs I.Ret stays = gone_frames u x f fs stays
settled_gone u x f fs I.Post stays = refl
settled_gone u x f fs _ stays = stays

-- what leads on from a choice
abbrev Chosen : Instr → Type 0
Chosen (I.Answer names) = Unit {0}
Chosen (I.Select alts) = Unit {0}
Chosen _ = ⊥

pub none_offered : (alt : ℕ) → offer_at [] alt ≡ None
none_offered zero = refl
none_offered (suc alt) = refl

chosen : (f : Frame) (i : Instr) (alt : ℕ) → (offer_at (instr_offers f (Some i)) alt ≡ None → ⊥) → Chosen i
chosen f (I.Answer names) alt h = tt
chosen f (I.Select alts) alt h = tt
chosen f _ alt h = h (none_offered alt)

offered_within : (os : List Offered) (alt : ℕ) → (offer_at os alt ≡ None → ⊥) → (0 < alt) × (alt ≤ length os)
offered_within os zero h = absurd (h refl)
offered_within os (suc j) h = by (slice_get os j) refl
  where
    by : (o : Option Offered) → slice_get os j ≡ o → (0 < suc j) × (suc j ≤ length os)
    by None e = absurd (h e)
    by (Some a) e = (omega arith, omega (arith, slice_get_within os j a e))

pub plain_is_offered : (o : Option Offered) → is_open_plain o ≡ true → o ≡ None → ⊥
plain_is_offered None h e = grind (arith, h)
plain_is_offered (Some a) h e = grind (arith, e)

pub answering_is_offered : (o : Option Offered) (m : NameId) → answers_to (open_names o) m ≡ true → o ≡ None → ⊥
answering_is_offered None m h e = grind (arith, h)
answering_is_offered (Some a) m h e = grind (arith, e)

pub next_is : (u : Code) → IsProper u → (x : CodeObject) (t : HasTop u x) (i : Instr) → instr_in u x ≡ Some i → (alt : ℕ)
    → (offer_at (instr_offers (top_in x.frames) (Some i)) alt ≡ None → ⊥) → NextIs (top_in x.frames) i
next_is u proper x t i at alt h = by i at (chosen (top_in x.frames) i alt h)
  where
    by : (i : Instr) → instr_in u x ≡ Some i → Chosen i → NextIs (top_in x.frames) i
    by (I.Answer names) e c = ((instr_known u proper x t (I.Answer names) e).after (suc (top_in x.frames).at) (inl refl)).0
    by (I.Select alts) e c = tt
    by _ e c = absurd c

pub chooses : (u : Code) → IsProper u → (x : CodeObject) (t : HasTop u x) (i : Instr) → instr_in u x ≡ Some i → (alt : ℕ)
    → (offer_at (instr_offers (top_in x.frames) (Some i)) alt ≡ None → ⊥) → Chooses (top_in x.frames) i alt
chooses u proper x t (I.Select alts) e alt h =
    let k = instr_known u proper x t (I.Select alts) e in
    let f = top_in x.frames in
    let w = offered_within (offers alts (taken (length alts) f.operands [])) alt h in
    (w.0, omega (arith, w.1, length_offered alts f.operands), k.enough, omega (arith, k.enough, k.few))
chooses u proper x t _ e alt h = tt

among_alternatives : (alts : List AltCode) (j : ℕ) (a : AltCode) → slice_get alts j ≡ Some a → IsAmong a.at (map (λ b. b.at) alts)
among_alternatives [] j a e = absurd (grind (arith, e))
among_alternatives (b ∷ alts) zero a e = inl (ap (λ o. elim o as (λ _. ℕ) [ None ↦ 0 | Some c ↦ c.at ]) e)
among_alternatives (b ∷ alts) (suc j) a e = inr (among_alternatives alts j a e)

-- after a choice
module _ (u : Code) (proper : IsProper u) (x : CodeObject) (fits : FitsUnit u x) where
  alternative_top : (alts : List AltCode) → instr_in u x ≡ Some (I.Select alts) → (j : ℕ) (o : Option AltCode) → slice_get alts j ≡ o
      → HasTop u (with_top x (at_alternative (top_in x.frames) (length alts) o))
  alternative_top alts e j None at = top_over u proper x fits x (top_in x.frames) (under_top x.frames) refl (has_top u x fits).is_frame
  alternative_top alts e j (Some a) at =
      let k = instr_known u proper x (has_top u x fits) (I.Select alts) e in
      top_over u proper x fits x _ (under_top x.frames) refl
      (frame_at u proper x fits (I.Select alts) e a.at (top_in x.frames).temps (dropped (length alts) (top_in x.frames).operands) (among_alternatives alts j a at)
      (omega (arith, k.enough, length_dropped (length alts) (top_in x.frames).operands)) refl)

  pub chosen_has_top : (i : Instr) → instr_in u x ≡ Some i → (alt : ℕ) → (offer_at (instr_offers (top_in x.frames) (Some i)) alt ≡ None → ⊥)
      → HasTop u (with_top x (after_choice (top_in x.frames) alt (Some i)))
  chosen_has_top i e alt h = by i e (chosen (top_in x.frames) i alt h)
    where
      by : (i : Instr) → instr_in u x ≡ Some i → Chosen i → HasTop u (with_top x (after_choice (top_in x.frames) alt (Some i)))
      by (I.Answer names) e c =
          top_over u proper x fits x _ (under_top x.frames) refl
          (frame_at u proper x fits (I.Answer names) e (suc (top_in x.frames).at) (top_in x.frames).temps (top_in x.frames).operands (inl refl) (omega arith) refl)
      by (I.Select alts) e c = alternative_top alts e (alt - 1) (slice_get alts (alt - 1)) refl
      by _ e c = absurd c

-- a method that is answered is one of the class
own_one : (k : Option ClassCode) (names : List NameId) (m : NameId) → AreOwn k names → is_one_of names m ≡ true → IsTrue (is_some (method_named k m))
own_one k [] m own e = absurd (grind (arith, e))
own_one k (n ∷ names) m own e = by (n.0 == m.0) refl e (own_one k names m own.1)
  where
    by : (b : Bool) → (n.0 == m.0) ≡ b → (b || is_one_of names m) ≡ true → (is_one_of names m ≡ true → IsTrue (is_some (method_named k m))) → IsTrue (is_some (method_named k m))
    by true same h more = subst (λ j. IsTrue (is_some (method_named k (record { 0 = j })))) (eqb-true n.0 m.0 same) own.0
    by false same h more = more h

alt_own : (k : Option ClassCode) (c : List Instr) (alts : List AltCode) (j : ℕ) → AltsExist k c alts → (o : Option AltCode) → slice_get alts j ≡ o → (m : NameId)
    → answers_to (answer_of o) m ≡ true → IsTrue (is_some (method_named k m))
alt_own k c alts j all None e m h = absurd (grind (arith, h))
alt_own k c [] j all (Some b) e m h = absurd (grind (arith, e))
alt_own k c (a ∷ alts) zero all (Some b) e m h = by a.answer refl all.0
  where
    same : a.answer ≡ b.answer
    same = ap (λ o. elim o as (λ _. Option (List NameId)) [ None ↦ None | Some d ↦ d.answer ]) e

    by : (names : Option (List NameId)) → a.answer ≡ names → AnswerOwn k names → IsTrue (is_some (method_named k m))
    by None n own = absurd (grind (arith, sym h ∙ ap (λ o. answers_to o m) (sym same ∙ n)))
    by (Some names) n own = own_one k names m own (sym (ap (λ o. answers_to o m) (sym same ∙ n)) ∙ h)
alt_own k c (a ∷ alts) (suc j) all (Some b) e m h = alt_own k c alts j all.2 (Some b) e m h

pub answered_own : (u : Code) → IsProper u → (x : CodeObject) (t : HasTop u x) (i : Instr) → instr_in u x ≡ Some i → (alt : ℕ) (m : NameId)
    → answers_to (open_names (offer_at (instr_offers (top_in x.frames) (Some i)) alt)) m ≡ true → IsTrue (is_some (method_named (Some t.class) m))
answered_own u proper x t (I.Answer names) e zero m h = absurd (grind (arith, h))
answered_own u proper x t (I.Answer names) e (suc zero) m h = own_one (Some t.class) names m (instr_known u proper x t (I.Answer names) e).exists h
answered_own u proper x t (I.Answer names) e (suc (suc n)) m h = absurd (grind (arith, h))
answered_own u proper x t (I.Select alts) e alt m h =
    by alt (sym (ap (λ o. answers_to o m) (open_names_alt alts (top_in x.frames).operands alt)) ∙ h)
  where
    guards : List Value
    guards = taken (length alts) (top_in x.frames).operands []

    from : (j : ℕ) (b : Bool) → answers_to (answer_of (if b then slice_get alts j else None)) m ≡ true → IsTrue (is_some (method_named (Some t.class) m))
    from j true g = alt_own (Some t.class) (code_of (Some t.class) (top_in x.frames).method) alts j (instr_known u proper x t (I.Select alts) e).exists (slice_get alts j) refl m g
    from j false g = absurd (grind (arith, g))

    by : (alt : ℕ) → answers_to (answer_of (offered_alt alts (taken (length alts) (top_in x.frames).operands []) alt)) m ≡ true → IsTrue (is_some (method_named (Some t.class) m))
    by zero g = absurd (grind (arith, g))
    by (suc j) g = from j (is_true (nth (taken (length alts) (top_in x.frames).operands []) j)) g
answered_own u proper x t _ e alt m h = absurd (answering_is_offered (offer_at [] alt) m h (none_offered alt))

-- what a select offers at this number, by its open alternative there
module _ (u : Code) (x : CodeObject) (t : HasTop u x) (alts : List AltCode) (e : instr_in u x ≡ Some (I.Select alts)) (items : List AltCode) (same : items ≡ alts) where
  abbrev operands : List Value
  operands = (top_in x.frames).operands

  pub names_offered : (alt : ℕ) (o : Option AltCode) → o ≡ offered_alt items (taken (length items) operands []) alt → open_names (offer_at (offers_at u x) alt) ≡ answer_of o
  names_offered alt o told =
      ap (λ os. open_names (offer_at os alt)) (offers_top u x t (I.Select alts) e) ∙ open_names_alt alts operands alt
      ∙ ap answer_of (sym (told ∙ ap (λ l. offered_alt l (taken (length l) operands []) alt) same))

  pub plain_offered : (alt : ℕ) (o : Option AltCode) → o ≡ offered_alt items (taken (length items) operands []) alt → is_open_plain (offer_at (offers_at u x) alt) ≡ is_plain o
  plain_offered alt o told =
      ap (λ os. is_open_plain (offer_at os alt)) (offers_top u x t (I.Select alts) e) ∙ open_plain_alt alts operands alt
      ∙ ap is_plain (sym (told ∙ ap (λ l. offered_alt l (taken (length l) operands []) alt) same))

  pub count_offered : length items ≡ length (offers_at u x)
  count_offered = ap length same ∙ sym (length_offered alts operands) ∙ sym (ap length (offers_top u x t (I.Select alts) e))

pub none_by : {X : Type 0} (o : Option X) (b : Bool) → is_some o ≡ not b → b ≡ is_none o
none_by None true e = refl
none_by None false e = grind (arith, e)
none_by (Some x) true e = grind (arith, e)
none_by (Some x) false e = refl

pub selecting_chooses : (k : Kind) → IsSelecting k → IsChoosing k
selecting_chooses (C.Select alts) h = tt
selecting_chooses _ h = absurd h

-- at an instruction that is no end, no answer and no select an object steps alone
alone_outcome : (o : Outcome) → true ≡ steps_alone (outcome_kind o)
alone_outcome (Gives v) = refl
alone_outcome (Fails e) = refl
alone_outcome WrongSort = refl

alone_branch : (b : Bool) → true ≡ steps_alone (if b then C.Local else C.Fault NilOperand)
alone_branch true = refl
alone_branch false = refl

alone_return : (s : Serves) (v : Value) → true ≡ steps_alone (return_kind s v)
alone_return S.Own v = refl
alone_return (S.Caller a n) v = refl
alone_return S.Sender v = refl

alone_sent : (v : Value) (go : ℕ → Kind) → ((b : ℕ) → true ≡ steps_alone (go b)) → true ≡ steps_alone (sent_kind v go)
alone_sent (V.Ref b) go each = each b
alone_sent (V.Int z) go each = refl
alone_sent (V.Bool b) go each = refl
alone_sent V.Nil go each = refl

pub else_alone : (f : Frame) (i : Instr) → (i ≡ I.Halt → ⊥) → ((names : List NameId) → i ≡ I.Answer names → ⊥) → ((alts : List AltCode) → i ≡ I.Select alts → ⊥)
    → true ≡ steps_alone (instr_kind f (Some i))
else_alone f I.Halt h a s = absurd (h refl)
else_alone f (I.Answer names) h a s = absurd (a names refl)
else_alone f (I.Select alts) h a s = absurd (s alts refl)
else_alone f (I.Oper op) h a s = alone_outcome (operated op f.operands)
else_alone f (I.Branch to) h a s = alone_branch (is_bool (top f.operands))
else_alone f I.Ret h a s = alone_return f.serves (top f.operands)
else_alone f I.Post h a s = alone_return f.serves (top f.operands)
else_alone f (I.Send m n) h a s = alone_sent (top (dropped n f.operands)) _ (λ b. refl)
else_alone f (I.Async m n) h a s = alone_sent (top (dropped n f.operands)) _ (λ b. refl)
else_alone f _ h a s = refl
