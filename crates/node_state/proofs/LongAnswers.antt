-- The names of long answers, each once, stand for the names of the answers.
use Rattle.std.proofs.Common.{◌≡◌, ℕ, zero, suc, ◌≤◌, Bool, true, false, List, [], ◌∷◌, length, position, is_some, Option, Some, None, refl, sym, ap, ◌∙◌, subst}
use Rattle.std.specs.Prelude.{Result, Ok, Err, OnOk, slice_get, if◌then◌else◌}
use Rattle.run_types.specs.Tables.{Each}
use Rattle.run_types.specs.Values.{is_true}
use Rattle.run_types.specs.Operands.{taken}
use Rattle.run_types.specs.declared.types.NameId.{NameId}
use Rattle.run_types.specs.declared.types.Value.{Value}
use Rattle.run_types.specs.declared.frames.Frame.{Frame}
use Rattle.run_types.specs.declared.frames.CodeObject.{CodeObject}
use Rattle.code_semantics.specs.declared.unit.AltCode.{AltCode}
use Rattle.code_semantics.specs.declared.unit.Instr.{Instr}
use Rattle.code_semantics.specs.declared.unit.Instr.TheVariants as I
use Rattle.code_semantics.specs.declared.unit.Unit.{Unit as Code}
use Rattle.code_semantics.specs.Frames.{code_of}
use Rattle.code_semantics.specs.Kinds.{offers}
use Rattle.node_heap.specs.Heaps.{top_in}
use Rattle.object_interp.specs.Offers.{offer_at, offers_at, frames_offers, instr_offers, open_names, answers_to}
use Rattle.slot_queues.specs.declared.Message.{Message}
use Rattle.slot_queues.specs.Mail.{is_named}
use Rattle.node_state.specs.declared.long.LongAnswer.{LongAnswer}
use Rattle.node_state.specs.Choices.{is_called, place_called}
use Rattle.node_state.specs.LongAnswers.{answered, names_in, names_at, place_in, AreEachOnce, HasSameNames, IsLongOf, IsSameAnswer}

-- ---- the same names

same_position : (xs ys : List NameId) → HasSameNames xs ys → (box : List Message) → position (λ (m : Message). is_named xs m.method) box ≡ position (λ (m : Message). is_named ys m.method) box
same_position xs ys h box = ap (λ (p : Message → Bool). position p box) (λ i m. h m.method i)

pub same_place : (xs : List NameId) (o : Option (List NameId)) → IsSameAnswer (Some xs) o → (box : List Message) → place_called box o ≡ position (λ (m : Message). is_named xs m.method) box
same_place xs None h box = absurd h
same_place xs (Some ys) h box = sym (same_position xs ys h box)

pub no_place : (o : Option (List NameId)) → IsSameAnswer None o → (box : List Message) → place_called box o ≡ None
no_place None h box = refl
no_place (Some ys) h box = absurd h

pub same_called : (xs : List NameId) (o : Option (List NameId)) → IsSameAnswer (Some xs) o → (box : List Message) → is_called box o ≡ is_some (position (λ (m : Message). is_named xs m.method) box)
same_called xs None h box = absurd h
same_called xs (Some ys) h box = ap (λ p. is_some p) (sym (same_position xs ys h box))

pub not_called : (o : Option (List NameId)) → IsSameAnswer None o → (box : List Message) → is_called box o ≡ false
not_called None h box = refl
not_called (Some ys) h box = absurd h

pub same_answers : (xs : List NameId) (o : Option (List NameId)) → IsSameAnswer (Some xs) o → (m : NameId) → answers_to o m ≡ is_named xs m
same_answers xs None h m = absurd h
same_answers xs (Some ys) h m = sym (h m)

-- ---- the place of an answer

module _ (names : List NameId) where
  opened : (b : Bool) (o : Option (List NameId)) → (if b then o else None) ≡ Some names → o ≡ Some names
  opened true o h = h
  opened false o h = absurd (cc)

  offered : (alts : List AltCode) (vs : List Value) (i : ℕ) → open_names (slice_get (offers alts vs) i) ≡ Some names → answered (slice_get alts i) ≡ Some names
  offered [] vs i h = absurd (cc)
  offered (a ∷ alts) [] i h = absurd (cc)
  offered (a ∷ alts) (v ∷ vs) zero h = opened (is_true v) a.answer h
  offered (a ∷ alts) (v ∷ vs) (suc i) h = offered alts vs i h

  none_named : (alt : ℕ) → open_names (offer_at [] alt) ≡ Some names → ⊥
  none_named zero h = cc
  none_named (suc i) h = cc

  in_instr : (f : Frame) (z : Option Instr) (alt : ℕ) → open_names (offer_at (instr_offers f z) alt) ≡ Some names → names_in z alt ≡ Some names
  in_instr f (Some (I.Answer ns)) zero h = absurd (cc)
  in_instr f (Some (I.Answer ns)) (suc zero) h = h
  in_instr f (Some (I.Answer ns)) (suc (suc i)) h = absurd (cc)
  in_instr f (Some (I.Select alts)) zero h = absurd (cc)
  in_instr f (Some (I.Select alts)) (suc i) h = offered alts (taken (length alts) f.operands []) i h
  in_instr f _ alt h = absurd (none_named alt h)

  pub at_place : (u : Code) (x : CodeObject) (alt : ℕ) → open_names (offer_at (offers_at u x) alt) ≡ Some names → names_at u (place_in x alt) ≡ Some names
  at_place u x alt h = by x.frames h
    where
      by : (fs : List Frame) → open_names (offer_at (frames_offers (slice_get u.classes x.class) fs) alt) ≡ Some names → names_in (slice_get (code_of (slice_get u.classes x.class) (top_in fs).method) (top_in fs).at) alt ≡ Some names
      by [] g = absurd (none_named alt g)
      by (f ∷ fs) g = in_instr f (slice_get (code_of (slice_get u.classes x.class) f.method) f.at) alt g

  -- the names of a long answer at the place
  pub long_at : (u : Code) (long : List LongAnswer) (i : ℕ) (a : LongAnswer) → Each (IsLongOf u) long → slice_get long i ≡ Some a → names_at u a.place ≡ Some names → AreEachOnce a.names names
  long_at u [] i a h at e = absurd (cc)
  long_at u (b ∷ long) zero a h at e = let same : b ≡ a = cc in is (subst (λ z. IsLongOf u z) same h.0)
    where
      is : IsLongOf u a → AreEachOnce a.names names
      is w = let those : w.0 ≡ names = (let s : Some w.0 ≡ Some names = sym w.1 ∙ e in cc) in subst (AreEachOnce a.names) those w.3
  long_at u (b ∷ long) (suc i) a h at e = long_at u long i a h.1 at e

pub on_ok_weaker : {X E : Type 0} (r : Result X E) (P Q : Type 0) → (P → Q) → OnOk r P → OnOk r Q
on_ok_weaker (Ok x) P Q f h = f h
on_ok_weaker (Err e) P Q f h = tt
