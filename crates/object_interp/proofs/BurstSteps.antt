-- A burst, step by step.
use Rattle.std.proofs.Common.{◌≡◌, ◌≢◌, ◌⊎◌, inl, inr, refl, sym, ap, ◌∙◌, subst, IsTrue, ℕ, zero, suc, ◌+◌, ◌-◌, ◌<◌, ◌≤◌, List, [], ◌∷◌, length, Option, Some, None, is_some, Bool, true, false, leb, arith}
use Rattle.std.proofs.lemmas.Bool.{le-leb, ltb-false}
use Rattle.std.proofs.lemmas.Bool.Decides.{leb_tells, eqb_tells}
use Rattle.std.specs.Prelude.{if◌then◌else◌, ◌&&◌, ◌==◌, nat_le, nat_lt}
use Rattle.code_semantics.specs.declared.unit.Instr.{Instr}
use Rattle.code_semantics.specs.declared.unit.Instr.TheVariants as I
use Rattle.code_semantics.specs.declared.unit.ClassCode.{ClassCode}
use Rattle.code_semantics.specs.declared.unit.Unit.{Unit as Code}
use Rattle.run_types.specs.declared.frames.Frame.{Frame}
use Rattle.run_types.specs.declared.frames.CodeObject.{CodeObject}
use Rattle.code_semantics.specs.Kinds.{Kind, code_kind, instr_kind}
use Rattle.code_semantics.specs.Kinds as C
use Rattle.run_types.specs.Operands.{top}
use Rattle.code_semantics.specs.Step.{Numbered, method_named, is_own, called, handed, left, instr_stepped, code_stepped}
use Rattle.code_semantics.specs.Proper.{IsProper}
use Rattle.run_types.specs.declared.types.NameId.{NameId}
use Rattle.node_heap.specs.Heaps.{HeapOf, object_at, put_object, frames_used, top_in, under_top}
use Rattle.code_semantics.specs.StepInstructions.{FitsUnit, IsAtStep, AnyValue}
use Rattle.code_semantics.proofs.Laws.{plain_any, stepped_of, stepped_rests}
use Rattle.object_interp.specs.declared.types.Burst.{Burst}
use Rattle.object_interp.specs.declared.types.Burst.TheVariants as B
use Rattle.object_interp.specs.declared.types.Need.{Need}
use Rattle.object_interp.specs.Bursts.{name_in, room_in, is_local, can_step, burst_from, IsBurst}
use Rattle.object_interp.specs.Moves.{call_fits}
use Rattle.object_interp.specs.Offers.{need_of}
use Rattle.object_interp.specs.Tops.{class_in, instr_in}
use Rattle.object_interp.proofs.InnermostFrame.{has_top}
use Rattle.object_interp.proofs.InstructionFacts.{frames_put, has_method}
use Rattle.object_interp.proofs.Slots.{put_same, object_then, still_there, put_then}
use Rattle.object_interp.proofs.LocalSteps.{stepped_top}

local_of : (k : Kind) → is_local k ≡ true → k ≡ C.Local
local_of C.Local e = refl
local_of C.Finished e = absurd (grind (arith, e))
local_of (C.Fault f) e = absurd (grind (arith, e))
local_of (C.New c) e = absurd (grind (arith, e))
local_of (C.Send b m args) e = absurd (grind (arith, e))
local_of (C.Async b m args) e = absurd (grind (arith, e))
local_of (C.Write item) e = absurd (grind (arith, e))
local_of (C.Answer names) e = absurd (grind (arith, e))
local_of (C.Select alts) e = absurd (grind (arith, e))
local_of (C.Return k n v) e = absurd (grind (arith, e))

not_zero : (n : ℕ) → (suc n == 0) ≡ false
not_zero n = by (eqb_tells (suc n) 0)
  where
    by : (((suc n == 0) ≡ true) × (suc n ≡ 0)) ⊎ (((suc n == 0) ≡ false) × (suc n ≢ 0)) → (suc n == 0) ≡ false
    by (inl p) = absurd (omega (arith, p.1))
    by (inr p) = p.0

abbrev pub IsNoCall : Instr → Type 0
IsNoCall (I.Call m) = ⊥
IsNoCall _ = Unit {0}

-- how many frames an object has after a step
module _ (k : Option ClassCode) (o : ℕ) (x : CodeObject) (f : Frame) (fs : List Frame) (all : length x.frames ≡ suc (length fs)) where
  handed_few : (gs : List Frame) → length gs ≤ length fs → length (handed k x (top f.operands) gs).frames ≤ suc (length fs)
  handed_few [] h = omega (arith, all)
  handed_few (g ∷ gs) h = omega (arith, h)

  left_few : (gs : List Frame) → length gs ≤ length fs → length (left k x gs).frames ≤ suc (length fs)
  left_few [] h = omega (arith, all)
  left_few (g ∷ gs) h = omega (arith, h)

  ret_few : (b : Bool) → length (if b then handed k x (top f.operands) fs else left k x fs).frames ≤ suc (length fs)
  ret_few true = handed_few fs (omega arith)
  ret_few false = left_few fs (omega arith)

  -- no more than before, unless it is a call
  pub few_frames : (i : Instr) → IsNoCall i → length (instr_stepped k o x f fs (Some i)).frames ≤ suc (length fs)
  few_frames (I.LoadI n) h = omega arith
  few_frames (I.LoadT n) h = omega arith
  few_frames I.SelfRef h = omega arith
  few_frames (I.StoreI n) h = omega arith
  few_frames (I.StoreT n) h = omega arith
  few_frames (I.Oper op) h = omega arith
  few_frames I.Pop h = omega arith
  few_frames (I.Branch a) h = omega arith
  few_frames I.Loop h = omega arith
  few_frames (I.Call m) h = absurd h
  few_frames I.Ret h = ret_few (is_own f.serves)
  few_frames _ h = omega (arith, all)

  pub call_frames : (m : Option Numbered) → IsTrue (is_some m) → length (called k x f fs m).frames ≡ suc (suc (length fs))
  call_frames None h = absurd (grind (arith, h))
  call_frames (Some m) h = refl

leb_same : (a b c d : ℕ) → (a ≤ b → c ≤ d) → (c ≤ d → a ≤ b) → leb a b ≡ leb c d
leb_same a b c d to from = by (leb_tells a b) (leb_tells c d)
  where
    by : ((leb a b ≡ true) × (a ≤ b)) ⊎ ((leb a b ≡ false) × (b < a)) → ((leb c d ≡ true) × (c ≤ d)) ⊎ ((leb c d ≡ false) × (d < c)) → leb a b ≡ leb c d
    by (inl p) (inl q) = p.0 ∙ sym q.0
    by (inl p) (inr q) = absurd (let h = to p.1 in omega (arith, h, q.1))
    by (inr p) (inl q) = absurd (let h = from q.1 in omega (arith, h, p.1))
    by (inr p) (inr q) = p.0 ∙ sym q.0

-- the step at hand has room where it is no call, or a frame is free
module _ (u : Code) (proper : IsProper u) (now : HeapOf) (slot o : ℕ) (fits : FitsUnit u (object_at now slot)) (within : frames_used now ≤ now.most_frames) where
  abbrev y : CodeObject
  y = object_at now slot

  same_length : length y.frames ≡ suc (length (under_top y.frames))
  same_length = ap length (has_top u y fits).some

  no_call_room : (i : Instr) → instr_in u y ≡ Some i → length (instr_stepped (class_in u y) o y (top_in y.frames) (under_top y.frames) (Some i)).frames ≤ suc (length (under_top y.frames))
      → nat_le (length (code_stepped u o y).frames) (room_in now slot) ≡ true
  no_call_room i e few =
      let same = ap (λ z. length z.frames) (stepped_top u o y i (has_top u y fits) e) in
      le-leb (length (code_stepped u o y).frames) (room_in now slot) (omega (arith, same, few, same_length, within))

  call_room : (m : NameId) → instr_in u y ≡ Some (I.Call m) → nat_le (length (code_stepped u o y).frames) (room_in now slot) ≡ nat_lt (frames_used now) now.most_frames
  call_room m e =
      let t = has_top u y fits in
      let has = subst (λ k. IsTrue (is_some (method_named k m))) (sym t.is_class) (has_method u proper y t m e t.class t.is_class) in
      let same = ap (λ z. length z.frames) (stepped_top u o y (I.Call m) t e)
      ∙ call_frames (class_in u y) o y (top_in y.frames) (under_top y.frames) same_length (method_named (class_in u y) m) has in
      leb_same (length (code_stepped u o y).frames) (room_in now slot) (suc (frames_used now)) now.most_frames
      (λ h. omega (arith, same, same_length, within, h)) (λ h. omega (arith, same, same_length, within, h))

  few : (i : Instr) → IsNoCall i → length (instr_stepped (class_in u y) o y (top_in y.frames) (under_top y.frames) (Some i)).frames ≤ suc (length (under_top y.frames))
  few i h = few_frames (class_in u y) o y (top_in y.frames) (under_top y.frames) same_length i h

  pub step_room : (i : Instr) → instr_in u y ≡ Some i → nat_le (length (code_stepped u o y).frames) (room_in now slot) ≡ call_fits now i
  step_room (I.Call m) e = call_room m e
  step_room (I.PushInt z) e = no_call_room (I.PushInt z) e (few (I.PushInt z) tt)
  step_room (I.PushBool b) e = no_call_room (I.PushBool b) e (few (I.PushBool b) tt)
  step_room I.PushNil e = no_call_room I.PushNil e (few I.PushNil tt)
  step_room (I.Jump a) e = no_call_room (I.Jump a) e (few (I.Jump a) tt)
  step_room (I.LoadI n) e = no_call_room (I.LoadI n) e (few (I.LoadI n) tt)
  step_room (I.LoadT n) e = no_call_room (I.LoadT n) e (few (I.LoadT n) tt)
  step_room I.SelfRef e = no_call_room I.SelfRef e (few I.SelfRef tt)
  step_room (I.StoreI n) e = no_call_room (I.StoreI n) e (few (I.StoreI n) tt)
  step_room (I.StoreT n) e = no_call_room (I.StoreT n) e (few (I.StoreT n) tt)
  step_room (I.Oper op) e = no_call_room (I.Oper op) e (few (I.Oper op) tt)
  step_room I.Pop e = no_call_room I.Pop e (few I.Pop tt)
  step_room (I.Branch a) e = no_call_room (I.Branch a) e (few (I.Branch a) tt)
  step_room I.Loop e = no_call_room I.Loop e (few I.Loop tt)
  step_room I.Ret e = no_call_room I.Ret e (few I.Ret tt)
  step_room (I.New c) e = no_call_room (I.New c) e (few (I.New c) tt)
  step_room (I.Send m n) e = no_call_room (I.Send m n) e (few (I.Send m n) tt)
  step_room (I.Async m n) e = no_call_room (I.Async m n) e (few (I.Async m n) tt)
  step_room I.Write e = no_call_room I.Write e (few I.Write tt)
  step_room (I.WriteText s) e = no_call_room (I.WriteText s) e (few (I.WriteText s) tt)
  step_room (I.Answer names) e = no_call_room (I.Answer names) e (few (I.Answer names) tt)
  step_room (I.Select alts) e = no_call_room (I.Select alts) e (few (I.Select alts) tt)
  step_room I.Halt e = no_call_room I.Halt e (few I.Halt tt)
  step_room I.Post e = no_call_room I.Post e (few I.Post tt)

-- a call is a local step
pub call_local : (f : Frame) (h : HeapOf) (i : Instr) → call_fits h i ≡ false → is_local (instr_kind f (Some i)) ≡ true
call_local f h (I.Call m) e = refl
call_local f h _ e = absurd (grind (arith, e))

full_of : (h : HeapOf) (i : Instr) → call_fits h i ≡ false → frames_used h ≤ h.most_frames → frames_used h ≡ h.most_frames
full_of h (I.Call m) e within = let past = ltb-false (frames_used h) h.most_frames e in omega (arith, past, within)
full_of h _ e within = absurd (grind (arith, e))

-- so far that many steps, and what is left of the burst is the rest of it
pub record Bursting (u : Code) (h : HeapOf) (slot q done : ℕ) (now : HeapOf) : Type 0 where
  pub is_now : now ≡ put_object h slot (object_at now slot)
  pub fits : FitsUnit u (object_at now slot)
  pub rests : IsAtStep u (object_at now slot)
  pub within : done ≤ q
  pub count : (burst_from u (name_in h slot) (room_in h slot) q (object_at h slot)).0 ≡ done + (burst_from u (name_in h slot) (room_in h slot) (q - done) (object_at now slot)).0
  pub object : (burst_from u (name_in h slot) (room_in h slot) q (object_at h slot)).1 ≡ (burst_from u (name_in h slot) (room_in h slot) (q - done) (object_at now slot)).1
  pub first : done ≡ 0 → now ≡ h

module _ (u : Code) (h : HeapOf) (slot q : ℕ) where
  abbrev from : ℕ → CodeObject → ℕ × CodeObject
  from n x = burst_from u (name_in h slot) (room_in h slot) n x

  pub start_bursting : FitsUnit u (object_at h slot) → IsAtStep u (object_at h slot) → Bursting u h slot q 0 h
  start_bursting fits rests =
      let same : q ≡ q - 0 = omega arith in
      record {
        is_now = sym (put_same h slot);
        fits = fits;
        rests = rests;
        within = omega arith;
        count = let e = ap (λ n. (from n (object_at h slot)).0) same in omega (arith, e);
        object = ap (λ n. (from n (object_at h slot)).1) same;
        first = λ e. refl;
      }

  room_same : (now : HeapOf) → slot < length h.objects → now ≡ put_object h slot (object_at now slot) → room_in now slot ≡ room_in h slot
  room_same now there e =
      omega (arith, frames_put h slot (object_at now slot) there, ap frames_used e, ap (λ b. b.most_frames) e)

  pub name_same : (now : HeapOf) → now ≡ put_object h slot (object_at now slot) → name_in now slot ≡ name_in h slot
  name_same now e = ap (λ b. name_in b slot) e

  pub slot_there : (done : ℕ) (now : HeapOf) → slot < length h.objects → Bursting u h slot q done now → slot < length now.objects
  slot_there done now there t = still_there h now slot (object_at now slot) there t.is_now

  -- the step at hand is one of the burst, or not
  module _ (proper : IsProper u) (done : ℕ) (now : HeapOf) (there : slot < length h.objects) (t : Bursting u h slot q done now) where
    abbrev here : CodeObject
    here = object_at now slot

    can_step_is : (i : Instr) → instr_in u here ≡ Some i → frames_used now ≤ now.most_frames
        → can_step u (name_in h slot) (room_in h slot) here ≡ (is_local (code_kind u here) && call_fits now i)
    can_step_is i e within =
        ap (λ o. can_step u o (room_in h slot) here) (sym (name_same now t.is_now)) ∙ ap (λ r. can_step u (name_in now slot) r here) (sym (room_same now there t.is_now))
        ∙ ap (λ b. is_local (code_kind u here) && b) (step_room u proper now slot (name_in now slot) t.fits within i e)

    more : (m : ℕ) → q - done ≡ suc m → (b : Bool) → can_step u (name_in h slot) (room_in h slot) here ≡ b
        → from (q - done) here ≡ (if b then (suc (from m (code_stepped u (name_in h slot) here)).0, (from m (code_stepped u (name_in h slot) here)).1) else (0, here))
    more m e b can =
        ap (λ n. from n here) e
        ∙ ap (λ b. if b then (suc (from m (code_stepped u (name_in h slot) here)).0, (from m (code_stepped u (name_in h slot) here)).1) else (0, here)) can

    pub more_bursting : (new : HeapOf) (i : Instr) → done < q → instr_in u here ≡ Some i → is_local (code_kind u here) ≡ true → call_fits now i ≡ true → frames_used now ≤ now.most_frames
        → new ≡ put_object now slot (code_stepped u (name_in now slot) here) → Bursting u h slot q (done + 1) new
    more_bursting new i lt e local free within made =
        let m = q - (done + 1) in
        let x = code_stepped u (name_in now slot) here in
        let same_name = name_same now t.is_now in
        let new_is : new ≡ put_object h slot x = put_then h now new slot here (λ z. x) there t.is_now made in
        let object_new : object_at new slot ≡ x = object_then h new slot x there new_is in
        let can : can_step u (name_in h slot) (room_in h slot) here ≡ true =
        can_step_is i e within ∙ ap (λ b. b && call_fits now i) local ∙ free in
        let step = more m (omega (arith, lt)) true can in
        let same_object : code_stepped u (name_in h slot) here ≡ object_at new slot = ap (λ o. code_stepped u o here) (sym same_name) ∙ sym object_new in
        record {
          is_now = new_is ∙ ap (put_object h slot) (sym object_new);
          fits = subst (FitsUnit u) (sym object_new) (stepped_of u proper AnyValue plain_any here t.fits (name_in now slot) tt);
          rests = subst (IsAtStep u) (sym object_new) (stepped_rests u proper AnyValue plain_any here t.fits (name_in now slot) tt t.rests);
          within = omega (arith, lt);
          count = let c = ap (λ r. r.0) step in let d = ap (λ z. (from m z).0) same_object in omega (arith, t.count, c, d);
          object = t.object ∙ ap (λ r. r.1) step ∙ ap (λ z. (from m z).1) same_object;
          first = λ z. absurd (omega (arith, z));
        }

    stopped : done < q → can_step u (name_in h slot) (room_in h slot) here ≡ false → from (q - done) here ≡ (0, here)
    stopped lt can = more (q - (done + 1)) (omega (arith, lt)) false can

    -- the burst that is over after some steps
    over_after : (n : ℕ) → done ≡ n → 0 < n → from (q - done) here ≡ (0, here) → IsBurst u h slot q (B.Local n) now
    over_after n e some last =
        let c = ap (λ r. r.0) last in
        (some, omega (arith, t.count, c, e), t.is_now ∙ ap (put_object h slot) (sym (t.object ∙ ap (λ r. r.1) last)))

    pub ends_at : done < q → is_local (code_kind u here) ≡ false → (result : Burst) → result ≡ (if done == 0 then B.At (need_of u (code_kind u here)) else B.Local done)
        → IsBurst u h slot q result now
    ends_at lt other result told = subst (λ r. IsBurst u h slot q r now) (sym told) (by done refl)
      where
        need : Need
        need = need_of u (code_kind u here)

        last : from (q - done) here ≡ (0, here)
        last = stopped lt (ap (λ b. b && nat_le (length (code_stepped u (name_in h slot) here).frames) (room_in h slot)) other)

        by : (n : ℕ) → done ≡ n → IsBurst u h slot q (if n == 0 then B.At need else B.Local n) now
        by zero z =
            let same = t.first z in
            (ap (λ b. is_local (code_kind u (object_at b slot))) (sym same) ∙ other, ap (λ b. need_of u (code_kind u (object_at b slot))) same, same)
        by (suc n) z = subst (λ b. IsBurst u h slot q (if b then B.At need else B.Local (suc n)) now) (sym (not_zero n)) (over_after (suc n) z (omega arith) last)

    pub ends_full : (i : Instr) → done < q → is_local (code_kind u here) ≡ true → instr_in u here ≡ Some i → call_fits now i ≡ false
        → frames_used now ≤ now.most_frames → (result : Burst) → result ≡ (if done == 0 then B.FramesFull else B.Local done) → IsBurst u h slot q result now
    ends_full i lt e at full within result told = subst (λ r. IsBurst u h slot q r now) (sym told) (by done refl)
      where
        local : code_kind u here ≡ C.Local
        local = local_of (code_kind u here) e

        cannot : can_step u (name_in h slot) (room_in h slot) here ≡ false
        cannot = can_step_is i at within ∙ ap (λ b. b && call_fits now i) e ∙ full

        by : (n : ℕ) → done ≡ n → IsBurst u h slot q (if n == 0 then B.FramesFull else B.Local n) now
        by zero z =
            let same = t.first z in (
              ap (λ b. code_kind u (object_at b slot)) (sym same) ∙ local,
              ap (λ b. can_step u (name_in h slot) (room_in h slot) (object_at b slot)) (sym same) ∙ cannot,
              ap frames_used (sym same) ∙ full_of now i full within ∙ ap (λ b. b.most_frames) same,
              same,
            )
        by (suc n) z =
            subst (λ b. IsBurst u h slot q (if b then B.FramesFull else B.Local (suc n)) now) (sym (not_zero n)) (over_after (suc n) z (omega arith) (stopped lt cannot))

    pub ends_whole : done ≡ q → 1 ≤ q → IsBurst u h slot q (B.Local q) now
    ends_whole e some = over_after q e (omega (arith, some)) (ap (λ n. from n here) (let z : q - done ≡ 0 = omega (arith, e) in z))
