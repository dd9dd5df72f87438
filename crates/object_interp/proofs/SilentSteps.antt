-- The silent instructions from the current place, one after the other.
use Rattle.std.proofs.Common.{◌≡◌, refl, sym, ap, ◌∙◌, subst, ℕ, zero, suc, ◌<◌, ◌≤◌, ◌^◌, List, ◌∷◌, length, Option, Some, None, true, false, get_or, arith}
use Rattle.std.specs.Prelude.{slice_get}
use Rattle.std.proofs.lemmas.Option.{slice_get_within, slice_get_read}
use Rattle.run_types.specs.declared.types.Serves.{Serves}
use Rattle.run_types.specs.declared.types.Serves.TheVariants as S
use Rattle.code_semantics.specs.declared.unit.Instr.{Instr}
use Rattle.code_semantics.specs.declared.unit.Instr.TheVariants as I
use Rattle.code_semantics.specs.declared.unit.Unit.{Unit as Code}
use Rattle.run_types.specs.declared.frames.Frame.{Frame}
use Rattle.run_types.specs.declared.frames.CodeObject.{CodeObject}
use Rattle.code_semantics.specs.Frames.{code_of, next, post_passed, silent, go_on_with, settled_within, settled}
use Rattle.code_semantics.specs.Proper.{IsProper}
use Rattle.node_heap.specs.Heaps.{HeapOf, object_at, put_object, put_top, top_at, top_in, under_top}
use Rattle.code_semantics.specs.StepInstructions.{AnyValue}
use Rattle.code_semantics.proofs.Laws.{plain_any, silent_of, same_some, passed_is}
use Rattle.object_interp.specs.Moves.{RunsTo}
use Rattle.object_interp.specs.SettledObject.{frames_settled, settled_at}
use Rattle.object_interp.specs.Tops.{HasTop, class_in, code_in}
use Rattle.object_interp.proofs.TopFrames.{with_top}
use Rattle.object_interp.proofs.InnermostFrame.{known, at_hand}
use Rattle.object_interp.proofs.Slots.{put_then, object_then, put_same}

-- a frame that serves no caller goes past the end of its method's value
pub passed_else : (f : Frame) (s : Serves) → ((k n : ℕ) → s ≡ S.Caller k n → ⊥) → post_passed f s ≡ Some (next f f.operands)
passed_else f S.Own h = refl
passed_else f (S.Caller k n) h = absurd (h k n refl)
passed_else f S.Sender h = refl

silent_method : (f g : Frame) (i : Option Instr) → silent f i ≡ Some g → g.method ≡ f.method
silent_method f g (Some (I.PushInt z)) h = ap (λ y. y.method) (sym (same_some _ _ h))
silent_method f g (Some (I.PushBool b)) h = ap (λ y. y.method) (sym (same_some _ _ h))
silent_method f g (Some I.PushNil) h = ap (λ y. y.method) (sym (same_some _ _ h))
silent_method f g (Some (I.Jump a)) h = ap (λ y. y.method) (sym (same_some _ _ h))
silent_method f g (Some I.Post) h = ap (λ y. y.method) (sym (passed_is f g f.serves h))
silent_method f g _ h = absurd (grind (arith, h))

pub settled_method : (code : List Instr) (n : ℕ) (f : Frame) → (settled_within code n f).method ≡ f.method
settled_method code zero f = refl
settled_method code (suc n) f = by (λ g. settled_method code n g) (silent f (slice_get code f.at)) refl
  where
    by : ((g : Frame) → (settled_within code n g).method ≡ g.method) → (o : Option Frame) → silent f (slice_get code f.at) ≡ o → (go_on_with f (settled_within code n) o).method ≡ f.method
    by same None e = refl
    by same (Some g) e = same g ∙ silent_method f g (slice_get code f.at) e

-- so far: the frame that is reached, and that settling the rest from there is settling all
pub record Settling (u : Code) (h : HeapOf) (slot : ℕ) (left : ℕ) (now : HeapOf) : Type 0 where
  pub frame : Frame
  pub is_now : now ≡ put_object h slot (with_top (object_at h slot) frame)
  pub has_top : HasTop u (with_top (object_at h slot) frame)
  pub same_method : frame.method ≡ (top_at h slot).method
  pub rest : settled_within (code_in u (object_at h slot)) left frame ≡ settled (code_in u (object_at h slot)) (top_at h slot)

-- an object with its own innermost frame is itself
pub same_top : (x : CodeObject) → x.frames ≡ top_in x.frames ∷ under_top x.frames → with_top x (top_in x.frames) ≡ x
same_top x e = ap (λ fs. record x { frames = fs }) (sym e)

pub settled_top : (u : Code) (x : CodeObject) → x.frames ≡ top_in x.frames ∷ under_top x.frames → settled_at u x ≡ with_top x (settled (code_in u x) (top_in x.frames))
settled_top u x e = ap (frames_settled (class_in u x) x) e

-- the code of the innermost frame stays
pub settled_code : (u : Code) (x : CodeObject) → x.frames ≡ top_in x.frames ∷ under_top x.frames → code_in u (settled_at u x) ≡ code_in u x
settled_code u x e =
    ap (code_in u) (settled_top u x e) ∙ ap (code_of (class_in u x)) (settled_method (code_in u x) (length (code_in u x)) (top_in x.frames))

-- the same, said of the frame
pub settled_in : (u : Code) (h : HeapOf) (slot : ℕ) (code : List Instr) → HasTop u (object_at h slot) → code ≡ code_in u (object_at h slot)
    → put_object h slot (settled_at u (object_at h slot)) ≡ put_top h slot (settled code (top_at h slot))
settled_in u h slot code t e =
    ap (put_object h slot) (settled_top u (object_at h slot) t.some ∙ ap (λ c. with_top (object_at h slot) (settled c (top_at h slot))) (sym e))

-- so far in a code that is the one of the innermost frame
pub record SettlingIn (code : List Instr) (h : HeapOf) (slot : ℕ) (left : ℕ) (now : HeapOf) : Type 0 where
  pub unit : Code
  pub proper : IsProper unit
  pub top : HasTop unit (object_at h slot)
  pub is_code : code ≡ code_in unit (object_at h slot)
  pub so_far : Settling unit h slot left now

module _ (u : Code) (h : HeapOf) (slot : ℕ) where
  abbrev object : CodeObject
  object = object_at h slot

  pub start_settling : (n : ℕ) → n ≡ length (code_in u object) → HasTop u object → Settling u h slot n h
  start_settling n e t = record {
    frame = top_at h slot;
    is_now = sym (ap (put_object h slot) (same_top object t.some) ∙ put_same h slot);
    has_top = subst (HasTop u) (sym (same_top object t.some)) t;
    same_method = refl;
    rest = ap (λ m. settled_within (code_in u object) m (top_at h slot)) e;
  }

  -- the instruction at hand of the frame that is reached
  pub reached_instr : (n : ℕ) (now : HeapOf) (t : Settling u h slot n now) → slice_get (code_in u (with_top object t.frame)) t.frame.at ≡ slice_get (code_in u object) t.frame.at
  reached_instr n now t = ap (λ m. slice_get (code_of (class_in u object) m) t.frame.at) t.same_method

  pub object_now : (n : ℕ) (now : HeapOf) → slot < length h.objects → (t : Settling u h slot n now) → object_at now slot ≡ with_top object t.frame
  object_now n now within t = object_then h now slot (with_top object t.frame) within t.is_now

  pub top_now : (n : ℕ) (now : HeapOf) → slot < length h.objects → (t : Settling u h slot n now) → top_at now slot ≡ t.frame
  top_now n now within t = ap (λ y. top_in y.frames) (object_now n now within t)

  -- the frame after one more
  next_top : (n : ℕ) (now : HeapOf) (t : Settling u h slot n now) (g : Frame) → silent t.frame (slice_get (code_in u object) t.frame.at) ≡ Some g
      → HasTop u (with_top object g) × (g.method ≡ t.frame.method)
  next_top n now t g e =
      let k = t.has_top.class in
      let same : slice_get (code_of (Some k) t.frame.method) t.frame.at ≡ slice_get (code_in u object) t.frame.at =
      ap (λ o. slice_get (code_of o t.frame.method) t.frame.at) (sym t.has_top.is_class) ∙ reached_instr n now t in
      let r = silent_of k AnyValue plain_any 0 t.frame g (slice_get (code_in u object) t.frame.at) t.has_top.is_frame same e in
      (record { class = k; is_class = t.has_top.is_class; some = refl; is_frame = r }, silent_method t.frame g (slice_get (code_in u object) t.frame.at) e)

  pub next_fits : (proper : IsProper u) (n : ℕ) (now : HeapOf) (t : Settling u h slot n now) (g : Frame) → silent t.frame (slice_get (code_in u object) t.frame.at) ≡ Some g
      → (g.at < 2 ^ 32) × (length g.operands ≤ 64)
  next_fits proper n now t g e =
      let k = known u proper (with_top object g) (next_top n now t g e).0 in
      (k.place, k.few)

  pub more_settling : (n m : ℕ) (now new : HeapOf) → slot < length h.objects → (t : Settling u h slot n now) (i : Option Instr) (o : Option Frame)
      → n ≡ suc m → slice_get (code_in u object) t.frame.at ≡ i → silent t.frame i ≡ o → RunsTo now slot o true new → Settling u h slot m new
  more_settling n m now new within t i None count at e r = absurd (grind (arith, r.0))
  more_settling n m now new within t i (Some g) count at e r =
      let here : silent t.frame (slice_get (code_in u object) t.frame.at) ≡ Some g = ap (silent t.frame) at ∙ e in
      let top = next_top n now t g here in
      record {
        frame = g;
        is_now = put_then h now new slot (with_top object t.frame) (λ y. with_top y g) within t.is_now r.1;
        has_top = top.0;
        same_method = top.1 ∙ t.same_method;
        rest = sym (ap (λ j. settled_within (code_in u object) j t.frame) count ∙ ap (go_on_with t.frame (settled_within (code_in u object) m)) here) ∙ t.rest;
      }

  pub end_settling : (n m : ℕ) (now new : HeapOf) → HasTop u object → (t : Settling u h slot n now) (i : Option Instr) (o : Option Frame)
      → n ≡ suc m → slice_get (code_in u object) t.frame.at ≡ i → silent t.frame i ≡ o → RunsTo now slot o false new → new ≡ put_object h slot (settled_at u object)
  end_settling n m now new top t i None count at e r =
      let here : silent t.frame (slice_get (code_in u object) t.frame.at) ≡ None = ap (silent t.frame) at ∙ e in
      r.1 ∙ t.is_now ∙ ap (put_object h slot)
      (ap (with_top object)
      (sym (ap (λ j. settled_within (code_in u object) j t.frame) count ∙ ap (go_on_with t.frame (settled_within (code_in u object) m)) here) ∙ t.rest)
      ∙ sym (settled_top u object top.some))
  end_settling n m now new top t i (Some g) count at e r = absurd (grind (arith, r.0))

  pub all_settled : (n : ℕ) (now : HeapOf) → HasTop u object → n ≡ 0 → Settling u h slot n now → now ≡ put_object h slot (settled_at u object)
  all_settled n now top none t =
      t.is_now ∙ ap (put_object h slot)
      (ap (with_top object) (sym (ap (λ j. settled_within (code_in u object) j t.frame) none) ∙ t.rest) ∙ sym (settled_top u object top.some))

  -- the place that is reached is in the code
  pub place_within : (proper : IsProper u) (n : ℕ) (now : HeapOf) → slot < length h.objects → (t : Settling u h slot n now) (code : List Instr) (place : ℕ)
      → code ≡ code_in u object → place ≡ (top_at now slot).at → place < length code
  place_within proper n now within t code place same at =
      let i = at_hand u proper (with_top object t.frame) t.has_top in
      let there = slice_get_within (code_in u object) t.frame.at i.0 (sym (reached_instr n now t) ∙ i.1) in
      omega (arith, there, ap length same, at, ap (λ f. f.at) (top_now n now within t))

  pub instr_there : (n : ℕ) (now : HeapOf) → slot < length h.objects → (t : Settling u h slot n now) (code : List Instr) (place : ℕ) (i : Instr)
      → code ≡ code_in u object → place ≡ (top_at now slot).at → place < length code → i ≡ get_or code place i → slice_get (code_in u object) t.frame.at ≡ Some i
  instr_there n now within t code place i same at there e =
      ap (slice_get (code_in u object)) (sym (at ∙ ap (λ f. f.at) (top_now n now within t)))
      ∙ ap (λ c. slice_get c place) (sym same) ∙ slice_get_read code (length code) place i refl there e
