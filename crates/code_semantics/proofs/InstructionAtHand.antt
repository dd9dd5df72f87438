-- The current instruction of a frame of a proper unit, and how silent instructions bring a frame to a step instruction.
use Rattle.std.proofs.Common.{◌≡◌, ◌≢◌, refl, sym, ap, ◌∙◌, subst, ℕ, zero, suc, ◌+◌, ◌<◌, ◌≤◌, ◌^◌, List, [], ◌∷◌, length, Option, Some, None, arith}
use Rattle.std.specs.Prelude.{slice_get}
use Rattle.std.proofs.lemmas.Option.{slice_get_within}
use Rattle.run_types.specs.declared.types.Value.{Value}
use Rattle.code_semantics.specs.declared.unit.Instr.{Instr}
use Rattle.code_semantics.specs.declared.unit.Instr.TheVariants as I
use Rattle.code_semantics.specs.declared.unit.ClassCode.{ClassCode}
use Rattle.code_semantics.specs.declared.unit.Unit.{Unit as Code}
use Rattle.run_types.specs.declared.frames.Frame.{Frame}
use Rattle.code_semantics.specs.Frames.{code_of, silent, go_on_with, settled_within, settled}
use Rattle.code_semantics.specs.Proper.{IsProperCode, IsProperClass}
use Rattle.code_semantics.specs.ReachedPlaces.{takes, leaves, nexts, IsAmong, Exists}
use Rattle.code_semantics.specs.OfUnit.{HasTemps, IsFrameOf, AreFramesOf}
use Rattle.code_semantics.proofs.SilentTermination.{same_some, settled_rests}
use Rattle.code_semantics.proofs.FrameSuccessors.{reached_next, proper_code, frame_on_top}

-- a frame that is at a step instruction stays
still_by : (f : Frame) (go : Frame → Frame) (s : Option Frame) → s ≡ None → go_on_with f go s ≡ f
still_by f go None e = refl
still_by f go (Some g) e = absurd (grind (arith, e))

pub settled_done : (c : List Instr) (n : ℕ) (f : Frame) → silent f (slice_get c f.at) ≡ None → settled_within c n f ≡ f
settled_done c zero f e = refl
settled_done c (suc n) f e = still_by f (settled_within c n) (silent f (slice_get c f.at)) e

rest_stays : (c : List Instr) (n : ℕ) (f : Frame) → silent (settled_within c n f) (slice_get c (settled_within c n f).at) ≡ None
    → settled_within c (suc n) f ≡ settled_within c n f
rest_stays c zero f e = settled_done c 1 f e
rest_stays c (suc n) f e = by (silent f (slice_get c f.at)) refl (rest_stays c n)
  where
    by : (s : Option Frame) → silent f (slice_get c f.at) ≡ s
        → ((g : Frame) → silent (settled_within c n g) (slice_get c (settled_within c n g).at) ≡ None → settled_within c (suc n) g ≡ settled_within c n g)
        → settled_within c (suc (suc n)) f ≡ settled_within c (suc n) f
    by None q more = settled_done c (suc (suc n)) f q ∙ sym (settled_done c (suc n) f q)
    by (Some g) q more =
        let one : settled_within c (suc n) f ≡ settled_within c n g = ap (go_on_with f (settled_within c n)) q in
        let two : settled_within c (suc (suc n)) f ≡ settled_within c (suc n) g = ap (go_on_with f (settled_within c (suc n))) q in
        two ∙ more g (subst (λ d. silent d (slice_get c d.at) ≡ None) one e) ∙ sym one

-- a silent instruction on the way to a step instruction
pub settled_goes_on : (c : List Instr) (f g : Frame) → silent (settled c f) (slice_get c (settled c f).at) ≡ None → silent f (slice_get c f.at) ≡ Some g
    → settled c f ≡ settled c g
settled_goes_on c f g e q = by (length c) e
  where
    by : (n : ℕ) → silent (settled_within c n f) (slice_get c (settled_within c n f).at) ≡ None → settled_within c n f ≡ settled_within c n g
    by zero r = absurd (grind (arith, r, q))
    by (suc n) r =
        let one : settled_within c (suc n) f ≡ settled_within c n g = ap (go_on_with f (settled_within c n)) q in
        one ∙ sym (rest_stays c n g (subst (λ d. silent d (slice_get c d.at) ≡ None) one r))

module _ (u : Code) (k : ClassCode) (fine : IsProperClass u k) (P : Value → Type 0) where
  -- a frame comes to a step instruction
  pub frame_rests : (n : ℕ) (f : Frame) → IsFrameOf k P n f
      → silent (settled (code_of (Some k) f.method) f) (slice_get (code_of (Some k) f.method) (settled (code_of (Some k) f.method) f).at) ≡ None
  frame_rests n f t = settled_rests (code_of (Some k) f.method) (proper_code u k fine f.method f.temps t.has_temps).no_circle f

  pub frame_goes_on : (n : ℕ) (f g : Frame) → IsFrameOf k P n f → silent f (slice_get (code_of (Some k) f.method) f.at) ≡ Some g
      → settled (code_of (Some k) f.method) f ≡ settled (code_of (Some k) f.method) g
  frame_goes_on n f g t e = settled_goes_on (code_of (Some k) f.method) f g (frame_rests n f t) e

  module _ (n : ℕ) (f : Frame) (t : IsFrameOf k P n f) where
    code : IsProperCode u (Some k) (length f.temps) (code_of (Some k) f.method)
    code = proper_code u k fine f.method f.temps t.has_temps

    -- the instruction at hand
    pub frame_instr : (i : Instr) × (slice_get (code_of (Some k) f.method) f.at ≡ Some i)
    frame_instr = let s = (code.suffices f.at (n + length f.operands) t.reached).2 in (s.0, s.1)

    pub frame_place : (f.at < 2 ^ 32) × (f.at < length (code_of (Some k) f.method))
    frame_place =
        let s = code.suffices f.at (n + length f.operands) t.reached in (s.1, slice_get_within (code_of (Some k) f.method) f.at s.2.0 s.2.1)

    pub frame_operands : n + length f.operands ≤ 64
    frame_operands = (code.suffices f.at (n + length f.operands) t.reached).0

    module _ (i : Instr) (e : slice_get (code_of (Some k) f.method) f.at ≡ Some i) where
      pub frame_takes : takes (Some k) i ≤ n + length f.operands
      frame_takes =
          let s = (code.suffices f.at (n + length f.operands) t.reached).2 in
          subst (λ j. takes (Some k) j ≤ n + length f.operands) (same_some s.0 i (sym s.1 ∙ e)) s.2

      -- what it names is there
      pub frame_exists : Exists u (Some k) (length f.temps) (code_of (Some k) f.method) i
      frame_exists = code.exists f.at i e

      -- a place after it, and as many operands as there are then
      pub frame_after : (at held : ℕ) → IsAmong at (nexts f.at i) → held + takes (Some k) i ≡ (n + length f.operands) + leaves i
          → (held ≤ 64) × (at < 2 ^ 32) × (at < length (code_of (Some k) f.method))
      frame_after at held a q =
          let s = code.suffices at held (reached_next (Some k) (code_of (Some k) f.method) f.at (n + length f.operands) i at held t.reached e a q) in
          (s.0, s.1, slice_get_within (code_of (Some k) f.method) at s.2.0 s.2.1)

  -- the numbers of temps
  pub frame_temps : (n : ℕ) (f : Frame) → IsFrameOf k P n f → length f.temps ≤ 32
  frame_temps n f t = by f.method f.temps t.has_temps
    where
      by : (m : Option ℕ) (temps : List Value) → HasTemps k m temps → length temps ≤ 32
      by None temps h = omega (arith, h)
      by (Some m) temps h = let l = (fine.methods m h.0 h.1).2 in omega (arith, h.2, l)

  -- the frame on top
  module _ (f : Frame) (fs : List Frame) (h : AreFramesOf k P None (f ∷ fs)) where
    pub top_frame : IsFrameOf k P 0 f
    top_frame = frame_on_top k P None f fs h

    pub top_instr : (i : Instr) × (slice_get (code_of (Some k) f.method) f.at ≡ Some i)
    top_instr = frame_instr 0 f top_frame

    pub top_place : (f.at < 2 ^ 32) × (f.at < length (code_of (Some k) f.method))
    top_place = frame_place 0 f top_frame

    pub top_operands : length f.operands ≤ 64
    top_operands = let l = frame_operands 0 f top_frame in omega (arith, l)

    pub top_temps : length f.temps ≤ 32
    top_temps = frame_temps 0 f top_frame

    module _ (i : Instr) (e : slice_get (code_of (Some k) f.method) f.at ≡ Some i) where
      pub top_takes : takes (Some k) i ≤ length f.operands
      top_takes = let l = frame_takes 0 f top_frame i e in omega (arith, l)

      pub top_exists : Exists u (Some k) (length f.temps) (code_of (Some k) f.method) i
      top_exists = frame_exists 0 f top_frame i e

      pub top_after : (at held : ℕ) → IsAmong at (nexts f.at i) → held + takes (Some k) i ≡ length f.operands + leaves i
          → (held ≤ 64) × (at < 2 ^ 32) × (at < length (code_of (Some k) f.method))
      top_after at held a q = frame_after 0 f top_frame i e at held a (omega (arith, q))

    body_has_none : (m : Option ℕ) → slice_get (code_of (Some k) m) f.at ≡ Some I.Ret → m ≢ None
    body_has_none None e q = fine.no_ret f.at e
    body_has_none (Some m) e q = grind (arith, q)

    -- a Ret stands in a method's frame
    pub ret_in_method : slice_get (code_of (Some k) f.method) f.at ≡ Some I.Ret → f.method ≢ None
    ret_in_method e = body_has_none f.method e

  -- so there is a frame under it
  pub ret_is_over : (f : Frame) (fs : List Frame) → AreFramesOf k P None (f ∷ fs) → slice_get (code_of (Some k) f.method) f.at ≡ Some I.Ret
      → (g : Frame) × (gs : List Frame) × (fs ≡ g ∷ gs)
  ret_is_over f [] h e = absurd (ret_in_method f [] h e h.2)
  ret_is_over f (g ∷ gs) h e = (g, gs, refl)
