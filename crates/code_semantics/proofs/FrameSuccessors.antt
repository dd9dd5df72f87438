-- Frames of a proper unit: the current instruction, and the places to which it leads.
use Rattle.std.proofs.Common.{◌≡◌, inl, inr, refl, sym, ap, ◌∙◌, subst, IsTrue, ℕ, zero, suc, ◌+◌, ℤ, List, [], ◌∷◌, length, Option, Some, None, is_some, arith, true, false}
use Rattle.std.specs.Prelude.{slice_get}
use Rattle.run_types.specs.declared.types.Value.{Value}
use Rattle.run_types.specs.declared.types.Value.TheVariants as V
use Rattle.run_types.specs.declared.types.Serves.{Serves}
use Rattle.run_types.specs.declared.types.Serves.TheVariants as S
use Rattle.code_semantics.specs.declared.unit.Instr.{Instr}
use Rattle.code_semantics.specs.declared.unit.Instr.TheVariants as I
use Rattle.code_semantics.specs.declared.unit.ClassCode.{ClassCode}
use Rattle.code_semantics.specs.declared.unit.Unit.{Unit as Code}
use Rattle.run_types.specs.declared.frames.Frame.{Frame}
use Rattle.run_types.specs.declared.frames.CodeObject.{CodeObject}
use Rattle.code_semantics.specs.Frames.{method_code, code_of, silent, go_on_with, settled_within, settled, next}
use Rattle.code_semantics.specs.Proper.{IsProperCode, IsProperClass, IsProper}
use Rattle.code_semantics.specs.ReachedPlaces.{takes, leaves, nexts, IsAmong, Reached}
use Rattle.code_semantics.specs.Step.{at_rest, is_own}
use Rattle.run_types.specs.Tables.{Each}
use Rattle.code_semantics.specs.OfUnit.{HasTemps, IsFrameOf, StandsAfterCall, missing_under, serves_of, StandsUnder, AreFramesOf, IsObjectOf}
use Rattle.code_semantics.specs.MadeNumbers.{HoldsOfPlain, IsInRange, IsMadeIn}
use Rattle.code_semantics.specs.StepInstructions.{IsAtStepOf, IsAtStep}
use Rattle.code_semantics.proofs.MadeValues.{IsMadeBy}
use Rattle.code_semantics.proofs.SilentTermination.{same_some, settled_rests, passed_is}

-- the place after an instruction is reached
pub reached_next : (k : Option ClassCode) (c : List Instr) (b h : ℕ) (i : Instr) (at held : ℕ) → Reached k c b h → slice_get c b ≡ Some i → IsAmong at (nexts b i)
    → held + takes k i ≡ h + leaves i → Reached k c at held
reached_next k c b h i at held r e a q = (suc r.0, (b, h, i, r.1, e, a, q))

same_temps : (k : ClassCode) (m : Option ℕ) (temps others : List Value) → length others ≡ length temps → HasTemps k m temps → HasTemps k m others
same_temps k None temps others e h = e ∙ h
same_temps k (Some m) temps others e h = (h.0, h.1, e ∙ h.2)

-- the frame's code is proper
pub proper_code : (u : Code) (k : ClassCode) → IsProperClass u k → (m : Option ℕ) (temps : List Value) → HasTemps k m temps
    → IsProperCode u (Some k) (length temps) (code_of (Some k) m)
proper_code u k fine None temps h = subst (λ n. IsProperCode u (Some k) n k.body.code) (sym h) fine.body
proper_code u k fine (Some m) temps h =
    subst (λ o. IsProperCode u (Some k) (length temps) (method_code o)) (sym h.1)
    (subst (λ n. IsProperCode u (Some k) n h.0.code) (sym h.2) (fine.methods m h.0 h.1).4)

pub missing_else : (s : Serves) → is_own s ≡ false → missing_under (Some s) ≡ 0
missing_else S.Own e = absurd (grind (arith, e))
missing_else (S.Caller k n) e = refl
missing_else S.Sender e = refl

module _ (k : ClassCode) (P : Value → Type 0) where
  -- the frame after an instruction
  pub moved : (n l : ℕ) (f : Frame) (i : Instr) (at : ℕ) (temps operands : List Value) → IsFrameOf k P n f → slice_get (code_of (Some k) f.method) f.at ≡ Some i
      → IsAmong at (nexts f.at i) → (l + length operands) + takes (Some k) i ≡ (n + length f.operands) + leaves i → length temps ≡ length f.temps
      → Each P temps → Each P operands → IsFrameOf k P l (record f { at = at; temps = temps; operands = operands })
  moved n l f i at temps operands t e a q same ts os = record {
    reached = reached_next (Some k) (code_of (Some k) f.method) f.at (n + length f.operands) i at (l + length operands) t.reached e a q;
    has_temps = same_temps k f.method f.temps temps same t.has_temps;
    temps = ts;
    operands = os;
  }

  -- another number of operands that are to come
  pub with_missing : (n l : ℕ) (f : Frame) (operands : List Value) → IsFrameOf k P n f → l + length operands ≡ n + length f.operands → Each P operands
      → IsFrameOf k P l (record f { operands = operands })
  with_missing n l f operands t e os = record {
    reached = subst (Reached (Some k) (code_of (Some k) f.method) f.at) (sym e) t.reached;
    has_temps = t.has_temps;
    temps = t.temps;
    operands = os;
  }

  module _ (plain : HoldsOfPlain (IsMadeBy k) P) where
    silent_pushed : (n : ℕ) (f g : Frame) (i : Instr) (v : Value) → IsFrameOf k P n f → slice_get (code_of (Some k) f.method) f.at ≡ Some i
        → IsAmong (suc f.at) (nexts f.at i) → takes (Some k) i ≡ 0 → leaves i ≡ 1 → P v → next f (v ∷ f.operands) ≡ g → IsFrameOf k P n g
    silent_pushed n f g i v t e a none one p same =
        subst (IsFrameOf k P n) same (moved n n f i (suc f.at) f.temps (v ∷ f.operands) t e a (omega (arith, none, one)) refl t.temps (p, t.operands))

    pub silent_of : (n : ℕ) (f g : Frame) (i : Option Instr) → IsFrameOf k P n f → slice_get (code_of (Some k) f.method) f.at ≡ i → silent f i ≡ Some g → IsFrameOf k P n g
    silent_of n f g (Some (I.PushInt z)) t e h = silent_pushed n f g (I.PushInt z) (V.Int z) t e (inl refl) refl refl (plain.0 z (inr (f.method, f.at, e))) (same_some _ _ h)
    silent_of n f g (Some (I.PushBool b)) t e h = silent_pushed n f g (I.PushBool b) (V.Bool b) t e (inl refl) refl refl (plain.1 b) (same_some _ _ h)
    silent_of n f g (Some I.PushNil) t e h = silent_pushed n f g I.PushNil V.Nil t e (inl refl) refl refl plain.2 (same_some _ _ h)
    silent_of n f g (Some (I.Jump a)) t e h =
        subst (IsFrameOf k P n) (same_some _ _ h) (moved n n f (I.Jump a) a f.temps f.operands t e (inl refl) (omega arith) refl t.temps t.operands)
    silent_of n f g (Some I.Post) t e h =
        subst (IsFrameOf k P n) (passed_is f g f.serves h) (moved n n f I.Post (suc f.at) f.temps f.operands t e (inl refl) (omega arith) refl t.temps t.operands)
    silent_of n f g _ t e h = absurd (grind (arith, h))

    -- whom the frame serves, and whose it is, stay
    pub record Follows (n : ℕ) (f g : Frame) : Type 0 where
      pub is_frame : IsFrameOf k P n g
      pub method : g.method ≡ f.method
      pub serves : g.serves ≡ f.serves

    silent_method : (f g : Frame) (i : Option Instr) → silent f i ≡ Some g → (g.method ≡ f.method) × (g.serves ≡ f.serves)
    silent_method f g (Some (I.PushInt z)) e = let s = sym (same_some _ _ e) in (ap (λ x. x.method) s, ap (λ x. x.serves) s)
    silent_method f g (Some (I.PushBool b)) e = let s = sym (same_some _ _ e) in (ap (λ x. x.method) s, ap (λ x. x.serves) s)
    silent_method f g (Some I.PushNil) e = let s = sym (same_some _ _ e) in (ap (λ x. x.method) s, ap (λ x. x.serves) s)
    silent_method f g (Some (I.Jump a)) e = let s = sym (same_some _ _ e) in (ap (λ x. x.method) s, ap (λ x. x.serves) s)
    silent_method f g (Some I.Post) e = let s = sym (passed_is f g f.serves e) in (ap (λ x. x.method) s, ap (λ x. x.serves) s)
    silent_method f g _ e = absurd (grind (arith, e))

    follows_by : (n : ℕ) (f : Frame) (go : Frame → Frame) (s : Option Frame) → silent f (slice_get (code_of (Some k) f.method) f.at) ≡ s → IsFrameOf k P n f
        → ((g : Frame) → g.method ≡ f.method → IsFrameOf k P n g → Follows n g (go g)) → Follows n f (go_on_with f go s)
    follows_by n f go None e t more = record { is_frame = t; method = refl; serves = refl }
    follows_by n f go (Some g) e t more =
        let m = silent_method f g (slice_get (code_of (Some k) f.method) f.at) e in
        let r = more g m.0 (silent_of n f g (slice_get (code_of (Some k) f.method) f.at) t refl e) in
        record { is_frame = r.is_frame; method = r.method ∙ m.0; serves = r.serves ∙ m.1 }

    follows_within : (c : List Instr) (n l : ℕ) (f : Frame) → c ≡ code_of (Some k) f.method → IsFrameOf k P l f → Follows l f (settled_within c n f)
    follows_within c zero l f e t = record { is_frame = t; method = refl; serves = refl }
    follows_within c (suc n) l f e t =
        subst (λ s. Follows l f (go_on_with f (settled_within c n) s)) (ap (λ d. silent f (slice_get d f.at)) (sym e))
        (follows_by l f (settled_within c n) (silent f (slice_get (code_of (Some k) f.method) f.at)) refl t
        (λ g m s. follows_within c n l g (e ∙ ap (code_of (Some k)) (sym m)) s))

    -- a frame that was brought to a step instruction
    pub settled_of : (n : ℕ) (f : Frame) → IsFrameOf k P n f → Follows n f (settled (code_of (Some k) f.method) f)
    settled_of n f t = follows_within (code_of (Some k) f.method) (length (code_of (Some k) f.method)) n f refl t

  -- the frame on top of these
  pub frame_on_top : (a : Option Frame) (f : Frame) (fs : List Frame) → AreFramesOf k P a (f ∷ fs) → IsFrameOf k P (missing_under (serves_of a)) f
  frame_on_top a f [] h = h.0
  frame_on_top a f (g ∷ fs) h = h.0

  pub under_top : (a : Option Frame) (f : Frame) (fs : List Frame) → AreFramesOf k P a (f ∷ fs) → StandsUnder k a f
  under_top a f [] h = h.1
  under_top a f (g ∷ fs) h = h.1

  after_call : (a b f : Frame) → b.method ≡ a.method → StandsAfterCall k a f → StandsAfterCall k b f
  after_call a b f e h = record { at = h.at; is_next = h.is_next; name = h.name; call = h.call; method = h.method; named = h.named; is_method = e ∙ h.is_method }

  -- frames under another one, of the same method and for the same caller
  pub under_same : (a b : Frame) (fs : List Frame) → b.method ≡ a.method → b.serves ≡ a.serves → AreFramesOf k P (Some a) fs → AreFramesOf k P (Some b) fs
  under_same a b [] m s h = h
  under_same a b (f ∷ []) m s h =
      (subst (λ w. IsFrameOf k P (missing_under (Some w)) f) (sym s) h.0, λ o. after_call a b f m (h.1 (subst (λ w. IsTrue (is_own w)) s o)), h.2, h.3)
  under_same a b (f ∷ g ∷ fs) m s h =
      (subst (λ w. IsFrameOf k P (missing_under (Some w)) f) (sym s) h.0, λ o. after_call a b f m (h.1 (subst (λ w. IsTrue (is_own w)) s o)), h.2, h.3)

  -- another frame in its place, of the same method and for the same caller
  pub in_place : (a b : Option Frame) (f g : Frame) (fs : List Frame) → AreFramesOf k P a (f ∷ fs) → IsFrameOf k P (missing_under (serves_of b)) g → StandsUnder k b g
      → g.method ≡ f.method → g.serves ≡ f.serves → AreFramesOf k P b (g ∷ fs)
  in_place a b f g [] h t d m s = (t, d, m ∙ h.2, s ∙ h.3)
  in_place a b f g (e ∷ fs) h t d m s = (t, d, subst (λ x. IsTrue (is_some x)) (sym m) h.2, under_same f g (e ∷ fs) m s h.3)

  -- frames under one that serves another are frames under one that serves no one
  under_no_own : (a b : Frame) (f : Frame) → is_own a.serves ≡ false → is_own b.serves ≡ false → IsFrameOf k P (missing_under (Some a.serves)) f
      → IsFrameOf k P (missing_under (Some b.serves)) f × StandsUnder k (Some b) f
  under_no_own a b f p q t = (
    subst (λ n. IsFrameOf k P n f) (missing_else a.serves p ∙ sym (missing_else b.serves q)) t,
    λ o. absurd (let z : is_own b.serves ≡ true = o in grind (arith, q, z)),
  )

  under_other : (a b : Frame) (fs : List Frame) → is_own a.serves ≡ false → is_own b.serves ≡ false → AreFramesOf k P (Some a) fs → AreFramesOf k P (Some b) fs
  under_other a b [] p q h = h
  under_other a b (f ∷ []) p q h = let u = under_no_own a b f p q h.0 in (u.0, u.1, h.2, h.3)
  under_other a b (f ∷ g ∷ fs) p q h = let u = under_no_own a b f p q h.0 in (u.0, u.1, h.2, h.3)

  -- the frame on top that served a caller, and now serves no one
  pub for_no_one : (f g : Frame) (fs : List Frame) → AreFramesOf k P None (f ∷ fs) → IsFrameOf k P 0 g → g.method ≡ f.method → is_own f.serves ≡ false → g.serves ≡ S.Sender
      → AreFramesOf k P None (g ∷ fs)
  for_no_one f g [] h t m p s = (t, tt, m ∙ h.2, s)
  for_no_one f g (e ∷ fs) h t m p s = (t, tt, subst (λ x. IsTrue (is_some x)) (sym m) h.2, under_other f g (e ∷ fs) p (ap is_own s) h.3)

-- an object and its frames before it is brought to a step instruction
pub record IsReady (u : Code) (P : Value → Type 0) (k : ClassCode) (x : CodeObject) (fs : List Frame) : Type 0 where
  pub is_class : slice_get u.classes x.class ≡ Some k
  pub count : length x.vars ≡ k.vars
  pub vars : Each P x.vars
  pub frames : AreFramesOf k P None fs

-- what holds of the numbers of a unit's code holds of those of each class of it, and of those that operators make
pub plain_of : (u : Code) (P : Value → Type 0) → HoldsOfPlain (IsMadeIn u) P → (j : ℕ) (k : ClassCode) → slice_get u.classes j ≡ Some k → HoldsOfPlain (IsMadeBy k) P
plain_of u P plain j k e = (λ z n. plain.0 z (made z n), plain.1, plain.2)
  where
    made : (z : ℤ) → IsMadeBy k z → IsMadeIn u z
    made z (inl i) = inl i
    made z (inr p) = inr (j, k, e, p)

pub plain_range : (u : Code) (P : Value → Type 0) → HoldsOfPlain (IsMadeIn u) P → HoldsOfPlain IsInRange P
plain_range u P plain = (λ z i. plain.0 z (inl i), plain.1, plain.2)

module _ (u : Code) (P : Value → Type 0) (plain : HoldsOfPlain (IsMadeIn u) P) (k : ClassCode) where
  -- it is of the unit then
  pub ready_of : (x : CodeObject) (f : Frame) (fs : List Frame) → IsReady u P k x (f ∷ fs) → IsObjectOf u P (at_rest (Some k) x f fs)
  ready_of x f fs h =
      let r = settled_of k P (plain_of u P plain x.class k h.is_class) 0 f (frame_on_top k P None f fs h.frames) in
      record {
        class = k;
        is_class = h.is_class;
        count = h.count;
        vars = h.vars;
        frames = in_place k P None None f (settled (code_of (Some k) f.method) f) fs h.frames r.is_frame tt r.method r.serves;
      }

  -- and at a step instruction
  pub ready_rests : IsProper u → (x : CodeObject) (f : Frame) (fs : List Frame) → IsReady u P k x (f ∷ fs) → IsAtStep u (at_rest (Some k) x f fs)
  ready_rests proper x f fs h =
      let t = frame_on_top k P None f fs h.frames in
      let r = settled_of k P (plain_of u P plain x.class k h.is_class) 0 f t in
      let c = code_of (Some k) f.method in
      let code = proper_code u k (proper.each x.class k h.is_class) f.method f.temps t.has_temps in
      subst (λ o. IsAtStepOf o (settled c f ∷ fs)) (sym h.is_class)
      (subst (λ m. silent (settled c f) (slice_get (code_of (Some k) m) (settled c f).at) ≡ None) (sym r.method) (settled_rests c code.no_circle f))
