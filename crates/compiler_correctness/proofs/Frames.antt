-- Frames whose operands fit, and the frames after an instruction.
use Rattle.std.proofs.Common.{◌≡◌, inl, refl, sym, ap, subst, ◌∙◌, IsTrue, ℕ, zero, suc, List, [], ◌∷◌, ◌++◌, length, Option, Some, None, is_some, true, false, if◌then◌else◌}
use Rattle.std.specs.Prelude.{slice_get}
use Rattle.run_types.specs.declared.types.Value.{Value}
use Rattle.run_types.specs.declared.types.Value.TheVariants as V
use Rattle.run_types.specs.declared.types.Serves.{Serves}
use Rattle.run_types.specs.declared.types.Serves.TheVariants as S
use Rattle.run_types.specs.Sorts.{IntSort, BoolSort, NilSort}
use Rattle.run_types.proofs.Laws.{same_some, given_by}
use Rattle.code_semantics.specs.declared.unit.Instr.{Instr}
use Rattle.code_semantics.specs.declared.unit.Instr.TheVariants as I
use Rattle.run_types.specs.declared.frames.Frame.{Frame}
use Rattle.code_semantics.specs.declared.file.UnitFile.{UnitFile}
use Rattle.code_semantics.specs.Frames.{method_code, code_of, next, post_passed, silent, go_on_with, settled_within, settled}
use Rattle.code_semantics.specs.ReachedPlaces.{nexts, IsAmong}
use Rattle.code_semantics.specs.Shaped.{IsShaped}
use Rattle.code_semantics.specs.Step.{is_own}
use Rattle.code_semantics.specs.OfUnit.{HasTemps}
use Rattle.code_typing.specs.Sorts.{Stack, Declared, declared_at, scope_by, left_by, pop_returned}
use Rattle.code_typing.specs.Verified.{IsWellSorted, IsVerified}
use Rattle.compiler_correctness.specs.TypedCode.{Classes, AreOfSorts, AreOfKinds, kinds_of_frame, left_sort, frame_scope, IsSortedFrame, AreSortedFrames}
use Rattle.compiler_correctness.proofs.ShapedKinds.{class_shaped, kinds_of_method}

some_of : {A : Type 0} (x : Option A) → IsTrue (is_some x) → (a : A) × (x ≡ Some a)
some_of None h = absurd (let z : false ≡ true = h in cc)
some_of (Some a) h = (a, refl)

-- the same frame with other temps has the method too
pub temps_same : (k : _) (m : Option ℕ) (temps others : List Value) → length others ≡ length temps → HasTemps k m temps → HasTemps k m others
temps_same k None temps others e h = e ∙ h
temps_same k (Some m) temps others e h = (h.0, h.1, e ∙ h.2)

module _ (f : UnitFile) (shaped : IsShaped f) (good : IsVerified f) (j : ℕ) (k : Declared) (is_class : declared_at f j ≡ Some k) where
  -- the code of a frame is well sorted
  pub well_sorted : (m : Option ℕ) (temps : List Value) → HasTemps k.code m temps → (words : ℕ) × IsWellSorted (frame_scope f k m) words (code_of (Some k.code) m)
  well_sorted None temps h = (k.code.body.frame_words, (good.codes j k is_class).body)
  well_sorted (Some i) temps h =
      let s = kinds_of_method k.code.methods k.kinds.methods i h.0 (class_shaped f shaped j k is_class).1 h.1 in
      let w : IsWellSorted (scope_by f k (Some s.0)) h.0.frame_words (method_code (Some h.0)) = (good.codes j k is_class).methods i h.0 s.0 h.1 s.1 in
      (h.0.frame_words, rw (h.1, s.1) w)

  module _ (at : Classes) where
    -- what the instruction at hand leaves, and that it can go on
    module _ (missing : Stack) (x : Frame) (t : IsSortedFrame f at k missing x) where
      pub instr_there : (i : Instr) × (slice_get (code_of (Some k.code) x.method) x.at ≡ Some i)
      instr_there = let a = (well_sorted x.method x.temps t.has_temps).1.taken x.at (missing ++ t.stack) t.reached in (a.2.0, a.2.1)

      module _ (i : Instr) (e : slice_get (code_of (Some k.code) x.method) x.at ≡ Some i) where
        pub leaves_stack : (r : Stack) × (left_by (frame_scope f k x.method) i (missing ++ t.stack) ≡ Some r)
        leaves_stack =
            let a = (well_sorted x.method x.temps t.has_temps).1.taken x.at (missing ++ t.stack) t.reached in
            some_of (left_by (frame_scope f k x.method) i (missing ++ t.stack))
            (subst (λ z. IsTrue (is_some (left_by (frame_scope f k x.method) z (missing ++ t.stack)))) (same_some (sym a.2.1 ∙ e)) a.2.2)

        pub moves : (to : ℕ) (others : Stack) (temps operands : List Value) (r : Stack) → left_by (frame_scope f k x.method) i (missing ++ t.stack) ≡ Some (others ++ r)
            → IsAmong to (nexts x.at i) → AreOfSorts at operands r → length temps ≡ length x.temps → AreOfKinds at temps (frame_scope f k x.method).temps
            → IsSortedFrame f at k others (record x { at = to; temps = temps; operands = operands })
        moves to others temps operands r l a os same ts =
            let n = (well_sorted x.method x.temps t.has_temps).1.taken x.at (missing ++ t.stack) t.reached in
            record {
              stack = r;
              reached = (suc t.reached.0, (x.at, missing ++ t.stack, i, t.reached.1, n.0, e, a, l));
              operands = os;
              has_temps = temps_same k.code x.method x.temps temps same t.has_temps;
              temps = ts;
            }

    -- silent instructions
    silent_sorted : (x y : Frame) (i : Option Instr) → IsSortedFrame f at k [] x → slice_get (code_of (Some k.code) x.method) x.at ≡ i → silent x i ≡ Some y → IsSortedFrame f at k [] y
    silent_sorted x y (Some (I.PushInt z)) t e h =
        subst (IsSortedFrame f at k []) (same_some h) (moves [] x t (I.PushInt z) e (suc x.at) [] x.temps (V.Int z ∷ x.operands) (IntSort ∷ t.stack) refl (inl refl) (refl, t.operands) refl t.temps)
    silent_sorted x y (Some (I.PushBool b)) t e h =
        subst (IsSortedFrame f at k []) (same_some h) (moves [] x t (I.PushBool b) e (suc x.at) [] x.temps (V.Bool b ∷ x.operands) (BoolSort ∷ t.stack) refl (inl refl) (refl, t.operands) refl t.temps)
    silent_sorted x y (Some I.PushNil) t e h =
        subst (IsSortedFrame f at k []) (same_some h) (moves [] x t I.PushNil e (suc x.at) [] x.temps (V.Nil ∷ x.operands) (NilSort ∷ t.stack) refl (inl refl) (tt, t.operands) refl t.temps)
    silent_sorted x y (Some (I.Jump a)) t e h =
        subst (IsSortedFrame f at k []) (same_some h) (moves [] x t (I.Jump a) e a [] x.temps x.operands t.stack refl (inl refl) t.operands refl t.temps)
    silent_sorted x y (Some I.Post) t e h = by x.serves h
      where
        stays : IsSortedFrame f at k [] (next x x.operands)
        stays =
            let l = leaves_stack [] x t I.Post e in
            let a = given_by (pop_returned (frame_scope f k x.method).value t.stack) (λ rest. Some t.stack) l.0 l.1 in
            moves [] x t I.Post e (suc x.at) [] x.temps x.operands t.stack (l.1 ∙ sym a.2) (inl refl) t.operands refl t.temps

        by : (w : Serves) → post_passed x w ≡ Some y → IsSortedFrame f at k [] y
        by (S.Caller o n) h = absurd (let z : None ≡ Some y = h in cc)
        by S.Own h = subst (IsSortedFrame f at k []) (same_some h) stays
        by S.Sender h = subst (IsSortedFrame f at k []) (same_some h) stays
    silent_sorted x y _ t e h = absurd (let z : None ≡ Some y = h in cc)

    silent_same : (x y : Frame) (i : Option Instr) → silent x i ≡ Some y → (y.method ≡ x.method) × (y.serves ≡ x.serves)
    silent_same x y (Some (I.PushInt z)) e = let s = sym (same_some e) in (ap (λ (q : Frame). q.method) s, ap (λ (q : Frame). q.serves) s)
    silent_same x y (Some (I.PushBool b)) e = let s = sym (same_some e) in (ap (λ (q : Frame). q.method) s, ap (λ (q : Frame). q.serves) s)
    silent_same x y (Some I.PushNil) e = let s = sym (same_some e) in (ap (λ (q : Frame). q.method) s, ap (λ (q : Frame). q.serves) s)
    silent_same x y (Some (I.Jump a)) e = let s = sym (same_some e) in (ap (λ (q : Frame). q.method) s, ap (λ (q : Frame). q.serves) s)
    silent_same x y (Some I.Post) e = by x.serves e
      where
        by : (w : Serves) → post_passed x w ≡ Some y → (y.method ≡ x.method) × (y.serves ≡ x.serves)
        by (S.Caller o n) e = absurd (let z : None ≡ Some y = e in cc)
        by S.Own e = let s = sym (same_some e) in (ap (λ (q : Frame). q.method) s, ap (λ (q : Frame). q.serves) s)
        by S.Sender e = let s = sym (same_some e) in (ap (λ (q : Frame). q.method) s, ap (λ (q : Frame). q.serves) s)
    silent_same x y _ e = absurd (let z : None ≡ Some y = e in cc)

    -- a frame that follows by silent instructions
    pub record Follows (x y : Frame) : Type 0 where
      pub sorted : IsSortedFrame f at k [] y
      pub method : y.method ≡ x.method
      pub serves : y.serves ≡ x.serves

    follows_by : (x : Frame) (go : Frame → Frame) (s : Option Frame) → silent x (slice_get (code_of (Some k.code) x.method) x.at) ≡ s → IsSortedFrame f at k [] x
        → ((y : Frame) → y.method ≡ x.method → IsSortedFrame f at k [] y → Follows y (go y)) → Follows x (go_on_with x go s)
    follows_by x go None e t more = record { sorted = t; method = refl; serves = refl }
    follows_by x go (Some y) e t more =
        let m = silent_same x y (slice_get (code_of (Some k.code) x.method) x.at) e in
        let r = more y m.0 (silent_sorted x y (slice_get (code_of (Some k.code) x.method) x.at) t refl e) in
        record { sorted = r.sorted; method = r.method ∙ m.0; serves = r.serves ∙ m.1 }

    follows_within : (c : List Instr) (n : ℕ) (x : Frame) → c ≡ code_of (Some k.code) x.method → IsSortedFrame f at k [] x → Follows x (settled_within c n x)
    follows_within c zero x e t = record { sorted = t; method = refl; serves = refl }
    follows_within c (suc n) x e t =
        subst (λ s. Follows x (go_on_with x (settled_within c n) s)) (ap (λ d. silent x (slice_get d x.at)) (sym e))
        (follows_by x (settled_within c n) (silent x (slice_get (code_of (Some k.code) x.method) x.at)) refl t
        (λ y m s. follows_within c n y (e ∙ ap (code_of (Some k.code)) (sym m)) s))

    pub settled_sorted : (x : Frame) → IsSortedFrame f at k [] x → Follows x (settled (code_of (Some k.code) x.method) x)
    settled_sorted x t = follows_within (code_of (Some k.code) x.method) (length (code_of (Some k.code) x.method)) x refl t

    abbrev missing_by : Option ℕ → Serves → Stack
    missing_by m w = if is_own w then left_sort (kinds_of_frame k m) ∷ [] else []

    -- frames under another one, of the same method, where both serve no object itself
    pub under_no_own : (a b : Frame) (xs : List Frame) → b.method ≡ a.method → is_own b.serves ≡ is_own a.serves → AreSortedFrames f at k (Some a) xs → AreSortedFrames f at k (Some b) xs
    under_no_own a b [] m s h = tt
    under_no_own a b (x ∷ xs) m s h =
        (subst (λ q. IsSortedFrame f at k q x) (sym (ap (λ w. if w then left_sort (kinds_of_frame k b.method) ∷ [] else []) s ∙ ap (λ q. missing_by q a.serves) m)) h.0, h.1)

    -- frames under another one, of the same method and for the same caller
    pub under_same : (a b : Frame) (xs : List Frame) → b.method ≡ a.method → b.serves ≡ a.serves → AreSortedFrames f at k (Some a) xs → AreSortedFrames f at k (Some b) xs
    under_same a b [] m s h = tt
    under_same a b (x ∷ xs) m s h = (subst (λ q. IsSortedFrame f at k q x) (sym (ap (λ w. missing_by b.method w) s ∙ ap (λ q. missing_by q a.serves) m)) h.0, h.1)
