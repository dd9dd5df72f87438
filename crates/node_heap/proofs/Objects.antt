-- A write to the frames or variables of one slot changes the object of that slot only, and a further slot adds its
-- object.
use Rattle.std.proofs.Common.{◌≡◌, refl, sym, ◌∙◌, ap, ℕ, zero, suc, ◌+◌, ◌-◌, ◌*◌, ◌<◌, ◌≤◌, List, [], ◌∷◌, ◌++◌, length, map, get_or, set, take, drop, replicate, arith, length-set, length-drop}
use Rattle.std.proofs.Math.Seq.{take-set-lt}
use Rattle.std.proofs.lemmas.List.{length-replicate, length-map, take-set-le, drop-drop, drop-set-lt, drop-set-add, drop-replicate}
use Rattle.run_types.specs.declared.types.Value.{Value}
use Rattle.run_types.specs.declared.types.Value.TheVariants.{Nil}
use Rattle.run_types.specs.declared.frames.CodeObject.{CodeObject}
use Rattle.cell_pool.specs.Lists.{lengths}
use Rattle.node_heap.specs.declared.cells.FrameCell.{FrameCell}
use Rattle.node_heap.specs.declared.cells.Slot.{Slot}
use Rattle.node_heap.specs.Heaps.{no_object, frames_of, nils}
use Rattle.node_heap.specs.Layout.{frame_of, object_of, objects_of, IsLaid}
use Rattle.node_heap.proofs.ArrayPrefix.{nils-replicate, take-replicate}

abbrev Queues : Type 0
Queues = List (List FrameCell)

-- the object of slot i
abbrev nth_object : List CodeObject → ℕ → CodeObject
nth_object xs i = get_or xs i no_object

module _ (w : ℕ) where
  pub length-objects : (ss : List Slot) (qs : Queues) (vs : List Value) → IsLaid w ss qs vs → length (objects_of w ss qs vs) ≡ length ss
  length-objects [] qs vs l = refl
  length-objects (s ∷ ss) [] vs l = absurd l
  length-objects (s ∷ ss) (cs ∷ qs) vs l = ap suc (length-objects ss qs (drop w vs) l.3)

  pub slots_within : (ss : List Slot) (qs : Queues) (vs : List Value) → IsLaid w ss qs vs → length ss ≤ length qs
  slots_within [] qs vs l = omega arith
  slots_within (s ∷ ss) [] vs l = absurd l
  slots_within (s ∷ ss) (cs ∷ qs) vs l = omega (arith, slots_within ss qs (drop w vs) l.3)

  pub has_frame : (ss : List Slot) (qs : Queues) (vs : List Value) (i : ℕ) → IsLaid w ss qs vs → i < length ss → 0 < length (get_or qs i [])
  has_frame [] qs vs i l h = absurd (omega arith)
  has_frame (s ∷ ss) [] vs i l h = absurd l
  has_frame (s ∷ ss) (cs ∷ qs) vs zero l h = l.1
  has_frame (s ∷ ss) (cs ∷ qs) vs (suc i) l h = has_frame ss qs (drop w vs) i l.3 (omega arith)

  pub few_vars : (ss : List Slot) (qs : Queues) (vs : List Value) (i : ℕ) (d : Slot) → IsLaid w ss qs vs → i < length ss → (get_or ss i d).vars ≤ w
  few_vars [] qs vs i d l h = absurd (omega arith)
  few_vars (s ∷ ss) [] vs i d l h = absurd l
  few_vars (s ∷ ss) (cs ∷ qs) vs zero d l h = l.0
  few_vars (s ∷ ss) (cs ∷ qs) vs (suc i) d l h = few_vars ss qs (drop w vs) i d l.3 (omega arith)

  pub in_row : (ss : List Slot) (qs : Queues) (vs : List Value) (i k : ℕ) → IsLaid w ss qs vs → i < length ss → k < w → i * w + k < length vs
  in_row [] qs vs i k l h lt = absurd (omega arith)
  in_row (s ∷ ss) [] vs i k l h lt = absurd l
  in_row (s ∷ ss) (cs ∷ qs) vs zero k l h lt = omega (arith, l.2)
  in_row (s ∷ ss) (cs ∷ qs) vs (suc i) k l h lt =
      let rest : i * w + k < length (drop w vs) = in_row ss qs (drop w vs) i k l.3 (omega arith) lt in
      omega (arith, rest, length-drop w vs)

  -- what stands at slot i
  pub object_is : (ss : List Slot) (qs : Queues) (vs : List Value) (i : ℕ) (d : Slot) → IsLaid w ss qs vs → i < length ss
      → nth_object (objects_of w ss qs vs) i ≡ object_of (get_or ss i d) (get_or qs i []) (drop (i * w) vs)
  object_is [] qs vs i d l h = absurd (omega arith)
  object_is (s ∷ ss) [] vs i d l h = absurd l
  object_is (s ∷ ss) (cs ∷ qs) vs zero d l h =
      let e : zero * w ≡ 0 = omega arith in ap (λ k. object_of s cs (drop k vs)) (sym e)
  object_is (s ∷ ss) (cs ∷ qs) vs (suc i) d l h =
      let e : w + i * w ≡ suc i * w = omega arith in
      object_is ss qs (drop w vs) i d l.3 (omega arith)
      ∙ ap (object_of (get_or ss i d) (get_or qs i [])) (drop-drop (i * w) w vs ∙ ap (λ k. drop k vs) e)

  -- other frames at slot i
  pub objects-frames : (ss : List Slot) (qs : Queues) (vs : List Value) (i : ℕ) (cs : List FrameCell) → IsLaid w ss qs vs → i < length ss
      → objects_of w ss (set qs i cs) vs ≡ set (objects_of w ss qs vs) i (record (nth_object (objects_of w ss qs vs) i) { frames = map frame_of cs })
  objects-frames [] qs vs i ds l h = absurd (omega arith)
  objects-frames (s ∷ ss) [] vs i ds l h = absurd l
  objects-frames (s ∷ ss) (cs ∷ qs) vs zero ds l h = refl
  objects-frames (s ∷ ss) (cs ∷ qs) vs (suc i) ds l h =
      ap (λ xs. object_of s cs vs ∷ xs) (objects-frames ss qs (drop w vs) i ds l.3 (omega arith))

  pub laid-frames : (ss : List Slot) (qs : Queues) (vs : List Value) (i : ℕ) (cs : List FrameCell) → IsLaid w ss qs vs → i < length ss → 0 < length cs
      → IsLaid w ss (set qs i cs) vs
  laid-frames [] qs vs i ds l h pos = absurd (omega arith)
  laid-frames (s ∷ ss) [] vs i ds l h pos = absurd l
  laid-frames (s ∷ ss) (cs ∷ qs) vs zero ds l h pos = (l.0, pos, l.2, l.3)
  laid-frames (s ∷ ss) (cs ∷ qs) vs (suc i) ds l h pos = (l.0, l.1, l.2, laid-frames ss qs (drop w vs) i ds l.3 (omega arith) pos)

  -- another value of variable k of slot i
  pub objects-var : (ss : List Slot) (qs : Queues) (vs : List Value) (i k : ℕ) (v : Value) (d : Slot) → IsLaid w ss qs vs → i < length ss → k < (get_or ss i d).vars
      → let x = nth_object (objects_of w ss qs vs) i in objects_of w ss qs (set vs (i * w + k) v) ≡ set (objects_of w ss qs vs) i (record x { vars = set x.vars k v })
  objects-var [] qs vs i k v d l h lt = absurd (omega arith)
  objects-var (s ∷ ss) [] vs i k v d l h lt = absurd l
  objects-var (s ∷ ss) (cs ∷ qs) vs zero k v d l h lt =
      let e : zero * w + k ≡ k = omega arith in
      ap (λ j. objects_of w (s ∷ ss) (cs ∷ qs) (set vs j v)) e
      ∙ ap (λ us. record (object_of s cs vs) { vars = us } ∷ objects_of w ss qs (drop w (set vs k v))) (take-set-lt s.vars vs k v lt)
      ∙ ap (λ us. record (object_of s cs vs) { vars = set (take s.vars vs) k v } ∷ objects_of w ss qs us) (drop-set-lt w vs k v (omega (arith, l.0)))
  objects-var (s ∷ ss) (cs ∷ qs) vs (suc i) k v d l h lt =
      let e : suc i * w + k ≡ w + (i * w + k) = omega arith in
      ap (λ j. objects_of w (s ∷ ss) (cs ∷ qs) (set vs j v)) e
      ∙ ap (λ us. record (object_of s cs vs) { vars = us } ∷ objects_of w ss qs (drop w (set vs (w + (i * w + k)) v))) (take-set-le s.vars vs (w + (i * w + k)) v (omega (arith, l.0)))
      ∙ ap (λ us. object_of s cs vs ∷ objects_of w ss qs us) (drop-set-add w vs (i * w + k) v)
      ∙ ap (λ xs. object_of s cs vs ∷ xs) (objects-var ss qs (drop w vs) i k v d l.3 (omega arith) lt)

  pub laid-var : (ss : List Slot) (qs : Queues) (vs : List Value) (i k : ℕ) (v : Value) → IsLaid w ss qs vs → i < length ss → k < w
      → IsLaid w ss qs (set vs (i * w + k) v)
  laid-var [] qs vs i k v l h lt = absurd (omega arith)
  laid-var (s ∷ ss) [] vs i k v l h lt = absurd l
  laid-var (s ∷ ss) (cs ∷ qs) vs zero k v l h lt =
      let e : zero * w + k ≡ k = omega arith in
      rw (e, length-set vs k v, drop-set-lt w vs k v lt) l
  laid-var (s ∷ ss) (cs ∷ qs) vs (suc i) k v l h lt =
      let e : suc i * w + k ≡ w + (i * w + k) = omega arith in
      let rest : IsLaid w ss qs (set (drop w vs) (i * w + k) v) = laid-var ss qs (drop w vs) i k v l.3 (omega arith) lt in
      rw (e, length-set vs (w + (i * w + k)) v, drop-set-add w vs (i * w + k) v) (l.0, l.1, l.2, rest)

  -- the frames of all objects together
  lengths-replicate : (n : ℕ) → lengths (let none : List FrameCell = [] in replicate n none) ≡ 0
  lengths-replicate zero = refl
  lengths-replicate (suc n) = omega (arith, lengths-replicate n)

  pub all_frames : (ss : List Slot) (qs : Queues) (vs : List Value) → IsLaid w ss qs vs → frames_of (objects_of w ss qs vs) ≡ lengths qs
  all_frames [] qs vs l = sym (ap lengths l.0 ∙ lengths-replicate (length qs))
  all_frames (s ∷ ss) [] vs l = absurd l
  all_frames (s ∷ ss) (cs ∷ qs) vs l =
      ap (λ n. n + frames_of (objects_of w ss qs (drop w vs))) (length-map cs frame_of)
      ∙ ap (λ n. length cs + n) (all_frames ss qs (drop w vs) l.3)

  -- the slots behind
  pub no_frames : (ss : List Slot) (qs : Queues) (vs : List Value) → IsLaid w ss qs vs → get_or qs (length ss) [] ≡ []
  no_frames [] qs vs l = ap (λ (q : Queues). get_or q 0 []) l.0 ∙ none (length qs)
    where
      none : (n : ℕ) → (let empty : List FrameCell = [] in get_or (replicate n empty) 0 empty ≡ empty)
      none zero = refl
      none (suc n) = refl
  no_frames (s ∷ ss) [] vs l = absurd l
  no_frames (s ∷ ss) (cs ∷ qs) vs l = no_frames ss qs (drop w vs) l.3

  nil_vars : (n m : ℕ) (vs : List Value) → n ≤ w → vs ≡ replicate (suc m * w) Nil → take n vs ≡ nils n
  nil_vars n m vs h e =
      let room : n ≤ suc m * w = omega arith in
      ap (take n) e ∙ take-replicate n (suc m * w) Nil room ∙ sym (nils-replicate n)

  -- a further slot, with one frame
  pub objects-more : (ss : List Slot) (qs : Queues) (vs : List Value) (s : Slot) (c : FrameCell) → IsLaid w ss qs vs → length ss < length qs → s.vars ≤ w
      → objects_of w (ss ++ s ∷ []) (set qs (length ss) (c ∷ [])) vs ≡ objects_of w ss qs vs ++ record { class = s.class; vars = nils s.vars; frames = frame_of c ∷ [] } ∷ []
  objects-more [] [] vs s c l h few = absurd (omega arith)
  objects-more [] (q ∷ qs) vs s c l h few =
      ap (λ us. record (object_of s (c ∷ []) vs) { vars = us } ∷ []) (nil_vars s.vars (length qs) vs few l.1)
  objects-more (t ∷ ss) [] vs s c l h few = absurd l
  objects-more (t ∷ ss) (cs ∷ qs) vs s c l h few =
      ap (λ xs. object_of t cs vs ∷ xs) (objects-more ss qs (drop w vs) s c l.3 (omega arith) few)

  pub laid-more : (ss : List Slot) (qs : Queues) (vs : List Value) (s : Slot) (c : FrameCell) → IsLaid w ss qs vs → length ss < length qs → s.vars ≤ w
      → IsLaid w (ss ++ s ∷ []) (set qs (length ss) (c ∷ [])) vs
  laid-more [] [] vs s c l h few = absurd (omega arith)
  laid-more [] (q ∷ qs) vs s c l h few =
      let n = length qs in
      let e : suc n * w - w ≡ n * w = omega arith in
      let long : length vs ≡ suc n * w = ap length l.1 ∙ length-replicate (suc n * w) Nil in
      (few, omega arith, omega arith, (ap (drop 1) l.0, ap (drop w) l.1 ∙ drop-replicate w (suc n * w) Nil ∙ ap (λ k. replicate k Nil) e))
  laid-more (t ∷ ss) [] vs s c l h few = absurd l
  laid-more (t ∷ ss) (cs ∷ qs) vs s c l h few = (l.0, l.1, l.2, laid-more ss qs (drop w vs) s c l.3 (omega arith) few)
