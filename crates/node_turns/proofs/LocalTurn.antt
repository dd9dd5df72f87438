-- A turn of local transitions is a burst.
use Rattle.std.proofs.Common.{◌≡◌, refl, sym, ap, ap₂, ◌∙◌, ℕ, zero, suc, ◌+◌, ◌<◌, ◌≤◌, ◌&&◌, List, [], ◌∷◌, length, map, Option, Some, None, is_some, is_none, Bool, true, false, if◌then◌else◌, arith}
use Rattle.std.specs.Prelude.{nat_le, get_or}
use Rattle.std.proofs.lemmas.Bool.Decides.{nat_tests}
use Rattle.run_types.specs.declared.types.Label.TheVariants as L
use Rattle.run_types.specs.declared.types.What.{What}
use Rattle.run_types.specs.declared.types.What.TheVariants as W
use Rattle.run_types.specs.declared.types.FullKind.TheVariants as F
use Rattle.run_types.specs.declared.types.Placement.{Placement}
use Rattle.run_types.specs.declared.types.Error.{Error}
use Rattle.run_types.specs.declared.frames.Frame.{Frame}
use Rattle.run_types.specs.declared.frames.CodeObject.{CodeObject}
use Rattle.code_semantics.specs.declared.unit.Unit.{Unit as Code}
use Rattle.code_semantics.specs.Kinds as C
use Rattle.code_semantics.specs.Kinds.{code_kind}
use Rattle.code_semantics.specs.Step.{code_stepped}
use Rattle.code_semantics.specs.Forget.{forget, forget_frame, forget_kind}
use Rattle.code_semantics.specs.StepInstructions.{FitsUnit, IsAtStep}
use Rattle.code_semantics.proofs.Laws.{forget_stepped, forget_code_kind}
use Rattle.node_heap.specs.Heaps.{HeapOf, object_at, put_object}
use Rattle.object_interp.specs.declared.types.Burst.TheVariants as B
use Rattle.object_interp.specs.declared.types.Hand.TheVariants as H
use Rattle.object_interp.specs.Offers.{hand_of, need_of}
use Rattle.object_interp.specs.Bursts as S
use Rattle.object_interp.specs.Bursts.{IsBurst, burst_from, name_in, room_in}
use Rattle.mesh_of_code.specs.Coded.{Placed, coded, kind_of, under_way, placed}
use Rattle.mesh_semantics.specs.Kind.{is_local}
use Rattle.mesh_semantics.specs.Act.{greatest}
use Rattle.mesh_semantics.specs.Language.{Language}
use Rattle.run_types.specs.Partial.{◌>>=◌}
use Rattle.node_semantics.specs.Node as N
use Rattle.node_semantics.specs.Node.{Slot, NodeState, NodeActed, frames_in, local_act, local_state, name_at, put_state, room_for, set_at, steps_of, within_node}
use Rattle.node_state.specs.declared.state.NodeParts.{NodeParts}
use Rattle.node_acts.specs.ActOf as A
use Rattle.node_state.specs.Views.{numbers_of, slots_of, node_of, slot_at, refreshed}
use Rattle.node_acts.specs.NodeSteps.{IsSet, IsTurned, turn_at}
use Rattle.node_state.proofs.Laws.{slot_real, by_heap, burst_changed, numbers_stepped}
use Rattle.node_acts.proofs.Laws.{frames_seen, some_frame, under_way_is}
use Rattle.node_acts.proofs.Laws.{moved, moved_line, turn_is, turned, quiet_cells}

-- the greatest number for which a test holds
pub greatest_none : (t : ℕ → Bool) → ((k : ℕ) → t (suc k) ≡ false) → (q : ℕ) → greatest t q ≡ 0
greatest_none t h zero = refl
greatest_none t h (suc q) = rw (h q) (greatest_none t h q)

pub greatest_shift : (t v : ℕ → Bool) → ((k : ℕ) → t (suc k) ≡ v k) → v 0 ≡ true → (q : ℕ) → greatest t (suc q) ≡ suc (greatest v q)
greatest_shift t v h z zero = ap (λ (b : Bool). if b then 1 else 0) (h 0 ∙ z)
greatest_shift t v h z (suc q) = by (v (suc q)) refl (greatest_shift t v h z q)
  where
    by : (b : Bool) → v (suc q) ≡ b → greatest t (suc q) ≡ suc (greatest v q) → greatest t (suc (suc q)) ≡ suc (greatest v (suc q))
    by true e r = let f = h (suc q) ∙ e in rw (f, e) refl
    by false e r = let f = h (suc q) ∙ e in rw (f, e) r

local_kind : (k : C.Kind) → is_local (kind_of k) ≡ S.is_local k
local_kind C.Local = refl
local_kind _ = refl

forgotten_local : (k : C.Kind) → S.is_local (forget_kind k) ≡ S.is_local k
forgotten_local C.Local = refl
forgotten_local _ = refl

local_is : (k : C.Kind) → S.is_local k ≡ true → k ≡ C.Local
local_is C.Local e = refl
local_is _ e = absurd (cc)

-- a burst of some steps begins at a local one
pub begins_local : (u : Code) (o room q k : ℕ) (x : CodeObject) → (burst_from u o room q x).0 ≡ k → 0 < k → code_kind u x ≡ C.Local
begins_local u o room zero k x e some = absurd (omega (arith, e, some))
begins_local u o room (suc q) k x e some = by (S.can_step u o room x) refl
  where
    left : (a b : Bool) → (a && b) ≡ true → a ≡ true
    left true b z = refl
    left false b z = absurd (cc)

    by : (b : Bool) → S.can_step u o room x ≡ b → code_kind u x ≡ C.Local
    by true z = local_is (code_kind u x) (left (S.is_local (code_kind u x)) (nat_le (length (code_stepped u o x).frames) room) z)
    by false z = let none : (burst_from u o room (suc q) x).0 ≡ 0 = rw z refl in absurd (omega (arith, none, e, some))

-- what is at hand where that is no local step
pub none_local : (u : Code) (k : C.Kind) → S.is_local k ≡ false → H.At (need_of u k) ≡ hand_of u k
none_local u C.Local e = absurd (cc)
none_local u _ e = refl

forgotten_way : (fs : List Frame) → under_way (map forget_frame fs) ≡ under_way fs
forgotten_way [] = refl
forgotten_way (f ∷ fs) = forgotten_length fs
  where
    forgotten_length : (gs : List Frame) → length (map forget_frame gs) ≡ length gs
    forgotten_length [] = refl
    forgotten_length (g ∷ gs) = ap suc (forgotten_length gs)

same_room : (fs : List Frame) (room more : ℕ) → more ≡ room + 1 → nat_le (under_way fs) room ≡ nat_le (length fs) more
same_room [] room more e = grind (arith, nat_tests)
same_room (f ∷ fs) room more e = by (nat_le (length fs) room) refl
  where
    by : (b : Bool) → nat_le (length fs) room ≡ b → nat_le (length fs) room ≡ nat_le (suc (length fs)) more
    by true h = let k : length fs ≤ room = grind (arith, nat_tests) in h ∙ sym (le_true (suc (length fs)) more (omega arith))
      where
        le_true : (a b : ℕ) → a ≤ b → nat_le a b ≡ true
        le_true a b l = grind (arith, nat_tests)
    by false h = let k : room < length fs = grind (arith, nat_tests) in h ∙ sym (le_false (suc (length fs)) more (omega arith))
      where
        le_false : (a b : ℕ) → b < a → nat_le a b ≡ false
        le_false a b l = grind (arith, nat_tests)

module _ (u : Code) (o room more : ℕ) (same : more ≡ room + 1) where
  abbrev g : Language Placed
  g = coded u

  -- one local step, if it can be made
  abbrev once : Placed → Option Placed
  once z = if is_none (g.fault z) && is_local (g.kind o z) && nat_le (g.frames (g.stepped o z)) room then Some (g.stepped o z) else None

  -- the first of them in front
  front : (k : ℕ) (y : Placed) → local_state g o room (suc k) y ≡ (once y >>= λ z. local_state g o room k z)
  front zero y = by (once y)
    where
      by : (a : Option Placed) → a ≡ (a >>= λ z. Some z)
      by None = refl
      by (Some z) = refl
  front (suc k) y = ap (λ (a : Option Placed). a >>= once) (front k y) ∙ by (once y)
    where
      by : (a : Option Placed) → ((a >>= λ z. local_state g o room k z) >>= once) ≡ (a >>= λ z. local_state g o room (suc k) z)
      by None = refl
      by (Some z) = refl

  abbrev real : CodeObject → Placed
  real x = placed (forget x)

  test_same : (x : CodeObject) → (is_none (g.fault (real x)) && is_local (g.kind o (real x)) && nat_le (g.frames (g.stepped o (real x))) room) ≡ S.can_step u o more x
  test_same x =
      let a : is_local (g.kind o (real x)) ≡ S.is_local (code_kind u x) =
      local_kind (code_kind u (forget x)) ∙ (ap (λ k. S.is_local k) (forget_code_kind u x) ∙ forgotten_local (code_kind u x)) in
      let b : nat_le (g.frames (g.stepped o (real x))) room ≡ nat_le (length (code_stepped u o x).frames) more =
      ap (λ (y : CodeObject). nat_le (under_way y.frames) room) (sym (forget_stepped u o x))
      ∙ (ap (λ n. nat_le n room) (forgotten_way (code_stepped u o x).frames) ∙ same_room (code_stepped u o x).frames room more same) in
      ap₂ (λ (c d : Bool). c && d) a b

  once_is : (x : CodeObject) → once (real x) ≡ (if S.can_step u o more x then Some (real (code_stepped u o x)) else None)
  once_is x =
      ap₂ (λ (b : Bool) (y : CodeObject). if b then Some (placed y) else None) (test_same x) (sym (forget_stepped u o x))

  abbrev test : CodeObject → ℕ → Bool
  test x k = is_some (local_state g o room k (real x))

  pub burst_is : (q : ℕ) (x : CodeObject) → (greatest (test x) q ≡ (burst_from u o more q x).0) × (local_state g o room (burst_from u o more q x).0 (real x) ≡ Some (real (burst_from u o more q x).1))
  burst_is zero x = (refl, refl)
  burst_is (suc q) x = by (S.can_step u o more x) refl (burst_is q (code_stepped u o x))
    where
      by : (b : Bool) → S.can_step u o more x ≡ b
          → (greatest (test (code_stepped u o x)) q ≡ (burst_from u o more q (code_stepped u o x)).0)
          × (local_state g o room (burst_from u o more q (code_stepped u o x)).0 (real (code_stepped u o x)) ≡ Some (real (burst_from u o more q (code_stepped u o x)).1))
          → (greatest (test x) (suc q) ≡ (burst_from u o more (suc q) x).0) × (local_state g o room (burst_from u o more (suc q) x).0 (real x) ≡ Some (real (burst_from u o more (suc q) x).1))
      by true e r =
          let one : once (real x) ≡ Some (real (code_stepped u o x)) = once_is x ∙ ap (λ (b : Bool). if b then Some (real (code_stepped u o x)) else None) e in
          let next : (k : ℕ) → local_state g o room (suc k) (real x) ≡ local_state g o room k (real (code_stepped u o x)) =
          λ k. front k (real x) ∙ ap (λ (a : Option Placed). a >>= λ z. local_state g o room k z) one in
          let shift = greatest_shift (test x) (test (code_stepped u o x)) (λ k. ap (λ (a : Option Placed). is_some a) (next k)) refl q in
          rw e (shift ∙ ap suc r.0, next (burst_from u o more q (code_stepped u o x)).0 ∙ r.1)
      by false e r =
          let none : once (real x) ≡ None = once_is x ∙ ap (λ (b : Bool). if b then Some (real (code_stepped u o x)) else None) e in
          let next : (k : ℕ) → local_state g o room (suc k) (real x) ≡ None = λ k. front k (real x) ∙ ap (λ (a : Option Placed). a >>= λ z. local_state g o room k z) none in
          rw e (greatest_none (test x) (λ k. ap (λ (a : Option Placed). is_some a) (next k)) (suc q), refl)

  -- whom it serves
  pub burst_numbers : (q : ℕ) (x : CodeObject) → numbers_of (burst_from u o more q x).1.frames ≡ numbers_of x.frames
  burst_numbers zero x = refl
  burst_numbers (suc q) x = by (S.can_step u o more x) refl (burst_numbers q (code_stepped u o x))
    where
      by : (b : Bool) → S.can_step u o more x ≡ b → numbers_of (burst_from u o more q (code_stepped u o x)).1.frames ≡ numbers_of (code_stepped u o x).frames
          → numbers_of (burst_from u o more (suc q) x).1.frames ≡ numbers_of x.frames
      by true e r =
          let k = local_is (code_kind u x) (left (S.is_local (code_kind u x)) (nat_le (length (code_stepped u o x).frames) more) e) in
          rw e (r ∙ numbers_stepped u o x k)
        where
          left : (a b : Bool) → (a && b) ≡ true → a ≡ true
          left true b z = refl
          left false b z = absurd (cc)
      by false e r = rw e refl

module _ (u : Code) (l : Placement) (leaving : ℕ) (p : NodeParts) (set : IsSet u l leaving p) (i : ℕ) (h : i < length p.heap.objects) (n : ℕ)
    (kind : code_kind u (object_at p.heap i) ≡ C.Local) (fault : (slot_at p i).state.fault ≡ None) where
  abbrev x : CodeObject
  x = object_at p.heap i

  abbrev o : ℕ
  o = name_at p.id i

  abbrev room : ℕ
  room = room_for (coded u) l (node_of p).state i (slot_at p i)

  abbrev more : ℕ
  more = room_in p.heap i

  rooms : more ≡ room + 1
  rooms =
      let a = frames_seen u p set.unit in
      let b = under_way_is u x (some_frame u x (slot_real u p set.unit i h).fits) in
      let c = set.frames in let d = set.placement.frames in omega (arith, a, b, c, d)

  names : name_in p.heap i ≡ o
  names = ap (λ k. name_at k i) set.whole.node

  state_is : (slot_at p i).state ≡ placed (forget x)
  state_is = ap (λ (f : Option Error). record (placed (forget x)) { fault = f }) fault

  abbrev steps : ℕ
  steps = steps_of (coded u) l n p.id (node_of p).state i (slot_at p i)

  steps_are : steps ≡ (burst_from u o more n x).0
  steps_are = ap (λ (s : Placed). greatest (λ k. is_some (local_state (coded u) o room k s)) n) state_is ∙ (burst_is u o room more rooms n x).0

  states_are : local_state (coded u) o room steps (slot_at p i).state ≡ Some (placed (forget (burst_from u o more n x).1))
  states_are = ap₂ (λ (k : ℕ) (s : Placed). local_state (coded u) o room k s) steps_are state_is ∙ (burst_is u o room more rooms n x).1

  turn : (fresh : ℕ) → turn_at u l n fresh p i ≡ local_act p.id o (node_of p).state i (slot_at p i) (burst_from u o more n x).0 (Some (placed (forget (burst_from u o more n x).1)))
  turn fresh = turn_is u l n fresh p i C.Local kind ∙ ap₂ (λ (k : ℕ) (s : Option Placed). local_act p.id o (node_of p).state i (slot_at p i) k s) steps_are states_are

  pub local_full : (hp : HeapOf) → IsBurst u p.heap i n B.FramesFull hp → 1 ≤ n → (q : NodeParts) → q ≡ p → IsTurned u l n leaving (A.Full F.Frames) p q i
  local_full hp is some q e =
      let stuck : S.can_step u o more x ≡ false = ap (λ z. S.can_step u z more x) (sym names) ∙ is.1 in
      turned u l n leaving (A.Full F.Frames) p q i (λ fresh. record {
        same = e;
        full =
            ap (λ (a : NodeActed Placed). within_node (coded u) l leaving a) (turn fresh ∙ ap (λ k. local_act p.id o (node_of p).state i (slot_at p i) k (Some (placed (forget (burst_from u o more n x).1)))) (none n some stuck));
      })
    where
      none : (k : ℕ) → 1 ≤ k → S.can_step u o more x ≡ false → (burst_from u o more k x).0 ≡ 0
      none zero some e = absurd (omega arith)
      none (suc k) some e = rw e refl

  pub local_made : (steps : ℕ) (hp : HeapOf) (q : NodeParts) (what : What) → get_or p.outstanding i None ≡ None → IsBurst u p.heap i n (B.Local steps) hp → FitsUnit u (object_at hp i) → IsAtStep u (object_at hp i)
      → q ≡ refreshed u (record p { heap = hp }) i → what ≡ W.Step (L.Local o) steps → IsTurned u l n leaving (A.Line what None) p q i
  local_made k hp q what free is fits rests last w =
      let y = (burst_from u o more n x).1 in
      let s = slot_at p i in
      let t = record s { state = record s.state { object = forget y } } in
      let e : hp ≡ put_object p.heap i y = is.2 ∙ ap (λ z. put_object p.heap i (burst_from u z more n x).1) names in
      let m : (burst_from u o more n x).0 ≡ k = ap (λ z. (burst_from u z more n x).0) (sym names) ∙ is.1 in
      let c = by_heap u p set.whole set.unit i h y hp q t e fits rests last (burst_changed u p set.whole set.unit i h y free (burst_numbers u o room more rooms n x)) in
      turned u l n leaving (A.Line what None) p q i (λ fresh.
      moved_line u p q (record (node_of p).state { slots = set_at (slots_of p) i t }) (moved u p q i t c) l leaving what None (turn_at u l n fresh p i)
      (turn fresh ∙ (ap (λ j. local_act p.id o (node_of p).state i s j (Some (placed (forget y)))) m ∙ (acted k is.0 (placed (forget y))
      ∙ ap₂ (λ (f : Option Error) (z : What). N.Acts z None (put_state (node_of p).state i s (record (placed (forget y)) { fault = f }))) (sym fault) (sym w))))
      (quiet_cells u l leaving p set i h t refl))
    where
      acted : (k : ℕ) → 0 < k → (y : Placed) → local_act p.id o (node_of p).state i (slot_at p i) k (Some y) ≡ N.Acts (W.Step (L.Local o) k) None (put_state (node_of p).state i (slot_at p i) y)
      acted zero h y = absurd (omega arith)
      acted (suc k) h y = refl
