-- The counts of a node are those of the configuration that its machine represents, and so are its limits.
use Rattle.std.proofs.Common.{◌≡◌, refl, sym, ap, ap₂, subst, ◌∙◌, ℕ, ◌+◌, ◌-◌, ◌<◌, ◌≤◌, ◌==◌, List, [], ◌∷◌, length, Option, Some, None, arith}
use Rattle.std.specs.Prelude.{slice_get, sum_by, filter}
use Rattle.std.specs.Ordering.{nat_cmp}
use Rattle.std.specs.FinMap.{find}
use Rattle.std.proofs.lemmas.List.Sums.{sum_by-cons}
use Rattle.std.proofs.lemmas.Option.{slice_get_past, slice_get_within}
use Rattle.run_types.specs.declared.types.Placement.{Placement}
use Rattle.mesh_semantics.specs.Language.{Language}
use Rattle.mesh_semantics.specs.Config.{Config, object_of}
use Rattle.run_types.specs.Paths.{under}
use Rattle.mesh_semantics.specs.Delay.{Holding, Delay, arrived_at, held, cell_count}
use Rattle.run_types.specs.ObjectNames.{node_of, slot_of}
use Rattle.mesh_semantics.specs.Act.{object_count, frame_count}
use Rattle.mesh_semantics.specs.Lawful.{Lawful}
use Rattle.run_types.specs.Tables.{Each}
use Rattle.run_types.specs.LinkTables.{leaving}
use Rattle.node_semantics.specs.Node.{Slot, NodeState, name_at, arrivals, frames_in, message_count}
use Rattle.node_semantics.specs.Machine.{Machine}
use Rattle.mesh_semantics.specs.Requests.{Requests}
use Rattle.node_semantics.specs.StandsFor.{slot_at, Occupied, SlotStandsFor, Free, Served, Posted, Due, AtName, MachineStandsFor}
use Rattle.node_semantics.proofs.NamesAndSlots.{at_node, name_node, name_slot}
use Rattle.node_semantics.proofs.SlotsOfObjects.{Rows, rows, rows_count, Meets, at}
use Rattle.node_semantics.proofs.CellCounts.{mailboxes_count, leaving_count}

ones : {X : Type 0} (xs : List X) → length xs ≡ sum_by (λ x. 1) xs
ones [] = refl
ones (x ∷ xs) = let a = ones xs in let b = sum_by-cons (λ y. 1) x xs in omega (arith, a, b)

module _ {S : Type 0} (g : Language S) (W : Config S → Type 0) (law : Lawful g W) (req : Requests g W) (l : Placement) (m : Machine S) (c : Config S) (d : Delay)
    (st : MachineStandsFor g l m c d) (w : W c) (n : ℕ) (x : NodeState S) (node : slice_get m.nodes n ≡ Some x) where
  -- an object in its slot
  pub record Here (q : ℕ) (s : Slot S) (y : S) : Type 0 where
    pub slot : slot_at m q ≡ Some s
    pub object : object_of c q ≡ Some y
    pub stands : Occupied g q s y (held d q) (arrived_at d q)

  meets : (q : ℕ) (a : Option (Slot S)) (b : Option S) → slot_at m q ≡ a → object_of c q ≡ b → AtName g q a b (held d q) (arrived_at d q) → Meets Here q a b
  meets q None None i j h = tt
  meets q (Some s) (Some y) i j h = record { slot = i; object = j; stands = h }
  meets q None (Some y) i j h = absurd h
  meets q (Some s) None i j h = absurd h

  pub here : Rows Here n 0 (filter (at Here n) c.objects) x.slots
  here = rows Here n c.objects x.slots 0 (law.sorted c w) (let f = st.few n x node in omega (arith, f)) (low c.objects) look
    where
      low : (es : List (ℕ × S)) → Each (λ e. node_of e.0 ≡ n → 0 ≤ slot_of e.0) es
      low [] = tt
      low (e ∷ es) = ((λ h. omega arith), low es)

      look : (q : ℕ) → node_of q ≡ n → 0 ≤ slot_of q → Meets Here q (slice_get x.slots (slot_of q - 0)) (find nat_cmp q c.objects)
      look q e z =
          let k : slot_of q - 0 ≡ slot_of q = omega arith in
          let i : slot_at m q ≡ slice_get x.slots (slot_of q) = at_node m n x node q e in
          subst (λ a. Meets Here q a (object_of c q)) (i ∙ ap (slice_get x.slots) (sym k)) (meets q (slot_at m q) (object_of c q) refl refl (st.named q))

  pub objects_count : length x.slots ≡ object_count c n
  objects_count = ones x.slots ∙ sym (rows_count Here n (λ e. 1) (λ s. 1) (λ q s y h. refl) c.objects x.slots here)

  frames_same : (q : ℕ) (s : Slot S) (y : S) (h : Option Holding) → SlotStandsFor g q s y h → g.frames y ≡ g.frames s.state
  frames_same q s y None (Free a b) = ap g.frames (sym b)
  frames_same q s y None (Served b k args a i j) = ap g.frames (sym j) ∙ req.waiting_frames q s.state b k args i
  frames_same q s y (Some _) (Posted a b) = ap g.frames (sym b)
  frames_same q s y (Some _) (Due v a i j) = ap g.frames (sym j) ∙ req.given_frames q s.state v i

  pub frames_count : frames_in g x.slots ≡ frame_count g c n
  frames_count = sym (rows_count Here n (λ e. 1 + g.frames e.1) (λ s. 1 + g.frames s.state) (λ q s y h. ap (λ k. 1 + k) (frames_same q s y (held d q) h.stands.state)) c.objects x.slots here)

  pub cells_count : message_count x.slots + leaving m.links n ≡ cell_count d n
  cells_count = ap₂ (λ a b. a + b) (mailboxes_count n d.arrived x.slots (st.few n x node) inside outside) (leaving_count n m.links d.links st.in_order st.links)
    where
      inside : (j : ℕ) (s : Slot S) → slice_get x.slots j ≡ Some s → arrivals s.mailbox ≡ under (λ r. r == name_at n j) d.arrived
      inside j s e = by (object_of c q) (subst (λ z. AtName g q z (object_of c q) (held d q) (arrived_at d q)) at_q (st.named q))
        where
          small : j < 65536
          small = let a = slice_get_within x.slots j s e in let b = st.few n x node in omega (arith, a, b)

          q : ℕ
          q = name_at n j

          at_q : slot_at m q ≡ Some s
          at_q = at_node m n x node q (name_node n j small) ∙ ap (slice_get x.slots) (name_slot n j small) ∙ e

          by : (y : Option S) → AtName g q (Some s) y (held d q) (arrived_at d q) → arrivals s.mailbox ≡ arrived_at d q
          by None h = absurd h
          by (Some y) h = h.mailbox

      outside : (q : ℕ) → node_of q ≡ n → length x.slots ≤ slot_of q → under (λ r. r == q) d.arrived ≡ []
      outside q e f = by (object_of c q) (subst (λ z. AtName g q z (object_of c q) (held d q) (arrived_at d q)) (at_node m n x node q e ∙ slice_get_past x.slots (slot_of q) f) (st.named q))
        where
          by : (y : Option S) → AtName g q None y (held d q) (arrived_at d q) → arrived_at d q ≡ []
          by None h = h.1
          by (Some y) h = absurd h
