-- A turn of one object, before the limits of its node are tested: its obligations, and the turns that change this
-- object alone.
use Rattle.std.proofs.Common.{◌≡◌, ◌≢◌, ◌⊎◌, inl, inr, refl, sym, ap, subst, ◌∙◌, ℕ, ◌<◌, ◌≤◌, List, length, Some, None, true}
use Rattle.std.specs.Prelude.{slice_get}
use Rattle.std.specs.Ordering.{nat_cmp}
use Rattle.std.specs.FinMap.{find}
use Rattle.run_types.specs.declared.types.Item.{Item}
use Rattle.run_types.specs.declared.types.Error.{Error}
use Rattle.run_types.specs.declared.types.Label.{Label}
use Rattle.run_types.specs.declared.types.Label.TheVariants as L
use Rattle.run_types.specs.declared.types.What.TheVariants as Wt
use Rattle.run_types.specs.declared.types.Placement.{Placement}
use Rattle.run_types.specs.Tables.{Pair, pair_cmp, list_at, Each}
use Rattle.run_types.proofs.Laws.{decide, find_put_same, find_put_other, item_itself, error_itself}
use Rattle.mesh_semantics.proofs.Laws.{runs}
use Rattle.mesh_semantics.specs.Kind as K
use Rattle.mesh_semantics.specs.Kind.{Kind, Alternative}
use Rattle.mesh_semantics.specs.Language.{Language}
use Rattle.mesh_semantics.specs.Config.{Config, object_of, put_object}
use Rattle.mesh_semantics.specs.Moves.{move, can_pick, numbered}
use Rattle.run_types.specs.Paths.{on_link}
use Rattle.mesh_semantics.specs.Delay.{Delay, arrived_at, held, stepped_last}
use Rattle.mesh_semantics.specs.NumberedPackets.{NumberedPacket}
use Rattle.run_types.specs.ObjectNames.{node_of, slot_of}
use Rattle.mesh_semantics.specs.Act as A
use Rattle.mesh_semantics.specs.Act.{Acted, labelled, shows}
use Rattle.mesh_semantics.specs.Sound.{IsSound}
use Rattle.mesh_semantics.specs.Lawful.{Lawful}
use Rattle.node_semantics.specs.Node as N
use Rattle.node_semantics.specs.Node.{Slot, NumberedArrival, NodeState, NodeActed, set_at, name_at, put_state, arrivals}
use Rattle.node_semantics.specs.Machine.{Machine, post_packet}
use Rattle.mesh_semantics.specs.Requests.{Requests}
use Rattle.node_semantics.specs.StandsFor.{slot_at, Free, HasSlot, PacketFits, AreNumbersOf, MachineStandsFor}
use Rattle.node_semantics.proofs.NamesAndSlots.{set_length, name_node, name_slot, changed_here, changed_there}
use Rattle.node_semantics.proofs.KeptNumbers.{Same, same_slot}
use Rattle.node_semantics.proofs.NamesAfterChange.{Spot, spot, Refers, refers_any, Any, spot_kept, spot_same, link_kept, box_kept, served_kept}
use Rattle.node_semantics.proofs.StandsForParts.{assemble, fewer}

-- a node and a configuration show the same, and the machine then stands for what is after it
abbrev pub Row : {S : Type 0} → Language S → (Config S → Type 0) → Placement → Machine S → ℕ → NodeActed S → Acted S → Type 0
Row g W l m n (N.Acts w p y) (A.Acts v c d) = (w ≡ v) × W c × MachineStandsFor g l (record m { nodes = set_at m.nodes n y; links = post_packet l n p m.links }) c d
Row g W l m n (N.Acts w p y) (A.Full j b) = ⊥
Row g W l m n (N.Acts w p y) A.Nothing = ⊥
Row g W l m n (N.Full k) (A.Acts v c d) = ⊥
Row g W l m n (N.Full k) (A.Full j b) = (k ≡ j) × (n ≡ b)
Row g W l m n (N.Full k) A.Nothing = ⊥
Row g W l m n N.Idle a = ⊥
Row g W l m n N.Nothing a = ⊥

-- the object of the slot i of node n, which can step
pub record Turning {S : Type 0} (g : Language S) (W : Config S → Type 0) (l : Placement) (m : Machine S) (c : Config S) (d : Delay) (n i : ℕ) (x : NodeState S) (s : Slot S) : Type 0 where
  pub law : Lawful g W
  pub req : Requests g W
  pub sound : IsSound g W l c d
  pub st : MachineStandsFor g l m c d
  pub node : slice_get m.nodes n ≡ Some x
  pub small : i < 65536
  pub here : slot_at m (name_at n i) ≡ Some s
  pub there : object_of c (name_at n i) ≡ Some s.state
  pub free : held d (name_at n i) ≡ None
  pub idle : s.request ≡ None
  pub sane : g.fault s.state ≡ None

module _ {S : Type 0} (g : Language S) (W : Config S → Type 0) (l : Placement) (m : Machine S) (c : Config S) (d : Delay) (n i : ℕ) (x : NodeState S) (s : Slot S)
    (t : Turning g W l m c d n i x s) where
  abbrev pub o : ℕ
  o = name_at n i

  -- the node and the delay after the slot has stepped last
  abbrev pub x₁ : NodeState S
  x₁ = record x { last = Some i }

  abbrev pub d₁ : Delay
  d₁ = stepped_last n o d

  pub own : node_of o ≡ n
  own = name_node n i t.small

  pub last_is : x₁.last ≡ find nat_cmp n d₁.last
  last_is = sym (find_put_same n (slot_of o) d.last ∙ ap Some (name_slot n i t.small))

  pub last_else : (b : ℕ) → b ≢ n → find nat_cmp b d₁.last ≡ find nat_cmp b d.last
  last_else b e = find_put_other b n (slot_of o) d.last e

  pub spot_here : Spot g m o (Some s) (Some s.state) None (arrived_at d o)
  spot_here = spot_same g m o (sym t.here) (sym t.there) (sym t.free) refl (spot g l m c d t.st o)

  -- a change of this slot
  module _ (s' : Slot S) (x' : NodeState S) (set : x'.slots ≡ set_at x.slots i s') (links' : List (Pair × List NumberedPacket)) where
    abbrev pub m' : Machine S
    m' = record m { nodes = set_at m.nodes n x'; links = links' }

    set' : x'.slots ≡ set_at x.slots (slot_of o) s'
    set' = set ∙ ap (λ j. set_at x.slots j s') (sym (name_slot n i t.small))

    pub slot_here : slot_at m' o ≡ Some s'
    slot_here = changed_here m m' n x x' t.node refl o own s s' t.here set'

    pub slot_there : (q : ℕ) → q ≢ o → slot_at m' q ≡ slot_at m q
    slot_there = changed_there m m' n x x' t.node refl o own s s' t.here set'

    pub has_slots : (q : ℕ) → HasSlot m q → HasSlot m' q
    has_slots q h = by (decide q o)
      where
        by : (q ≡ o) ⊎ (q ≢ o) → HasSlot m' q
        by (inl e) = (s', ap (slot_at m') e ∙ slot_here)
        by (inr e) = (h.0, slot_there q e ∙ h.1)

    pub few : length x'.slots ≤ 65536
    few = subst (λ k. k ≤ 65536) (sym (ap length set ∙ set_length x.slots i s')) (t.st.few n x t.node)

    -- where its request and its goal stay
    pub requests_same : s'.request ≡ s.request → s'.goal ≡ s.goal → (q : ℕ) → Same m m' q
    requests_same e f q = by (decide q o)
      where
        by : (q ≡ o) ⊎ (q ≢ o) → Same m m' q
        by (inl z) =
            let a : slot_at m' q ≡ Some s' = ap (slot_at m') z ∙ slot_here in
            let b : slot_at m q ≡ Some s = ap (slot_at m) z ∙ t.here in
            record { request = rw (a, b) e; goal = rw (a, b) (ap Some f) }
        by (inr z) = same_slot m m' q (slot_there q z)

  -- the object becomes y and serves the same callers
  pub own_stands : (y : S) → g.callers y ≡ g.callers s.state → MachineStandsFor g l (record m { nodes = set_at m.nodes n (put_state x₁ i s y); links = m.links }) (put_object c o y) d₁
  own_stands y k = assemble g l m c d t.st n x t.node x' m.links c' d₁ (few s' x' refl m.links) last_is last_else
      (t.st.made n x t.node) (λ b z e. refl) (λ q. at q (decide q o)) t.st.links t.st.in_order on_links
      (fewer g l m c d t.st n x t.node x' m.links c' d₁ (λ q z e. sym (same q).request ∙ e))
    where
      s' : Slot S
      s' = record s { state = y }

      x' : NodeState S
      x' = put_state x₁ i s y

      c' : Config S
      c' = put_object c o y

      m₂ : Machine S
      m₂ = record m { nodes = set_at m.nodes n x'; links = m.links }

      same : (q : ℕ) → Same m m₂ q
      same = requests_same s' x' refl m.links refl refl

      keep : (q : ℕ) → Any q → Same m m₂ q
      keep q z = same q

      r : Refers g Any c d
      r = refers_any g c d

      on_links : (z : Pair) → Each (PacketFits m₂) (list_at pair_cmp z m.links)
      on_links z = link_kept g m m₂ Any keep (list_at pair_cmp z m.links) (on_link d.links z) (t.st.links z) (r.on_links z) (has_slots s' x' refl m.links) (t.st.on_links z)

      mine : Spot g m₂ o (slot_at m₂ o) (object_of c' o) (held d₁ o) (arrived_at d₁ o)
      mine = spot_same g m₂ o {s = Some s'} {x = Some y} {h = None} {b = arrived_at d o} (slot_here s' x' refl m.links) (find_put_same o y c.objects) t.free refl (
        record { state = Free t.idle refl; mailbox = spot_here.0.mailbox },
        box_kept g m m₂ Any keep s (arrived_at d o) spot_here.0.mailbox (r.in_boxes o) spot_here.1,
        subst (AreNumbersOf m₂ s.callers) (sym k) (served_kept g m m₂ Any keep s.callers (g.callers s.state) (λ q z. tt) spot_here.2),
      )

      at : (q : ℕ) → (q ≡ o) ⊎ (q ≢ o) → Spot g m₂ q (slot_at m₂ q) (object_of c' q) (held d₁ q) (arrived_at d₁ q)
      at q (inl e) = subst (λ z. Spot g m₂ z (slot_at m₂ z) (object_of c' z) (held d₁ z) (arrived_at d₁ z)) (sym e) mine
      at q (inr e) = spot_same g m₂ q (slot_there s' x' refl m.links q e) (find_put_other q o y c.objects e) refl refl
          (spot_kept g m m₂ Any keep q (slot_at m q) (object_of c q) (held d q) (arrived_at d q) (r.in_boxes q) (λ z a i j. tt) (spot g l m c d t.st q))

  -- a transition that changes this object alone
  pub own_row : (lab : Label) (times : ℕ) (y : S) → g.callers y ≡ g.callers s.state → move g c lab ≡ Some (put_object c o y)
      → Row g W l m n (N.Acts (Wt.Step lab times) None (put_state x₁ i s y)) (shows lab times d₁ (move g c lab))
  own_row lab times y k h = subst (λ z. Row g W l m n (N.Acts (Wt.Step lab times) None (put_state x₁ i s y)) (shows lab times d₁ z)) (sym h) (refl, t.law.kept c (put_object c o y) lab t.sound.state.typed h, own_stands y k)

  pub write_row : (item : Item) → g.kind o s.state ≡ K.Write item
      → Row g W l m n (N.Acts (Wt.Step (L.Write o item) 1) None (put_state x₁ i s (g.done s.state))) (labelled g c (L.Write o item) d₁)
  write_row item k = own_row (L.Write o item) 1 (g.done s.state) (t.req.done_callers c o s.state t.sound.state.typed t.there (rw k refl))
      (rw (runs g c o s.state t.there t.sane, k, item_itself item) refl)

  pub fault_row : (e : Error) → g.kind o s.state ≡ K.Fault e
      → Row g W l m n (N.Acts (Wt.Step (L.Fault o e) 1) None (put_state x₁ i s (g.faulted s.state e))) (labelled g c (L.Fault o e) d₁)
  fault_row e k = own_row (L.Fault o e) 1 (g.faulted s.state e) (t.req.faulted_callers c o s.state e t.sound.state.typed t.there k)
      (rw (runs g c o s.state t.there t.sane, k, error_itself e) refl)

  pub pick_row : (alts : List Alternative) (j : ℕ) → g.kind o s.state ≡ K.Select alts → can_pick (numbered alts j) ≡ true
      → Row g W l m n (N.Acts (Wt.Step (L.Pick o j) 1) None (put_state x₁ i s (g.picked o s.state j))) (labelled g c (L.Pick o j) d₁)
  pick_row alts j k h = own_row (L.Pick o j) 1 (g.picked o s.state j) (t.req.picked_callers c o s.state alts j t.sound.state.typed t.there k)
      (rw (runs g c o s.state t.there t.sane, k, h) refl)
