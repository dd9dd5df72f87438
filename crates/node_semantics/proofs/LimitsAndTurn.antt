-- A step within the limits of its node, and the object whose turn it is.
use Rattle.std.proofs.Common.{◌≡◌, refl, sym, ap, ap₂, subst, ◌∙◌, ℕ, ◌+◌, ◌<◌, ◌≤◌, ◌==◌, List, [], ◌∷◌, ◌++◌, length, Option, Some, None, is_none, Bool, true, false, ◌&&◌, if◌then◌else◌, nat_lt, arith}
use Rattle.std.specs.Prelude.{slice_get, filter}
use Rattle.std.specs.Ordering.{nat_cmp}
use Rattle.std.specs.FinMap.{find}
use Rattle.run_types.specs.declared.types.What.{What}
use Rattle.run_types.specs.declared.types.Placement.{Placement}
use Rattle.run_types.specs.Tables.{Pair, pair_cmp}
use Rattle.run_types.specs.LinkTables.{push_list, leaving}
use Rattle.run_types.proofs.Laws.{equals, first, pushed_sorted}
use Rattle.mesh_semantics.specs.Kind as K
use Rattle.mesh_semantics.specs.Kind.{Kind}
use Rattle.mesh_semantics.specs.Language.{Language}
use Rattle.mesh_semantics.specs.Config.{Config, object_of}
use Rattle.run_types.specs.Paths.{total, next, put_last}
use Rattle.mesh_semantics.specs.Delay.{Holding, Delay, arrived_at, held, cell_count}
use Rattle.mesh_semantics.specs.NumberedPackets.{NumberedPacket}
use Rattle.mesh_semantics.specs.Act as A
use Rattle.mesh_semantics.specs.Act.{Acted, within, object_count, frame_count, goal_node, is_ready, ready_at, turn_of, can_step, first_of}
use Rattle.std.specs.Option.{option_or}
use Rattle.mesh_semantics.specs.Lawful.{Lawful}
use Rattle.node_semantics.specs.Node as N
use Rattle.node_semantics.specs.Node.{Slot, NumberedArrival, NodeState, NodeActed, name_at, set_at, arrivals, frames_in, message_count, packet_count, within_node, can_go, ready_slots, slot_in_turn, placed}
use Rattle.node_semantics.specs.Machine.{Machine, post_packet, after_node}
use Rattle.mesh_semantics.specs.Requests.{Requests}
use Rattle.node_semantics.specs.StandsFor.{slot_at, SlotStandsFor, Free, Served, Posted, Due, IsOut, MachineStandsFor}
use Rattle.node_semantics.proofs.ActsAgree.{Agrees}
use Rattle.node_semantics.proofs.NamesAndSlots.{set_same, name_slot}
use Rattle.node_semantics.proofs.PostedLinks.{posted_links}
use Rattle.node_semantics.proofs.SlotsOfObjects.{Picks, Neither, Both, picks, filter_and, at}
use Rattle.node_semantics.proofs.CellCounts.{leaving_count}
use Rattle.node_semantics.proofs.NodeCounts.{Here, here, objects_count, frames_count, cells_count}
use Rattle.node_semantics.proofs.OneObjectTurns.{Row}

total_last : {E : Type 0} (f : E → ℕ) (xs : List E) (y : E) → total f (xs ++ y ∷ []) ≡ total f xs + f y
total_last f [] y = omega arith
total_last f (x ∷ xs) y = ap (λ n. f x + n) (total_last f xs y) ∙ (omega arith)

module _ {S : Type 0} (g : Language S) (W : Config S → Type 0) (law : Lawful g W) (req : Requests g W) (l : Placement) where
  module _ (m : Machine S) (c : Config S) (d : Delay) (st : MachineStandsFor g l m c d) (n : ℕ) (x : NodeState S) (node : slice_get m.nodes n ≡ Some x) where
    pub leaves : (p : Option NumberedPacket) → leaving (post_packet l n p m.links) n ≡ leaving m.links n + packet_count p
    leaves None = omega arith
    leaves (Some e) =
        let key : Pair = (n, next l n (goal_node e.packet)) in
        let a = leaving_count n (push_list pair_cmp (n, next l n (goal_node e.packet)) e m.links) (put_last (n, next l n (goal_node e.packet)) e.packet d.links)
        (pushed_sorted m.links (n, next l n (goal_node e.packet)) e st.in_order) (posted_links m.links d.links st.links (n, next l n (goal_node e.packet)) e) in
        let b = leaving_count n m.links d.links st.in_order st.links in
        let z : (if n == n then 1 else 0) ≡ 1 = rw (equals n) refl in
        a ∙ total_last (λ e. if e.0.0 == n then 1 else 0) d.links ((n, next l n (goal_node e.packet)), e.packet) ∙ ap₂ (λ i j. i + j) (sym b) z

    within_acts : (w : What) (p : Option NumberedPacket) (y : NodeState S) (c' : Config S) (d' : Delay) → W c'
        → MachineStandsFor g l (record m { nodes = set_at m.nodes n y; links = post_packet l n p m.links }) c' d'
        → Agrees g l (after_node l n m (within_node g l (leaving m.links n) (N.Acts w p y))) (within g l n (A.Acts w c' d'))
    within_acts w p y c' d' k h = by (nat_lt l.objects (length y.slots)) (nat_lt l.frames (frames_in g y.slots)) (nat_lt l.cells (message_count y.slots + leaving m.links n + packet_count p)) refl refl refl
      where
        m' : Machine S
        m' = record m { nodes = set_at m.nodes n y; links = post_packet l n p m.links }

        node' : slice_get m'.nodes n ≡ Some y
        node' = set_same m.nodes n x y node

        objects : object_count c' n ≡ length y.slots
        objects = sym (objects_count g W law req l m' c' d' h k n y node')

        frames : frame_count g c' n ≡ frames_in g y.slots
        frames = sym (frames_count g W law req l m' c' d' h k n y node')

        cells : cell_count d' n ≡ message_count y.slots + leaving m.links n + packet_count p
        cells = let a = leaves p in let b = cells_count g W law req l m' c' d' h k n y node' in omega (arith, a, b)

        by : (t u v : Bool) → nat_lt l.objects (length y.slots) ≡ t → nat_lt l.frames (frames_in g y.slots) ≡ u
            → nat_lt l.cells (message_count y.slots + leaving m.links n + packet_count p) ≡ v
            → Agrees g l (after_node l n m (within_node g l (leaving m.links n) (N.Acts w p y))) (within g l n (A.Acts w c' d'))
        by true u v i j z = rw (objects, i) (refl, refl)
        by false true v i j z = rw (objects, i, frames, j) (refl, refl)
        by false false true i j z = rw (objects, i, frames, j, cells, z) (refl, refl)
        by false false false i j z = rw (objects, i, frames, j, cells, z) (refl, h)

    pub within_row : (r : NodeActed S) (a : Acted S) → Row g W l m n r a → Agrees g l (after_node l n m (within_node g l (leaving m.links n) r)) (within g l n a)
    within_row (N.Acts w p y) (A.Acts v c' d') h =
        subst (λ z. Agrees g l (after_node l n m (within_node g l (leaving m.links n) (N.Acts w p y))) (within g l n (A.Acts z c' d'))) h.0 (within_acts w p y c' d' h.1 h.2)
    within_row (N.Full k) (A.Full j b) h = h
    within_row (N.Acts w p y) (A.Full j b) h = absurd h
    within_row (N.Acts w p y) A.Nothing h = absurd h
    within_row (N.Full k) (A.Acts v c' d') h = absurd h
    within_row (N.Full k) A.Nothing h = absurd h
    within_row N.Idle a h = absurd h
    within_row N.Nothing a h = absurd h

    -- the object whose turn it is
    module _ (w : W c) where
      abbrev R : ℕ → Slot S → S → Type 0
      R = Here g W law req l m c d st w n x node

      ready_alike : (j : ℕ) (s : Slot S) (y : S) (h : Option Holding) → held d (name_at n j) ≡ h → arrivals s.mailbox ≡ arrived_at d (name_at n j)
          → SlotStandsFor g (name_at n j) s y h → is_ready g d (name_at n j) y ≡ can_go g n (j, s)
      ready_alike j s y None e b (Free r i) = rw (e, r, i, b) refl
      ready_alike j s y None e b (Served k i args r a z) =
          let kind : g.kind (name_at n j) y ≡ K.Waits k i = ap (g.kind (name_at n j)) (sym z) ∙ req.waiting_kind (name_at n j) s.state k i args a in
          rw (e, r.1, kind) (by (is_none (g.fault y)))
        where
          by : (t : Bool) → (true && t && false) ≡ false
          by true = refl
          by false = refl
      ready_alike j s y (Some h) e b (Posted r i) = rw (e, r.1) refl
      ready_alike j s y (Some h) e b (Due v r a i) = rw (e, r.1) refl

      -- the object whose turn it is, with its slot, or none on either side
      pub data Chosen : Option (ℕ × S) → Option (ℕ × Slot S) → Type 0 where
        NoOne : Chosen None None
        One : (j : ℕ) (s : Slot S) → j < 65536 → slot_at m (name_at n j) ≡ Some s → object_of c (name_at n j) ≡ Some s.state → held d (name_at n j) ≡ None
            → can_go g n (j, s) ≡ true → Chosen (Some (name_at n j, s.state)) (Some (j, s))

      nothing_out : (o : Option ℕ) → is_none o ≡ true → IsOut o → ⊥
      nothing_out None h r = let z = r.1 in cc
      nothing_out (Some k) h r = cc

      choose : (Q : ℕ × Slot S → Bool) → ((e : ℕ × Slot S) → Q e ≡ true → can_go g n e ≡ true) → (a : Option (ℕ × S)) (b : Option (ℕ × Slot S)) → Picks R n Q a b → Chosen a b
      choose Q f None None Neither = NoOne
      choose Q f None (Some _) h = elim h [ ]
      choose Q f (Some _) None h = elim h [ ]
      choose Q f (Some _) (Some _) (Both j s y small r h) = by (held d (name_at n j)) refl r.stands.state
        where
          go : can_go g n (j, s) ≡ true
          go = f (j, s) h

          asks_nothing : is_none s.request ≡ true
          asks_nothing = first (is_none s.request) (is_none (g.fault s.state)) (first (is_none s.request && is_none (g.fault s.state)) (can_step (arrivals s.mailbox) (g.kind (name_at n j) s.state)) go)

          by : (z : Option Holding) → held d (name_at n j) ≡ z → SlotStandsFor g (name_at n j) s y z → Chosen (Some (name_at n j, y)) (Some (j, s))
          by None e (Free u v) = subst (λ (k : S). Chosen (Some (name_at n j, k)) (Some (j, s))) v (One j s small r.slot (r.object ∙ ap Some (sym v)) e go)
          by None e (Served b k args u v i) = absurd (nothing_out s.request asks_nothing u)
          by (Some z) e (Posted u v) = absurd (nothing_out s.request asks_nothing u)
          by (Some z) e (Due v u i k) = absurd (nothing_out s.request asks_nothing u)

      or_one : (a b : Option (ℕ × S)) (u v : Option (ℕ × Slot S)) → Chosen a u → Chosen b v → Chosen (option_or a b) (option_or u v)
      or_one None b None v NoOne h = h
      or_one None b (Some u) v k h = elim k [ ]
      or_one (Some a) b None v k h = elim k [ ]
      or_one (Some a) b (Some u) v (One j s i k p q r) h = One j s i k p q r

      alike : (j : ℕ) (s : Slot S) (y : S) → R (name_at n j) s y → is_ready g d (name_at n j) y ≡ can_go g n (j, s)
      alike j s y r = ready_alike j s y (held d (name_at n j)) refl r.stands.mailbox r.stands.state

      fits : 0 + length x.slots ≤ 65536
      fits = let f = st.few n x node in omega (arith, f)

      same_above : (j : ℕ) → j < 65536 → A.is_above (find nat_cmp n d.last) (name_at n j) ≡ N.comes_after x.last j
      same_above j small = ap (λ z. A.is_above z (name_at n j)) (sym (st.last n x node)) ∙ by x.last
        where
          by : (z : Option ℕ) → A.is_above z (name_at n j) ≡ N.comes_after z j
          by None = refl
          by (Some k) = ap (nat_lt k) (name_slot n j small)

      pub ready_is : ready_at g c d n ≡ filter (λ e. is_ready g d e.0 e.1) (filter (at R n) c.objects)
      ready_is = sym (filter_and (at R n) (λ e. is_ready g d e.0 e.1) c.objects)

      pub any_ready : Chosen (first_of (ready_at g c d n)) (first_of (ready_slots g n x))
      any_ready = choose (can_go g n) (λ e h. h) _ _ (subst (λ es. Picks R n (can_go g n) (first_of es) (first_of (ready_slots g n x))) (sym ready_is)
          (picks R n (λ e. is_ready g d e.0 e.1) (can_go g n) (λ j s y small r. alike j s y r) 0 (filter (at R n) c.objects) x.slots fits (here g W law req l m c d st w n x node)))

      abbrev above : ℕ × S → Bool
      above e = A.is_above (find nat_cmp n d.last) e.0

      abbrev above' : ℕ × Slot S → Bool
      above' e = N.comes_after x.last e.0

      next_ready : Chosen (first_of (filter above (ready_at g c d n))) (first_of (filter above' (ready_slots g n x)))
      next_ready = choose (λ e. can_go g n e && above' e) (λ e h. first (can_go g n e) (above' e) h) _ _
          (subst (λ (p : List (ℕ × S) × List (ℕ × Slot S)). Picks R n (λ e. can_go g n e && above' e) (first_of p.0) (first_of p.1))
          (λ t. (sym (ap (filter above) ready_is ∙ filter_and (λ e. is_ready g d e.0 e.1) above (filter (at R n) c.objects)) t, sym (filter_and (can_go g n) above' (placed 0 x.slots)) t))
          (picks R n (λ e. is_ready g d e.0 e.1 && above e) (λ e. can_go g n e && above' e)
          (λ j s y small r. ap₂ ◌&&◌ (alike j s y r) (same_above j small)) 0 (filter (at R n) c.objects) x.slots fits (here g W law req l m c d st w n x node)))

      pub chosen : Chosen (turn_of g c d n) (slot_in_turn g n x)
      chosen = or_one _ _ _ _ next_ready any_ready
