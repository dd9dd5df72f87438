-- Small changes of a machine and of the configuration that it represents, from which the events are built.
use Rattle.std.proofs.Common.{◌≡◌, ◌≢◌, ◌⊎◌, inl, inr, refl, sym, ap, subst, ◌∙◌, ℕ, ◌≤◌, ◌==◌, List, ◌∷◌, length, Some}
use Rattle.std.specs.Prelude.{slice_get}
use Rattle.std.specs.Ordering.{nat_cmp}
use Rattle.std.specs.FinMap.{find}
use Rattle.run_types.specs.declared.types.Placement.{Placement}
use Rattle.run_types.specs.Tables.{Pair, pair_cmp, list_at, put_list, Each}
use Rattle.run_types.specs.LinkTables.{push_list}
use Rattle.run_types.proofs.Laws.{decide, find_put_same, find_put_other, each_map, pushed_sorted, listed_sorted}
use Rattle.mesh_semantics.specs.Language.{Language}
use Rattle.mesh_semantics.specs.Config.{Config, object_of, put_object}
use Rattle.run_types.specs.Paths.{under, on_link, put_last, move_head}
use Rattle.mesh_semantics.specs.Delay.{Arrival, Holding, Delay, arrived_at, held, made_by}
use Rattle.mesh_semantics.specs.NumberedPackets.{NumberedPacket}
use Rattle.run_types.specs.ObjectNames.{node_of, slot_of}
use Rattle.node_semantics.specs.Node.{Slot, NodeState, set_at}
use Rattle.node_semantics.specs.Machine.{Machine}
use Rattle.node_semantics.specs.StandsFor.{slot_at, request_of, HasSlot, PacketFits, MachineStandsFor, CountsMade}
use Rattle.node_semantics.proofs.NamesAndSlots.{set_set, set_length, elsewhere, before, after, changed_here, changed_there}
use Rattle.node_semantics.proofs.KeptNumbers.{Same, same_slot, fits_kept}
use Rattle.node_semantics.proofs.NamesAfterChange.{Spot, spot, Refers, refers_any, Any, But, spot_kept, spot_same, link_kept}
use Rattle.node_semantics.proofs.PostedLinks.{posted_links, posted_each, moved_links, moved_each}
use Rattle.node_semantics.proofs.StandsForParts.{assemble}

module _ {S : Type 0} (g : Language S) (l : Placement) where
  -- two changes of one node are one
  pub chain : (m : Machine S) (n : ℕ) (x y : NodeState S) (links : List (Pair × List NumberedPacket)) (c : Config S) (d : Delay)
      → MachineStandsFor g l (record m { nodes = set_at (set_at m.nodes n x) n y; links = links }) c d → MachineStandsFor g l (record m { nodes = set_at m.nodes n y; links = links }) c d
  chain m n x y links c d h = subst (λ ns. MachineStandsFor g l (record m { nodes = ns; links = links }) c d) (set_set m.nodes n x y) h

  -- what is known of packets does not look at links
  relinked : (m : Machine S) (links : List (Pair × List NumberedPacket)) (es : List NumberedPacket) → Each (PacketFits m) es → Each (PacketFits (record m { links = links })) es
  relinked m links es h = each_map _ _ (λ e f. fits_kept m (record m { links = links }) e (λ q i. record { request = refl; goal = refl }) (λ q z. z) f) es h

  module _ (m : Machine S) (c : Config S) (d : Delay) (st : MachineStandsFor g l m c d) where
    -- a packet is put last on a link
    pub post_stands : (k : Pair) (e : NumberedPacket) → PacketFits m e
        → MachineStandsFor g l (record m { links = push_list pair_cmp k e m.links }) c (record d { links = put_last k e.packet d.links })
    post_stands k e h = record {
      nodes = st.nodes;
      few = st.few;
      named = st.named;
      links = posted_links m.links d.links st.links k e;
      in_order = pushed_sorted m.links k e st.in_order;
      last = st.last;
      made = st.made;
      distinct = st.distinct;
      on_links = λ j. relinked m (push_list pair_cmp k e m.links) _ (posted_each m.links d.links st.links k e (PacketFits m) st.on_links h j);
      in_mailboxes = st.in_mailboxes;
      in_callers = st.in_callers;
    }

    -- the head leaves a link
    module _ (k : Pair) (e : NumberedPacket) (rest : List NumberedPacket) (head : list_at pair_cmp k m.links ≡ e ∷ rest) where
      pub head_fits : PacketFits m e
      head_fits = (moved_each m.links d.links st.links k e rest head (PacketFits m) st.on_links).0

      pub head_stands : MachineStandsFor g l (record m { links = put_list pair_cmp k rest m.links }) c (record d { links = move_head k d.links })
      head_stands = record {
        nodes = st.nodes;
        few = st.few;
        named = st.named;
        links = moved_links m.links d.links st.links k e rest head;
        in_order = listed_sorted m.links k rest st.in_order;
        last = st.last;
        made = st.made;
        distinct = st.distinct;
        on_links = λ j. relinked m (put_list pair_cmp k rest m.links) _ ((moved_each m.links d.links st.links k e rest head (PacketFits m) st.on_links).1 j);
        in_mailboxes = st.in_mailboxes;
        in_callers = st.in_callers;
      }

    -- an object changes and with it what it waits for; its slot stays
    pub object_stands : (o : ℕ) (y : S) (h : List (ℕ × Holding)) → ((q : ℕ) → q ≢ o → find nat_cmp q h ≡ held d q)
        → Spot g m o (slot_at m o) (Some y) (find nat_cmp o h) (arrived_at d o) → MachineStandsFor g l m (put_object c o y) (record d { holding = h })
    object_stands o y h others mine = record {
      nodes = st.nodes;
      few = st.few;
      named = λ q. (spots q (decide q o)).0;
      links = st.links;
      in_order = st.in_order;
      last = st.last;
      made = st.made;
      distinct = st.distinct;
      on_links = st.on_links;
      in_mailboxes = st.in_mailboxes;
      in_callers = λ q. (spots q (decide q o)).2;
    }
      where
        here : Spot g m o (slot_at m o) (object_of (put_object c o y) o) (find nat_cmp o h) (arrived_at d o)
        here = spot_same g m o refl (find_put_same o y c.objects) refl refl mine

        spots : (q : ℕ) → (q ≡ o) ⊎ (q ≢ o) → Spot g m q (slot_at m q) (object_of (put_object c o y) q) (find nat_cmp q h) (arrived_at d q)
        spots q (inl e) = subst (λ b. Spot g m b (slot_at m b) (object_of (put_object c o y) b) (find nat_cmp b h) (arrived_at d b)) (sym e) here
        spots q (inr e) = spot_same g m q refl (find_put_other q o y c.objects e) (others q e) refl (spot g l m c d st q)

    module _ (n : ℕ) (x : NodeState S) (node : slice_get m.nodes n ≡ Some x) where
      -- something of a node changes that is not in its slots
      pub aside_stands : (x' : NodeState S) (last' : List (ℕ × ℕ)) (made' : List (Pair × ℕ)) → x'.slots ≡ x.slots
          → (x'.last ≡ find nat_cmp n last') → ((b : ℕ) → b ≢ n → find nat_cmp b last' ≡ find nat_cmp b d.last)
          → CountsMade g x' (record d { made = made' }) n → ((b k : ℕ) → b ≢ n → made_by (record d { made = made' }) b k ≡ made_by d b k)
          → MachineStandsFor g l (record m { nodes = set_at m.nodes n x'; links = m.links }) c (record d { last = last'; made = made' })
      aside_stands x' last' made' e last last_else made made_else =
          assemble g l m c d st n x node x' m.links c d' (subst (λ z. length z ≤ 65536) (sym e) (st.few n x node)) last last_else made made_else
          (λ q. spot_same g m' q (slots q) refl refl refl (spot_kept g m m' Any keep q (slot_at m q) (object_of c q) (held d q) (arrived_at d q) (r.in_boxes q) (λ y a i j. tt) (spot g l m c d st q)))
          st.links st.in_order
          (λ z. link_kept g m m' Any keep (list_at pair_cmp z m.links) (on_link d.links z) (st.links z) (r.on_links z) (λ q h. (h.0, slots q ∙ h.1)) (st.on_links z))
          (λ a b k i j f. st.distinct a b k i (sym (keep a tt).request ∙ j) (sym (keep b tt).request ∙ f))
        where
          m' : Machine S
          m' = record m { nodes = set_at m.nodes n x'; links = m.links }

          d' : Delay
          d' = record d { last = last'; made = made' }

          slots : (q : ℕ) → slot_at m' q ≡ slot_at m q
          slots q = by (decide (node_of q) n)
            where
              by : (node_of q ≡ n) ⊎ (node_of q ≢ n) → slot_at m' q ≡ slot_at m q
              by (inl i) = after m m' n x x' node refl q i ∙ ap (λ ss. slice_get ss (slot_of q)) e ∙ sym (before m m' n x x' node refl q i)
              by (inr i) = elsewhere m m' n x x' node refl q i

          keep : (q : ℕ) → Any q → Same m m' q
          keep q z = same_slot m m' q (slots q)

          r : Refers g Any c d
          r = refers_any g c d

      -- a slot changes, and with it its object, what this waits for and what has arrived for it
      module _ (o : ℕ) (own : node_of o ≡ n) (s s' : Slot S) (here : slot_at m o ≡ Some s) where
        abbrev pub xₛ : NodeState S
        xₛ = record x { slots = set_at x.slots (slot_of o) s' }

        abbrev pub mₛ : Machine S
        mₛ = record m { nodes = set_at m.nodes n xₛ; links = m.links }

        pub slot_here : slot_at mₛ o ≡ Some s'
        slot_here = changed_here m mₛ n x xₛ node refl o own s s' here refl

        pub slot_there : (q : ℕ) → q ≢ o → slot_at mₛ q ≡ slot_at m q
        slot_there = changed_there m mₛ n x xₛ node refl o own s s' here refl

        pub slot_grow : (q : ℕ) → HasSlot m q → HasSlot mₛ q
        slot_grow q h = by (decide q o)
          where
            by : (q ≡ o) ⊎ (q ≢ o) → HasSlot mₛ q
            by (inl e) = (s', ap (slot_at mₛ) e ∙ slot_here)
            by (inr e) = (h.0, slot_there q e ∙ h.1)

        -- where the request and the goal stay
        pub slot_keeps : s'.request ≡ s.request → s'.goal ≡ s.goal → (q : ℕ) → Same m mₛ q
        slot_keeps e f q = by (decide q o)
          where
            by : (q ≡ o) ⊎ (q ≢ o) → Same m mₛ q
            by (inl z) =
                let a : slot_at mₛ q ≡ Some s' = ap (slot_at mₛ) z ∙ slot_here in
                let b : slot_at m q ≡ Some s = ap (slot_at m) z ∙ here in
                record { request = rw (a, b) e; goal = rw (a, b) (ap Some f) }
            by (inr z) = same_slot m mₛ q (slot_there q z)

        -- those of others stay
        pub others_keep : (q : ℕ) → But o q → Same m mₛ q
        others_keep q e = same_slot m mₛ q (slot_there q e)

        pub slot_stands : (c' : Config S) (h : List (ℕ × Holding)) (box : List (ℕ × Arrival))
            → ((q : ℕ) → q ≢ o → object_of c' q ≡ object_of c q) → ((q : ℕ) → q ≢ o → find nat_cmp q h ≡ held d q)
            → ((q : ℕ) → q ≢ o → under (λ r. r == q) box ≡ arrived_at d q)
            → (K : ℕ → Type 0) → ((q : ℕ) → K q → Same m mₛ q) → Refers g K c' d
            → Spot g mₛ o (Some s') (object_of c' o) (find nat_cmp o h) (under (λ r. r == o) box)
            → ((a b k : ℕ) → node_of a ≡ node_of b → request_of mₛ a ≡ Some k → request_of mₛ b ≡ Some k → a ≡ b)
            → MachineStandsFor g l mₛ c' (record d { holding = h; arrived = box })
        slot_stands c' h box objects holdings boxes K keep r mine distinct =
            assemble g l m c d st n x node xₛ m.links c' d' (subst (λ z. z ≤ 65536) (sym (set_length x.slots (slot_of o) s')) (st.few n x node))
            (st.last n x node) (λ b e. refl) (st.made n x node) (λ b k e. refl) (λ q. spots q (decide q o)) st.links st.in_order
            (λ z. link_kept g m mₛ K keep (list_at pair_cmp z m.links) (on_link d.links z) (st.links z) (r.on_links z) slot_grow (st.on_links z)) distinct
          where
            d' : Delay
            d' = record d { holding = h; arrived = box }

            spot_o : Spot g mₛ o (slot_at mₛ o) (object_of c' o) (held d' o) (arrived_at d' o)
            spot_o = spot_same g mₛ o slot_here refl refl refl mine

            spots : (q : ℕ) → (q ≡ o) ⊎ (q ≢ o) → Spot g mₛ q (slot_at mₛ q) (object_of c' q) (held d' q) (arrived_at d' q)
            spots q (inl e) = subst (λ b. Spot g mₛ b (slot_at mₛ b) (object_of c' b) (held d' b) (arrived_at d' b)) (sym e) spot_o
            spots q (inr e) = spot_same g mₛ q (slot_there q e) (objects q e) (holdings q e) (boxes q e)
                (spot_kept g m mₛ K keep q (slot_at m q) (object_of c q) (held d q) (arrived_at d q) (r.in_boxes q)
                (λ y b f j. r.in_callers q y b (objects q e ∙ f) j) (spot g l m c d st q))

        pub still_distinct : ((q k : ℕ) → request_of mₛ q ≡ Some k → request_of m q ≡ Some k)
            → (a b k : ℕ) → node_of a ≡ node_of b → request_of mₛ a ≡ Some k → request_of mₛ b ≡ Some k → a ≡ b
        still_distinct f a b k e i j = st.distinct a b k e (f a k i) (f b k j)
