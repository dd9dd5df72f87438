-- The turn that returns a value: the caller's number is settled on the same node, and goes with a packet to another
-- one.
use Rattle.std.proofs.Common.{◌≡◌, ◌≢◌, ◌⊎◌, inl, inr, refl, sym, ap, ap₂, subst, ◌∙◌, ℕ, ◌<◌, ◌≤◌, ◌==◌, List, [], ◌∷◌, length, Option, Some, None, Bool, true, false, if◌then◌else◌, arith}
use Rattle.std.specs.Prelude.{slice_get}
use Rattle.std.specs.Ordering.{nat_cmp}
use Rattle.std.specs.FinMap.{put}
use Rattle.std.proofs.lemmas.Option.{slice_get_within}
use Rattle.run_types.specs.declared.types.Value.{Value}
use Rattle.run_types.specs.declared.types.Label.TheVariants as L
use Rattle.run_types.specs.declared.types.What.TheVariants as Wt
use Rattle.run_types.specs.declared.types.Placement.{Placement}
use Rattle.run_types.specs.Tables.{Pair, pair_cmp, list_at, Each}
use Rattle.run_types.specs.LinkTables.{push_list}
use Rattle.run_types.proofs.Laws.{decide, equal, equals, same_some, find_put_same, find_put_other, find_without_same, find_without_other, value_itself, pushed_sorted}
use Rattle.mesh_semantics.proofs.Laws.{runs}
use Rattle.mesh_semantics.specs.Kind as K
use Rattle.mesh_semantics.specs.Kind.{Kind, Alternative, returns, waits_on}
use Rattle.mesh_semantics.specs.Language.{Language}
use Rattle.mesh_semantics.specs.Config.{Config, object_of, put_object}
use Rattle.mesh_semantics.specs.Moves.{move}
use Rattle.run_types.specs.Paths.{next, on_link}
use Rattle.mesh_semantics.specs.Delay as D
use Rattle.mesh_semantics.specs.Delay.{Packet, Arrival, Holding, Delay, arrived_at, held, hold, free, post, made_by, stepped_last}
use Rattle.mesh_semantics.specs.NumberedPackets.{NumberedPacket}
use Rattle.run_types.specs.ObjectNames.{node_of, slot_of}
use Rattle.mesh_semantics.specs.Act.{shows, return_turn}
use Rattle.mesh_semantics.specs.Sound.{Owns, OwnedAt, entries}
use Rattle.run_types.specs.PathFacts.{In}
use Rattle.node_semantics.specs.Node.{Slot, NodeState, set_at, name_at, arrivals, settled, give_back, return_act}
use Rattle.node_semantics.specs.Machine.{Machine}
use Rattle.node_semantics.specs.StandsFor.{slot_at, request_of, request_in, SlotStandsFor, Free, Served, Due, HasSlot, PacketFits, IsNumberOf, AreNumbersOf, caller_of, MachineStandsFor}
use Rattle.node_semantics.proofs.NamesAndSlots.{set_same, set_set, set_length, name_node, name_slot, at_node, changed_here, changed_there}
use Rattle.node_semantics.proofs.KeptNumbers.{Same, same_slot, no_caller}
use Rattle.node_semantics.proofs.NamesAfterChange.{Spot, spot, Found, found, Refers, refers_any, refers_but, Any, But, spot_kept, spot_same, link_kept, box_kept, served_kept}
use Rattle.node_semantics.proofs.PostedLinks.{posted_links, posted_each}
use Rattle.node_semantics.proofs.SettledNumber.{settled_is, given_to}
use Rattle.node_semantics.proofs.StandsForParts.{assemble, fewer}
use Rattle.node_semantics.proofs.OneObjectTurns.{Row, Turning, x₁, d₁, last_is, last_else, spot_here, slot_here, slot_there, has_slots, requests_same, few}

module _ {S : Type 0} (g : Language S) (W : Config S → Type 0) (l : Placement) (m : Machine S) (c : Config S) (d : Delay) (n i : ℕ) (x : NodeState S) (s : Slot S)
    (t : Turning g W l m c d n i x s) where
  abbrev o : ℕ
  o = name_at n i

  -- an object at a wait on a node that stands for it
  record Waiter (k : ℕ) (number : ℕ) : Type 0 where
    state : S
    slot : Slot S
    b : ℕ
    method : ℕ
    args : List Value
    object : object_of c k ≡ Some state
    here : slot_at m k ≡ Some slot
    number_is : slot.request ≡ Some number
    held : held d k ≡ None
    entries : entries d k ≡ []
    sane : g.fault state ≡ None
    kind : g.kind k state ≡ K.Waits o method
    posted : g.kind k slot.state ≡ K.Send b method args
    waits : g.waiting slot.state b method ≡ state
    mailbox : arrivals slot.mailbox ≡ arrived_at d k
    mailbox_fit : Each (λ e. IsNumberOf m e.number (caller_of e.message)) slot.mailbox
    callers_fit : AreNumbersOf m slot.callers (g.callers state)

  module _ (k : ℕ) (v : Value) (kind : g.kind o s.state ≡ K.Return k v) where
    typed : W c
    typed = t.sound.state.typed

    split : g.callers s.state ≡ k ∷ g.callers (g.returned s.state)
    split = t.req.returned_callers c o s.state k v typed t.there kind

    -- the caller
    waiter : (number : ℕ) → request_of m k ≡ Some number → Waiter k number
    waiter number r = by (held d k) refl f.stands.state
      where
        w : (y : S) × (j : ℕ) × (object_of c k ≡ Some y) × (g.kind k y ≡ K.Waits o j)
        w = t.law.has_wait c o s.state k v typed t.there kind

        f : Found g l m c d t.st k w.0
        f = found g l m c d t.st k w.0 w.2

        number_is : f.slot.request ≡ Some number
        number_is = sym (ap request_in f.here) ∙ r

        owned : (h : Option Holding) → held d k ≡ h → OwnedAt g k (Some w.0) h (entries d k)
        owned h e = subst (λ (z : Option S). OwnedAt g k z h (entries d k)) w.2 (subst (λ (z : Option Holding). OwnedAt g k (object_of c k) z (entries d k)) e (t.sound.state.owned k))

        sane : (e : Option _) → g.fault w.0 ≡ e → g.fault w.0 ≡ None
        sane None i = i
        sane (Some e) i = absurd (let z : K.Waits o w.1 ≡ K.Fault e = sym w.3 ∙ t.law.fault_kind c k w.0 e typed w.2 i in cc)

        by : (h : Option Holding) → held d k ≡ h → SlotStandsFor g k f.slot w.0 h → Waiter k number
        by (Some D.Posted) e z = absurd (let q : Owns k (Some D.Posted) (K.Waits o w.1) (entries d k) = rw w.3 at (owned (Some D.Posted) e).0 in q)
        by (Some (D.Due u)) e z = absurd (let q : Owns k (Some (D.Due u)) (K.Waits o w.1) (entries d k) = rw w.3 at (owned (Some (D.Due u)) e).0 in cc)
        by None e (Free a b) = absurd (let q : None ≡ Some number = sym a ∙ number_is in cc)
        by None e (Served b j args a u q) =
            let z : K.Waits b j ≡ K.Waits o w.1 = sym (t.req.waiting_kind k f.slot.state b j args u) ∙ ap (g.kind k) q ∙ w.3 in
            let same : j ≡ w.1 = cc in
            record {
              state = w.0;
              slot = f.slot;
              b = b;
              method = w.1;
              args = args;
              object = w.2;
              here = f.here;
              number_is = number_is;
              held = e;
              entries = (owned None e).0;
              sane = sane (g.fault w.0) refl;
              kind = w.3;
              posted = subst (λ z. g.kind k f.slot.state ≡ K.Send b z args) same u;
              waits = subst (λ z. g.waiting f.slot.state b z ≡ w.0) same q;
              mailbox = f.stands.mailbox;
              mailbox_fit = f.mailbox;
              callers_fit = f.callers;
            }

    -- the caller with its number, and the numbers behind it
    module _ (number : ℕ) (ks : List ℕ) (r : request_of m k ≡ Some number) (behind : AreNumbersOf m ks (g.callers (g.returned s.state))) where
      w : Waiter k number
      w = waiter number r

      abbrev c' : Config S
      c' = put_object (put_object c o (g.returned s.state)) k (g.given w.state v)

      moved : move g c (L.Return o k v) ≡ Some c'
      moved = rw (runs g c o s.state t.there t.sane, runs g c k w.state w.object w.sane, kind, w.kind, equals k, value_itself v, equals o) refl

      typed' : W c'
      typed' = t.law.kept c c' (L.Return o k v) typed moved

      apart : o ≢ k
      apart e =
          let same : s.state ≡ w.state = same_some (sym t.there ∙ ap (object_of c) e ∙ w.object) in
          let z : K.Return k v ≡ K.Waits o w.method = sym kind ∙ ap₂ g.kind e same ∙ w.kind in cc

      given_is : g.given w.slot.state v ≡ g.given w.state v
      given_is = sym (t.req.waiting_given k w.slot.state w.b w.method w.args v w.posted) ∙ ap (λ z. g.given z v) w.waits

      callers_are : g.callers w.state ≡ g.callers (g.given w.state v)
      callers_are =
          ap g.callers (sym w.waits) ∙ t.req.waiting_callers k w.slot.state w.b w.method w.args w.posted
          ∙ sym (ap g.callers (sym given_is) ∙ t.req.given_callers k w.slot.state v (rw w.posted refl))

      at_k : object_of c' k ≡ Some (g.given w.state v)
      at_k = find_put_same k (g.given w.state v) (put nat_cmp o (g.returned s.state) c.objects)

      at_o : object_of c' o ≡ Some (g.returned s.state)
      at_o = find_put_other o k (g.given w.state v) (put nat_cmp o (g.returned s.state) c.objects) apart ∙ find_put_same o (g.returned s.state) c.objects

      at_other : (q : ℕ) → q ≢ o → q ≢ k → object_of c' q ≡ object_of c q
      at_other q e f = find_put_other q k (g.given w.state v) (put nat_cmp o (g.returned s.state) c.objects) f ∙ find_put_other q o (g.returned s.state) c.objects e

      not_served : (b : ℕ) (y : S) → object_of c' b ≡ Some y → In k (g.callers y) → ⊥
      not_served = no_caller g W t.req c' typed' k (g.given w.state v) at_k (t.law.given_back c o k w.method s.state w.state v typed t.there kind w.object w.kind).2

      abbrev s₁ : Slot S
      s₁ = record s { state = g.returned s.state; callers = ks }

      abbrev xₘ : NodeState S
      xₘ = record (x₁ g W l m c d n i x s t) { slots = set_at x.slots i s₁ }

      -- the caller is on the same node
      module _ (near : node_of k ≡ n) where
        abbrev m₁ : Machine S
        m₁ = record m { nodes = set_at m.nodes n xₘ; links = m.links }

        node₁ : slice_get m₁.nodes n ≡ Some xₘ
        node₁ = set_same m.nodes n x xₘ t.node

        abbrev x₂ : NodeState S
        x₂ = record xₘ { slots = settled g number v (set_at x.slots i s₁) }

        abbrev m₂ : Machine S
        m₂ = record m { nodes = set_at m.nodes n x₂; links = m.links }

        slot_o : slot_at m₁ o ≡ Some s₁
        slot_o = slot_here g W l m c d n i x s t s₁ xₘ refl m.links

        slot_q : (q : ℕ) → q ≢ o → slot_at m₁ q ≡ slot_at m q
        slot_q = slot_there g W l m c d n i x s t s₁ xₘ refl m.links

        slot_k : slot_at m₁ k ≡ Some w.slot
        slot_k = slot_q k (λ e. apart (sym e)) ∙ w.here

        one : (j : ℕ) (u : Slot S) → slice_get (set_at x.slots i s₁) j ≡ Some u → u.request ≡ Some number → j ≡ slot_of k
        one j u e f = by (decide q o)
          where
            j_small : j < 65536
            j_small = let a = slice_get_within (set_at x.slots i s₁) j u e in let b = set_length x.slots i s₁ in let z = t.st.few n x t.node in omega (arith, a, b, z)

            q : ℕ
            q = name_at n j

            at_q : slot_at m₁ q ≡ Some u
            at_q = at_node m₁ n xₘ node₁ q (name_node n j j_small) ∙ ap (slice_get (set_at x.slots i s₁)) (name_slot n j j_small) ∙ e

            by : (q ≡ o) ⊎ (q ≢ o) → j ≡ slot_of k
            by (inl z) = absurd (
                let a : s₁ ≡ u = same_some (sym slot_o ∙ ap (slot_at m₁) (sym z) ∙ at_q) in
                let b : None ≡ Some number = sym t.idle ∙ ap (λ (y : Slot S). y.request) a ∙ f in cc)
            by (inr z) =
                let a : request_of m q ≡ Some number = ap request_in (sym (slot_q q z) ∙ at_q) ∙ f in
                let b : q ≡ k = t.st.distinct q k number (name_node n j j_small ∙ sym near) a r in
                sym (name_slot n j j_small) ∙ ap slot_of b

        set : x₂.slots ≡ set_at xₘ.slots (slot_of k) (given_to g number v w.slot)
        set = settled_is g number v (set_at x.slots i s₁) (slot_of k) w.slot (sym (at_node m₁ n xₘ node₁ k near) ∙ slot_k) w.number_is one

        twice : m₂.nodes ≡ set_at m₁.nodes n x₂
        twice = sym (set_set m.nodes n xₘ x₂)

        now_k : slot_at m₂ k ≡ Some (given_to g number v w.slot)
        now_k = changed_here m₁ m₂ n xₘ x₂ node₁ twice k near w.slot (given_to g number v w.slot) slot_k set

        now_q : (q : ℕ) → q ≢ k → slot_at m₂ q ≡ slot_at m₁ q
        now_q = changed_there m₁ m₂ n xₘ x₂ node₁ twice k near w.slot (given_to g number v w.slot) slot_k set

        keep : (q : ℕ) → But k q → Same m m₂ q
        keep q e =
            let a = requests_same g W l m c d n i x s t s₁ xₘ refl m.links refl refl q in
            let b = same_slot m₁ m₂ q (now_q q e) in
            record { request = b.request ∙ a.request; goal = b.goal ∙ a.goal }

        refers : Refers g (But k) c' d
        refers = refers_but g c' d k w.entries not_served

        grow : (q : ℕ) → HasSlot m q → HasSlot m₂ q
        grow q h = by (decide q k)
          where
            by : (q ≡ k) ⊎ (q ≢ k) → HasSlot m₂ q
            by (inl e) = (given_to g number v w.slot, ap (slot_at m₂) e ∙ now_k)
            by (inr e) = let z = has_slots g W l m c d n i x s t s₁ xₘ refl m.links q h in (z.0, now_q q e ∙ z.1)

        abbrev d' : Delay
        d' = free k (d₁ g W l m c d n i x s t)

        callers_k : AreNumbersOf m₂ w.slot.callers (g.callers (g.given w.state v))
        callers_k =
            served_kept g m m₂ (But k) keep w.slot.callers (g.callers (g.given w.state v)) (λ q e. refers.in_callers k (g.given w.state v) q at_k e)
            (subst (AreNumbersOf m w.slot.callers) callers_are w.callers_fit)

        spot_k : Spot g m₂ k (slot_at m₂ k) (object_of c' k) (held d' k) (arrived_at d' k)
        spot_k = spot_same g m₂ k {s = Some (given_to g number v w.slot)} {x = Some (g.given w.state v)} {h = None} {b = arrived_at d k} now_k at_k (find_without_same k d.holding) refl (
          record { state = Free refl given_is; mailbox = w.mailbox },
          box_kept g m m₂ (But k) keep w.slot (arrived_at d k) w.mailbox (refers.in_boxes k) w.mailbox_fit,
          callers_k,
        )

        mine : Spot g m o (Some s) (Some s.state) None (arrived_at d o)
        mine = spot_here g W l m c d n i x s t

        spot_o : Spot g m₂ o (slot_at m₂ o) (object_of c' o) (held d' o) (arrived_at d' o)
        spot_o = spot_same g m₂ o {s = Some s₁} {x = Some (g.returned s.state)} {h = None} {b = arrived_at d o}
            (now_q o apart ∙ slot_o) at_o (find_without_other o k d.holding apart ∙ t.free) refl (
              record { state = Free t.idle refl; mailbox = mine.0.mailbox },
              box_kept g m m₂ (But k) keep s (arrived_at d o) mine.0.mailbox (refers.in_boxes o) mine.1,
              served_kept g m m₂ (But k) keep ks (g.callers (g.returned s.state)) (λ q e. refers.in_callers o (g.returned s.state) q at_o e) behind,
            )

        spots : (q : ℕ) → Spot g m₂ q (slot_at m₂ q) (object_of c' q) (held d' q) (arrived_at d' q)
        spots q = by (decide q k) (decide q o)
          where
            by : (q ≡ k) ⊎ (q ≢ k) → (q ≡ o) ⊎ (q ≢ o) → Spot g m₂ q (slot_at m₂ q) (object_of c' q) (held d' q) (arrived_at d' q)
            by (inl e) z = subst (λ b. Spot g m₂ b (slot_at m₂ b) (object_of c' b) (held d' b) (arrived_at d' b)) (sym e) spot_k
            by (inr e) (inl z) = subst (λ b. Spot g m₂ b (slot_at m₂ b) (object_of c' b) (held d' b) (arrived_at d' b)) (sym z) spot_o
            by (inr e) (inr z) = spot_same g m₂ q (now_q q e ∙ slot_q q z) (at_other q z e) (find_without_other q k d.holding e) refl
                (spot_kept g m m₂ (But k) keep q (slot_at m q) (object_of c q) (held d q) (arrived_at d q) (refers.in_boxes q)
                (λ y b f j. refers.in_callers q y b (at_other q z e ∙ f) j) (spot g l m c d t.st q))

        near_stands : MachineStandsFor g l m₂ c' d'
        near_stands = assemble g l m c d t.st n x t.node x₂ m.links c' d'
            (subst (λ z. z ≤ 65536) (sym (ap length set ∙ set_length xₘ.slots (slot_of k) (given_to g number v w.slot))) (few g W l m c d n i x s t s₁ xₘ refl m.links))
            (last_is g W l m c d n i x s t) (last_else g W l m c d n i x s t)
            (t.st.made n x t.node) (λ b z e. refl) spots t.st.links t.st.in_order
            (λ z. link_kept g m m₂ (But k) keep (list_at pair_cmp z m.links) (on_link d.links z) (t.st.links z) (refers.on_links z) grow (t.st.on_links z))
            (fewer g l m c d t.st n x t.node x₂ m.links c' d' still)
          where
            still : (q z : ℕ) → request_of m₂ q ≡ Some z → request_of m q ≡ Some z
            still q z e = by (decide q k)
              where
                by : (q ≡ k) ⊎ (q ≢ k) → request_of m q ≡ Some z
                by (inl f) = absurd (let a : request_of m₂ k ≡ Some z = subst (λ b. request_of m₂ b ≡ Some z) f e in let b : None ≡ Some z = sym (ap request_in now_k) ∙ a in cc)
                by (inr f) = sym (keep q f).request ∙ e

      -- the caller is on another node
      module _ (far : node_of k ≢ n) where
        abbrev e : NumberedPacket
        e = record { number = Some number; packet = D.Result k v }

        abbrev key : Pair
        key = (n, next l n (node_of k))

        abbrev links' : List (Pair × List NumberedPacket)
        links' = push_list pair_cmp key e m.links

        abbrev m₃ : Machine S
        m₃ = record m { nodes = set_at m.nodes n xₘ; links = links' }

        abbrev e' : Delay
        e' = hold k (D.Due v) (post l n (node_of k) (D.Result k v) (d₁ g W l m c d n i x s t))

        keep' : (q : ℕ) → Any q → Same m m₃ q
        keep' q z = requests_same g W l m c d n i x s t s₁ xₘ refl links' refl refl q

        any : Refers g Any c d
        any = refers_any g c d

        slot_o' : slot_at m₃ o ≡ Some s₁
        slot_o' = slot_here g W l m c d n i x s t s₁ xₘ refl links'

        slot_q' : (q : ℕ) → q ≢ o → slot_at m₃ q ≡ slot_at m q
        slot_q' = slot_there g W l m c d n i x s t s₁ xₘ refl links'

        apart' : k ≢ o
        apart' z = apart (sym z)

        far_k : Spot g m₃ k (slot_at m₃ k) (object_of c' k) (held e' k) (arrived_at e' k)
        far_k = spot_same g m₃ k {s = Some w.slot} {x = Some (g.given w.state v)} {h = Some (D.Due v)} {b = arrived_at d k}
            (slot_q' k apart' ∙ w.here) at_k (find_put_same k (D.Due v) d.holding) refl (
              record { state = Due v (number, w.number_is) (rw w.posted refl) given_is; mailbox = w.mailbox },
              box_kept g m m₃ Any keep' w.slot (arrived_at d k) w.mailbox (any.in_boxes k) w.mailbox_fit,
              served_kept g m m₃ Any keep' w.slot.callers (g.callers (g.given w.state v)) (λ q z. tt) (subst (AreNumbersOf m w.slot.callers) callers_are w.callers_fit),
            )

        mine' : Spot g m o (Some s) (Some s.state) None (arrived_at d o)
        mine' = spot_here g W l m c d n i x s t

        far_o : Spot g m₃ o (slot_at m₃ o) (object_of c' o) (held e' o) (arrived_at e' o)
        far_o = spot_same g m₃ o {s = Some s₁} {x = Some (g.returned s.state)} {h = None} {b = arrived_at d o}
            slot_o' at_o (find_put_other o k (D.Due v) d.holding apart ∙ t.free) refl (
              record { state = Free t.idle refl; mailbox = mine'.0.mailbox },
              box_kept g m m₃ Any keep' s (arrived_at d o) mine'.0.mailbox (any.in_boxes o) mine'.1,
              served_kept g m m₃ Any keep' ks (g.callers (g.returned s.state)) (λ q z. tt) behind,
            )

        far_spots : (q : ℕ) → Spot g m₃ q (slot_at m₃ q) (object_of c' q) (held e' q) (arrived_at e' q)
        far_spots q = by (decide q k) (decide q o)
          where
            by : (q ≡ k) ⊎ (q ≢ k) → (q ≡ o) ⊎ (q ≢ o) → Spot g m₃ q (slot_at m₃ q) (object_of c' q) (held e' q) (arrived_at e' q)
            by (inl z) y = subst (λ b. Spot g m₃ b (slot_at m₃ b) (object_of c' b) (held e' b) (arrived_at e' b)) (sym z) far_k
            by (inr z) (inl y) = subst (λ b. Spot g m₃ b (slot_at m₃ b) (object_of c' b) (held e' b) (arrived_at e' b)) (sym y) far_o
            by (inr z) (inr y) = spot_same g m₃ q (slot_q' q y) (at_other q y z) (find_put_other q k (D.Due v) d.holding z) refl
                (spot_kept g m m₃ Any keep' q (slot_at m q) (object_of c q) (held d q) (arrived_at d q) (any.in_boxes q) (λ f b a j. tt) (spot g l m c d t.st q))

        result_fits : PacketFits m₃ e
        result_fits = record { number = ((number, refl), (keep' k tt).request ∙ r); names = tt }

        old_fit : (z : Pair) → Each (PacketFits m₃) (list_at pair_cmp z m.links)
        old_fit z = link_kept g m m₃ Any keep' (list_at pair_cmp z m.links) (on_link d.links z) (t.st.links z) (any.on_links z)
            (has_slots g W l m c d n i x s t s₁ xₘ refl links') (t.st.on_links z)

        far_stands : MachineStandsFor g l m₃ c' e'
        far_stands = assemble g l m c d t.st n x t.node xₘ links' c' e'
            (few g W l m c d n i x s t s₁ xₘ refl links')
            (last_is g W l m c d n i x s t) (last_else g W l m c d n i x s t)
            (t.st.made n x t.node) (λ b z f. refl) far_spots
            (posted_links m.links d.links t.st.links key e) (pushed_sorted m.links key e t.st.in_order)
            (posted_each m.links d.links t.st.links key e (PacketFits m₃) old_fit result_fits)
            (fewer g l m c d t.st n x t.node xₘ links' c' e' (λ q z f. sym (keep' q tt).request ∙ f))

      -- the turn, wherever the caller is
      back : (y : Bool) → (node_of k == n) ≡ y
          → Row g W l m n (give_back g n number (Wt.Step (L.Return o k v) 1) k v xₘ)
          (shows (L.Return o k v) 1 (if node_of k == n then free k (d₁ g W l m c d n i x s t) else hold k (D.Due v) (post l n (node_of k) (D.Result k v) (d₁ g W l m c d n i x s t))) (move g c (L.Return o k v)))
      back true z = rw (z, moved) (refl, typed', near_stands (equal (node_of k) n z))
      back false z = rw (z, moved) (refl, typed', far_stands (λ y. absurd (let a : (node_of k == n) ≡ true = rw y (equals n) in let b : true ≡ false = sym a ∙ z in cc)))

    pub return_row : Row g W l m n (return_act g n (x₁ g W l m c d n i x s t) i s k v s.callers) (return_turn g l c (d₁ g W l m c d n i x s t) n o k v)
    return_row = by s.callers refl (subst (AreNumbersOf m s.callers) split (spot_here g W l m c d n i x s t).2)
      where
        by : (cs : List ℕ) → s.callers ≡ cs → AreNumbersOf m cs (k ∷ g.callers (g.returned s.state))
            → Row g W l m n (return_act g n (x₁ g W l m c d n i x s t) i s k v cs) (return_turn g l c (d₁ g W l m c d n i x s t) n o k v)
        by [] z h = absurd h
        by (number ∷ ks) z h = back number ks h.0 h.1 (node_of k == n) refl
