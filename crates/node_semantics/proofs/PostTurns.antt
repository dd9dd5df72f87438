-- The turns that post a call, a message or a request for a new object.
use Rattle.std.proofs.Common.{◌≡◌, ◌≢◌, ◌⊎◌, inl, inr, refl, sym, ap, subst, ◌∙◌, ℕ, ◌==◌, List, [], ◌∷◌, ◌++◌, Option, Some, None, Bool, true, false}
use Rattle.std.specs.Prelude.{slice_get}
use Rattle.std.specs.Ordering.{nat_cmp}
use Rattle.std.specs.FinMap.{put}
use Rattle.run_types.specs.declared.types.Value.{Value}
use Rattle.run_types.specs.declared.types.Label.TheVariants as L
use Rattle.run_types.specs.declared.types.What.TheVariants as Wt
use Rattle.run_types.specs.declared.types.Placement.{Placement}
use Rattle.run_types.specs.Tables.{Pair}
use Rattle.run_types.specs.Message.{Message}
use Rattle.run_types.proofs.Laws.{decide, equal, equals, find_put_same, find_put_other, values_itself}
use Rattle.mesh_semantics.proofs.Laws.{runs}
use Rattle.mesh_semantics.specs.Kind as K
use Rattle.mesh_semantics.specs.Kind.{Kind, posts}
use Rattle.mesh_semantics.specs.Language.{Language}
use Rattle.mesh_semantics.specs.Config.{Config, object_of, put_object, put_messages, messages_of}
use Rattle.mesh_semantics.specs.Moves.{move}
use Rattle.run_types.specs.Paths.{next}
use Rattle.mesh_semantics.specs.Delay as D
use Rattle.mesh_semantics.specs.Delay.{Packet, Arrival, Holding, Delay, arrived_at, held, hold, post, arrive, stepped_last, count_made}
use Rattle.mesh_semantics.specs.NumberedPackets.{NumberedPacket}
use Rattle.run_types.specs.ObjectNames.{node_of, slot_of}
use Rattle.mesh_semantics.specs.Act.{id, call_turn, send_turn}
use Rattle.mesh_semantics.specs.Sound.{OwnedAt, entries, is_wait}
use Rattle.mesh_semantics.specs.Lawful.{CanServe}
use Rattle.run_types.specs.PathFacts.{In}
use Rattle.node_semantics.specs.Node.{Slot, NumberedArrival, NodeState, set_at, name_at, put_state, put_request, deliver, deliver_in, message_act}
use Rattle.node_semantics.specs.Machine.{Machine}
use Rattle.node_semantics.specs.StandsFor.{slot_at, request_of, request_in, kept_goal_of, kept_goal_in, Free, HasSlot, IsNumberOf, AreNumbersOf, caller_of, MachineStandsFor}
use Rattle.node_semantics.proofs.NamesAndSlots.{set_same, name_slot, at_node, before, after, elsewhere, changed_here, changed_there}
use Rattle.node_semantics.proofs.KeptNumbers.{Same, no_caller}
use Rattle.node_semantics.proofs.NamesAfterChange.{Spot, spot, found, Refers, refers_any, Any, box_kept, served_kept, spot_same}
use Rattle.node_semantics.proofs.SmallChanges.{chain, post_stands, slot_keeps, slot_stands, still_distinct, mₛ}
use Rattle.node_semantics.proofs.NamedChanges.{ask_stands, arrival_stands}
use Rattle.node_semantics.proofs.AddedObject.{last_stands}
use Rattle.node_semantics.proofs.OneObjectTurns.{Row, Turning, x₁, d₁, own, own_stands}

module _ {S : Type 0} (g : Language S) (l : Placement) where
  -- what is stood for does not look at asynchronous messages
  pub messages_stand : (m : Machine S) (c : Config S) (d : Delay) (s r : ℕ) (ms : List Message) → MachineStandsFor g l m c d → MachineStandsFor g l m (put_messages c s r ms) d
  messages_stand m c d s r ms st = record {
    nodes = st.nodes;
    few = st.few;
    named = st.named;
    links = st.links;
    in_order = st.in_order;
    last = st.last;
    made = st.made;
    distinct = st.distinct;
    on_links = st.on_links;
    in_mailboxes = st.in_mailboxes;
    in_callers = st.in_callers;
  }

  -- a message comes to an object of the node, as the node puts it
  pub deliver_stands : (m : Machine S) (c : Config S) (d : Delay) → MachineStandsFor g l m c d → (n : ℕ) (x : NodeState S) → slice_get m.nodes n ≡ Some x
      → (b : ℕ) → node_of b ≡ n → HasSlot m b → (a : NumberedArrival) → IsNumberOf m a.number (caller_of a.message)
      → MachineStandsFor g l (record m { nodes = set_at m.nodes n (deliver b a x); links = m.links }) c (arrive b a.message d)
  deliver_stands m c d st n x node b own h a number =
      subst (λ z. MachineStandsFor g l (record m { nodes = set_at m.nodes n z; links = m.links }) c (arrive b a.message d)) (sym is)
      (arrival_stands g l m c d st n x node b own h.0 h.1 a number)
    where
      is : deliver b a x ≡ record x { slots = set_at x.slots (slot_of b) (record (h.0) { mailbox = h.0.mailbox ++ a ∷ [] }) }
      is = ap (deliver_in (slot_of b) a x) (sym (at_node m n x node b own) ∙ h.1)

  -- the object of a slot becomes y and serves the same callers
  pub state_stands : (m : Machine S) (c : Config S) (d : Delay) (st : MachineStandsFor g l m c d) (n : ℕ) (x : NodeState S) → slice_get m.nodes n ≡ Some x
      → (o : ℕ) → node_of o ≡ n → (s : Slot S) → slot_at m o ≡ Some s → held d o ≡ None → s.request ≡ None
      → object_of c o ≡ Some s.state → (y : S) → g.callers y ≡ g.callers s.state
      → MachineStandsFor g l (record m { nodes = set_at m.nodes n (record x { slots = set_at x.slots (slot_of o) (record s { state = y }) }); links = m.links }) (put_object c o y) d
  state_stands m c d st n x node o own s here free idle there y k =
      slot_stands g l m c d st n x node o own s s' here (put_object c o y) d.holding d.arrived (λ q e. find_put_other q o y c.objects e) (λ q e. refl) (λ q e. refl)
      Any keep any mine (still_distinct g l m c d st n x node o own s s' here (λ q z e. sym (keep q tt).request ∙ e))
    where
      s' : Slot S
      s' = record s { state = y }

      m' : Machine S
      m' = mₛ g l m c d st n x node o own s s' here

      keep : (q : ℕ) → Any q → Same m m' q
      keep q z = slot_keeps g l m c d st n x node o own s s' here refl refl q

      any : Refers g Any (put_object c o y) d
      any = refers_any g (put_object c o y) d

      p : Spot g m o (Some s) (Some s.state) None (arrived_at d o)
      p = spot_same g m o (sym here) (sym there) (sym free) refl (spot g l m c d st o)

      mine : Spot g m' o (Some s') (object_of (put_object c o y) o) (held d o) (arrived_at d o)
      mine = spot_same g m' o {s = Some s'} {x = Some y} {h = None} {b = arrived_at d o} refl (find_put_same o y c.objects) free refl (
        record { state = Free idle refl; mailbox = p.0.mailbox },
        box_kept g m m' Any keep s (arrived_at d o) p.0.mailbox (any.in_boxes o) p.1,
        subst (AreNumbersOf m' s.callers) (sym k) (served_kept g m m' Any keep s.callers (g.callers s.state) (λ q z. tt) p.2),
      )

module _ {S : Type 0} (g : Language S) (W : Config S → Type 0) (l : Placement) (m : Machine S) (c : Config S) (d : Delay) (n i : ℕ) (x : NodeState S) (s : Slot S)
    (t : Turning g W l m c d n i x s) where
  abbrev o : ℕ
  o = name_at n i

  abbrev x' : NodeState S
  x' = x₁ g W l m c d n i x s t

  abbrev d' : Delay
  d' = d₁ g W l m c d n i x s t

  abbrev m₁ : Machine S
  m₁ = record m { nodes = set_at m.nodes n x'; links = m.links }

  pub own_o : node_of o ≡ n
  own_o = own g W l m c d n i x s t

  pub slot_o : slot_of o ≡ i
  slot_o = name_slot n i t.small

  pub stands₁ : MachineStandsFor g l m₁ c d'
  stands₁ = subst (λ j. MachineStandsFor g l m₁ c (record d { last = put nat_cmp n j d.last })) (sym slot_o) (last_stands g l m c d t.st n x t.node i)

  pub node₁ : slice_get m₁.nodes n ≡ Some x'
  node₁ = set_same m.nodes n x x' t.node

  -- changes beside the slots
  module _ (y : NodeState S) (same : y.slots ≡ x.slots) (links : List (Pair × List NumberedPacket)) where
    pub aside_same : (q : ℕ) → slot_at (record m { nodes = set_at m.nodes n y; links = links }) q ≡ slot_at m q
    aside_same q = by (decide (node_of q) n)
      where
        m' : Machine S
        m' = record m { nodes = set_at m.nodes n y; links = links }

        by : (node_of q ≡ n) ⊎ (node_of q ≢ n) → slot_at m' q ≡ slot_at m q
        by (inl e) = after m m' n x y t.node refl q e ∙ ap (λ ss. slice_get ss (slot_of q)) same ∙ sym (before m m' n x y t.node refl q e)
        by (inr e) = elsewhere m m' n x y t.node refl q e

  pub nothing : entries d o ≡ []
  nothing = (subst (λ (z : Option S). OwnedAt g o z None (entries d o)) t.there (subst (λ (z : Option Holding). OwnedAt g o (object_of c o) z (entries d o)) t.free (t.sound.state.owned o))).0

  pub unserved : is_wait (g.kind o s.state) ≡ false → (b : ℕ) (z : S) → object_of c b ≡ Some z → In o (g.callers z) → ⊥
  unserved e = no_caller g W t.req c t.sound.state.typed o s.state t.there e

  -- the request of the object is out
  module _ (y : NodeState S) (same : y.slots ≡ x.slots) (e : Delay) (base : MachineStandsFor g l (record m { nodes = set_at m.nodes n y; links = m.links }) c e)
      (free : held e o ≡ None) (none : entries e o ≡ []) (not_wait : is_wait (g.kind o s.state) ≡ false)
      (fresh goal : ℕ) (is_fresh : (q : ℕ) → node_of q ≡ n → request_of m q ≢ Some fresh) where
    mᵦ : Machine S
    mᵦ = record m { nodes = set_at m.nodes n y; links = m.links }

    here : slot_at (record m { nodes = set_at m.nodes n y; links = m.links }) o ≡ Some s
    here = aside_same y same m.links o ∙ t.here

    still_fresh : (q : ℕ) → node_of q ≡ n → request_of (record m { nodes = set_at m.nodes n y; links = m.links }) q ≢ Some fresh
    still_fresh q i f = is_fresh q i (sym (ap request_in (aside_same y same m.links q)) ∙ f)

    abbrev pub asked : Machine S
    asked = record m { nodes = set_at m.nodes n (put_request y i s fresh goal); links = m.links }

    pub asked_stands : MachineStandsFor g l asked c (hold o D.Posted e)
    asked_stands = chain g l m n y (put_request y i s fresh goal) m.links c (hold o D.Posted e)
        (subst (λ j. MachineStandsFor g l (record m { nodes = set_at (set_at m.nodes n y) n (record y { slots = set_at y.slots j (record s { request = Some fresh; goal = goal }) }); links = m.links }) c (hold o D.Posted e)) slot_o
        (ask_stands g l (record m { nodes = set_at m.nodes n y; links = m.links }) c e base n y (set_same m.nodes n x y t.node) o own_o s here t.there free none (unserved not_wait) fresh goal still_fresh))

    abbrev asking : Slot S
    asking = record s { request = Some fresh; goal = goal }

    at_o : slot_at asked o ≡ Some asking
    at_o =
        after m asked n x (put_request y i s fresh goal) t.node refl o own_o ∙ ap (slice_get (set_at y.slots i asking)) slot_o
        ∙ set_same y.slots i s asking (ap (λ ss. slice_get ss i) same ∙ sym (ap (slice_get x.slots) slot_o) ∙ sym (at_node m n x t.node o own_o) ∙ t.here)

    asked_other : (q : ℕ) → q ≢ o → slot_at asked q ≡ slot_at m q
    asked_other = changed_there m asked n x (put_request y i s fresh goal) t.node refl o own_o s asking t.here
        (ap (λ ss. set_at ss i asking) same ∙ ap (λ j. set_at x.slots j asking) (sym slot_o))

    pub asked_has : (q : ℕ) → HasSlot m q → HasSlot asked q
    asked_has q h = by (decide q o)
      where
        by : (q ≡ o) ⊎ (q ≢ o) → HasSlot asked q
        by (inl z) = (asking, ap (slot_at asked) z ∙ at_o)
        by (inr z) = (h.0, asked_other q z ∙ h.1)

    pub asked_number : request_of asked o ≡ Some fresh
    asked_number = ap request_in at_o

    pub asked_goal : kept_goal_of asked o ≡ Some goal
    asked_goal = ap kept_goal_in at_o

  pub has_slot : (b : ℕ) (z : S) → object_of c b ≡ Some z → HasSlot m b
  has_slot b z h = let f = found g l m c d t.st b z h in (f.slot, f.here)

  -- a call is posted
  module _ (b k : ℕ) (args : List Value) (kind : g.kind o s.state ≡ K.Send b k args) (fresh : ℕ) (is_fresh : (q : ℕ) → node_of q ≡ n → request_of m q ≢ Some fresh) where
    to_callee : HasSlot m b
    to_callee = let r = t.law.can_call c o s.state b k args t.sound.state.typed t.there kind in has_slot b r.0 r.1

    no_wait : is_wait (g.kind o s.state) ≡ false
    no_wait = rw kind refl

    abbrev callee_packet : Packet
    callee_packet = D.Request o b k args

    abbrev call_arrival : NumberedArrival
    call_arrival = record { number = Some fresh; message = record { sender = o; is_call = true; method = k; args = args } }

    abbrev mₚ : Machine S
    mₚ = asked x' refl d' stands₁ t.free nothing no_wait fresh s.goal is_fresh

    posted : MachineStandsFor g l mₚ c (hold o D.Posted d')
    posted = asked_stands x' refl d' stands₁ t.free nothing no_wait fresh s.goal is_fresh

    number : IsNumberOf mₚ (Some fresh) (Some o)
    number = ((fresh, refl), asked_number x' refl d' stands₁ t.free nothing no_wait fresh s.goal is_fresh)

    callee : HasSlot mₚ b
    callee = asked_has x' refl d' stands₁ t.free nothing no_wait fresh s.goal is_fresh b to_callee

    call_by : (z : Bool) → (node_of b == n) ≡ z
        → Row g W l m n (message_act n (Wt.PostCall o b (id k) args) (put_request x' i s fresh s.goal) b call_arrival callee_packet) (call_turn l c d' n o b k args)
    call_by true z = rw z (
      refl,
      t.sound.state.typed,
      chain g l m n (put_request x' i s fresh s.goal) (deliver b call_arrival (put_request x' i s fresh s.goal)) m.links c _
          (deliver_stands g l mₚ c (hold o D.Posted d') posted n (put_request x' i s fresh s.goal) (set_same m.nodes n x (put_request x' i s fresh s.goal) t.node) b
          (equal (node_of b) n z) callee call_arrival number),
    )
    call_by false z = rw z (
      refl,
      t.sound.state.typed,
      post_stands g l mₚ c (hold o D.Posted d') posted (n, next l n (node_of b)) (record { number = Some fresh; packet = callee_packet }) (record { number = number; names = callee }),
    )

    pub call_row : Row g W l m n (message_act n (Wt.PostCall o b (id k) args) (put_request x' i s fresh s.goal) b call_arrival callee_packet) (call_turn l c d' n o b k args)
    call_row = call_by (node_of b == n) refl

  -- a message is sent
  module _ (b k : ℕ) (args : List Value) (kind : g.kind o s.state ≡ K.Async b k args) where
    to_receiver : CanServe g c b k args
    to_receiver = t.law.can_send c o s.state b k args t.sound.state.typed t.there kind

    abbrev note_packet : Packet
    note_packet = D.Async o b k args

    abbrev message_arrival : NumberedArrival
    message_arrival = record { number = None; message = record { sender = o; is_call = false; method = k; args = args } }

    abbrev xₙ : NodeState S
    xₙ = put_state x' i s (g.done s.state)

    abbrev mₙ : Machine S
    mₙ = record m { nodes = set_at m.nodes n xₙ; links = m.links }

    abbrev cₙ : Config S
    cₙ = put_messages (put_object c o (g.done s.state)) o b (messages_of c o b ++ record { method = k; args = args } ∷ [])

    done : MachineStandsFor g l mₙ cₙ d'
    done = messages_stand g l mₙ (put_object c o (g.done s.state)) d' o b _
        (own_stands g W l m c d n i x s t (g.done s.state) (t.req.done_callers c o s.state t.sound.state.typed t.there (rw kind refl)))

    moved : move g c (L.Send o b (id k) args) ≡ Some cₙ
    moved = rw (runs g c o s.state t.there t.sane, kind, equals b, equals k, values_itself args, to_receiver.1) refl

    receiver : HasSlot mₙ b
    receiver = by (decide b o)
      where
        s' : Slot S
        s' = record s { state = g.done s.state }

        set : xₙ.slots ≡ set_at x.slots (slot_of o) s'
        set = ap (λ j. set_at x.slots j s') (sym slot_o)

        by : (b ≡ o) ⊎ (b ≢ o) → HasSlot mₙ b
        by (inl z) = (s', ap (slot_at mₙ) z ∙ changed_here m mₙ n x xₙ t.node refl o own_o s s' t.here set)
        by (inr z) = let h = has_slot b to_receiver.0 to_receiver.1 in (h.0, changed_there m mₙ n x xₙ t.node refl o own_o s s' t.here set b z ∙ h.1)

    send_by : (z : Bool) → (node_of b == n) ≡ z
        → Row g W l m n (message_act n (Wt.Step (L.Send o b (id k) args) 1) xₙ b message_arrival note_packet) (send_turn g l c d' n o b k args)
    send_by true z = rw (z, moved) (
      refl,
      t.law.kept c cₙ (L.Send o b (id k) args) t.sound.state.typed moved,
      chain g l m n xₙ (deliver b message_arrival xₙ) m.links cₙ _
          (deliver_stands g l mₙ cₙ d' done n xₙ (set_same m.nodes n x xₙ t.node) b (equal (node_of b) n z) receiver message_arrival refl),
    )
    send_by false z = rw (z, moved) (
      refl,
      t.law.kept c cₙ (L.Send o b (id k) args) t.sound.state.typed moved,
      post_stands g l mₙ cₙ d' done (n, next l n (node_of b)) (record { number = None; packet = note_packet }) (record { number = refl; names = receiver }),
    )

    pub send_row : Row g W l m n (message_act n (Wt.Step (L.Send o b (id k) args) 1) xₙ b message_arrival note_packet) (send_turn g l c d' n o b k args)
    send_row = send_by (node_of b == n) refl
