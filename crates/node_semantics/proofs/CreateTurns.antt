-- The turn that makes an object, on its own node or by a packet.
use Rattle.std.proofs.Common.{◌≡◌, ◌≢◌, ◌⊎◌, inl, inr, refl, sym, ap, subst, ◌∙◌, ℕ, ◌+◌, ◌*◌, ◌%◌, ◌<◌, ◌==◌, [], length, Option, Some, None, Bool, true, false, arith}
use Rattle.std.specs.Prelude.{slice_get}
use Rattle.run_types.specs.declared.types.Value.TheVariants as V
use Rattle.run_types.specs.declared.types.Label.TheVariants as L
use Rattle.run_types.specs.declared.types.What.TheVariants as Wt
use Rattle.run_types.specs.declared.types.Place.{Place}
use Rattle.run_types.specs.declared.types.Place.TheVariants as Pl
use Rattle.run_types.specs.declared.types.Placement.{Placement}
use Rattle.run_types.proofs.Laws.{decide, equals, same_some, find_put_same, find_put_other}
use Rattle.mesh_semantics.proofs.Laws.{runs}
use Rattle.mesh_semantics.specs.Kind as K
use Rattle.mesh_semantics.specs.Kind.{Kind}
use Rattle.mesh_semantics.specs.Language.{Language}
use Rattle.mesh_semantics.specs.Config.{Config, object_of, put_object}
use Rattle.mesh_semantics.specs.Moves.{move}
use Rattle.run_types.specs.Paths.{next}
use Rattle.mesh_semantics.specs.Delay as D
use Rattle.mesh_semantics.specs.Delay.{Packet, Holding, Delay, arrived_at, held, hold, post, made_by, count_made}
use Rattle.mesh_semantics.specs.NumberedPackets.{NumberedPacket}
use Rattle.run_types.specs.ObjectNames.{node_of}
use Rattle.mesh_semantics.specs.Act as A
use Rattle.mesh_semantics.specs.Act.{Acted, id, labelled, shows, create_turn, next_name, object_count, goal_by, goal_of, class_place}
use Rattle.mesh_semantics.specs.Sound.{OwnedAt, entries, is_wait}
use Rattle.node_semantics.specs.Node as N
use Rattle.node_semantics.specs.Node.{Slot, NodeState, NodeActed, set_at, name_at, put_state, put_request, create_act, made_own, made_here, add_slot, count_one, fresh_slot, goal_for, goal_here}
use Rattle.node_semantics.specs.Machine.{Machine}
use Rattle.node_semantics.specs.StandsFor.{request_of, PacketFits, MachineStandsFor}
use Rattle.node_semantics.proofs.NamesAndSlots.{set_same, set_length}
use Rattle.node_semantics.proofs.SmallChanges.{chain, post_stands}
use Rattle.run_types.specs.PathFacts.{In}
use Rattle.node_semantics.proofs.AddedObject.{count_stands, add_stands, is_new, no_object}
use Rattle.node_semantics.proofs.OneObjectTurns.{Row, Turning, x₁, d₁}
use Rattle.node_semantics.proofs.PostTurns.{state_stands, stands₁, aside_same, nothing, asked_stands, asked_number, asked_goal, own_o, slot_o}
use Rattle.node_semantics.proofs.NodeCounts.{objects_count}

-- the same goal, where as many were made
pub same_goal : (l : Placement) (d : Delay) (n made class : ℕ) (p : Option Place) → made ≡ made_by d n class → goal_for l n made p ≡ goal_by l d n class p
same_goal l d n made class None e = refl
same_goal l d n made class (Some (Pl.At k)) e = refl
same_goal l d n made class (Some Pl.Same) e = refl
same_goal l d n made class (Some Pl.Spread) e = ap (λ z. (n + z) % (l.width * l.height)) e

module _ {S : Type 0} (g : Language S) (W : Config S → Type 0) (l : Placement) (m : Machine S) (c : Config S) (d : Delay) (n i : ℕ) (x : NodeState S) (s : Slot S)
    (t : Turning g W l m c d n i x s) (few : l.objects < 65536) where
  abbrev o : ℕ
  o = name_at n i

  abbrev x' : NodeState S
  x' = x₁ g W l m c d n i x s t

  abbrev d' : Delay
  d' = d₁ g W l m c d n i x s t

  module _ (class : ℕ) (kind : g.kind o s.state ≡ K.New class) where
    typed : W c
    typed = t.sound.state.typed

    made : (z : S) × (g.made class ≡ Some z)
    made = t.law.can_make c o s.state class typed t.there kind

    known : In class g.classes
    known = t.req.made_class class made.0 made.1

    abbrev y : NodeState S
    y = count_one g class x'

    abbrev e : Delay
    e = count_made n class d'

    abbrev mᵧ : Machine S
    mᵧ = record m { nodes = set_at m.nodes n y; links = m.links }

    base : MachineStandsFor g l mᵧ c e
    base = chain g l m n x' y m.links c e
        (count_stands g l (record m { nodes = set_at m.nodes n x'; links = m.links }) c d' (stands₁ g W l m c d n i x s t) n x' (set_same m.nodes n x x' t.node) class known)

    nodeᵧ : slice_get mᵧ.nodes n ≡ Some y
    nodeᵧ = set_same m.nodes n x y t.node

    -- by a packet
    module _ (fresh goal : ℕ) (is_fresh : (q : ℕ) → node_of q ≡ n → request_of m q ≢ Some fresh) where
      no_wait : is_wait (g.kind o s.state) ≡ false
      no_wait = rw kind refl

      posted : MachineStandsFor g l (record m { nodes = set_at m.nodes n (put_request y i s fresh goal); links = m.links }) c (hold o D.Posted e)
      posted = asked_stands g W l m c d n i x s t y refl e base t.free (nothing g W l m c d n i x s t) no_wait fresh goal is_fresh

      abbrev packet : NumberedPacket
      packet = record { number = Some fresh; packet = D.Create o goal class }

      fits : PacketFits (record m { nodes = set_at m.nodes n (put_request y i s fresh goal); links = m.links }) packet
      fits = record {
        number = ((fresh, refl), asked_number g W l m c d n i x s t y refl e base t.free (nothing g W l m c d n i x s t) no_wait fresh goal is_fresh);
        names = asked_goal g W l m c d n i x s t y refl e base t.free (nothing g W l m c d n i x s t) no_wait fresh goal is_fresh;
      }

      pub far_row : Row g W l m n (N.Acts (Wt.PostCreate o (id class) goal) (Some packet) (put_request y i s fresh goal))
          (A.Acts (Wt.PostCreate o (id class) goal) c (hold o D.Posted (post l n goal (D.Create o goal class) e)))
      far_row = (refl, typed, post_stands g l (record m { nodes = set_at m.nodes n (put_request y i s fresh goal); links = m.links }) c (hold o D.Posted e) posted (n, next l n goal) packet fits)

    -- on the own node
    count : length x.slots ≡ object_count c n
    count = objects_count g W t.law t.req l m c d t.st typed n x t.node

    small : length x.slots < 65536
    small = let a = (t.sound.limits n).0 in omega (arith, a, count, few)

    abbrev new : ℕ
    new = name_at n (length x.slots)

    new_is : next_name c n ≡ new
    new_is = ap (λ k. n * 65536 + k) (sym count)

    unused : object_of c new ≡ None
    unused = (is_new g l m c d t.st n x t.node W t.req small).object

    abbrev z₁ : S
    z₁ = g.given s.state (V.Ref new)

    abbrev c₁ : Config S
    c₁ = put_object c o z₁

    abbrev y₁ : NodeState S
    y₁ = put_state y i s z₁

    abbrev m₂ : Machine S
    m₂ = record m { nodes = set_at m.nodes n y₁; links = m.links }

    maker : MachineStandsFor g l m₂ c₁ e
    maker = chain g l m n y y₁ m.links c₁ e
        (subst (λ j. MachineStandsFor g l (record m { nodes = set_at (set_at m.nodes n y) n (record y { slots = set_at y.slots j (record s { state = z₁ }) }); links = m.links }) c₁ e) (slot_o g W l m c d n i x s t)
        (state_stands g l mᵧ c e base n y nodeᵧ o (own_o g W l m c d n i x s t) s (aside_same g W l m c d n i x s t y refl m.links o ∙ t.here) t.free t.idle t.there z₁
        (t.req.given_callers o s.state (V.Ref new) (rw kind refl))))

    moved : move g c (L.New o (next_name c n) (id class)) ≡ Some (put_object c₁ new made.0)
    moved = rw (new_is, runs g c o s.state t.there t.sane, kind, equals class, unused, made.1) refl

    nobody : (b : ℕ) (z : S) → object_of c₁ b ≡ Some z → In new (g.callers z) → ⊥
    nobody b z h k = by (decide b o)
      where
        old : (b : ℕ) (z : S) → object_of c b ≡ Some z → In new (g.callers z) → ⊥
        old = no_object g l m c d t.st n x t.node W t.req small typed new unused

        by : (b ≡ o) ⊎ (b ≢ o) → ⊥
        by (inl q) =
            let same : z₁ ≡ z = same_some (sym (ap (object_of c₁) q ∙ find_put_same o z₁ c.objects) ∙ h) in
            let calls : g.callers z ≡ g.callers s.state = ap g.callers (sym same) ∙ t.req.given_callers o s.state (V.Ref new) (rw kind refl) in
            old o s.state t.there (subst (In new) calls k)
        by (inr q) = old b z (sym (find_put_other b o z₁ c.objects q) ∙ h) k

    owns_none : entries d new ≡ []
    owns_none = (subst (λ (z : Option S). OwnedAt g new z (held d new) (entries d new)) unused (t.sound.state.owned new)).1

    same_length : length y₁.slots ≡ length x.slots
    same_length = set_length x.slots i (record s { state = z₁ })

    added : MachineStandsFor g l (record m { nodes = set_at m.nodes n (add_slot y₁ made.0); links = m.links }) (put_object c₁ new made.0) e
    added = chain g l m n y₁ (add_slot y₁ made.0) m.links (put_object c₁ new made.0) e
        (subst (λ k. MachineStandsFor g l (record m { nodes = set_at (set_at m.nodes n y₁) n (add_slot y₁ made.0); links = m.links }) (put_object c₁ (name_at n k) made.0) e) same_length
        (add_stands g l m₂ c₁ e maker n y₁ (set_same m.nodes n x y₁ t.node) W t.req (subst (λ k. k < 65536) (sym same_length) small) made.0
        (subst (λ k. (b : ℕ) (z : S) → object_of c₁ b ≡ Some z → In (name_at n k) (g.callers z) → ⊥) (sym same_length) nobody)
        (subst (λ k. entries d (name_at n k) ≡ []) (sym same_length) owns_none)
        (t.req.made_callers class made.0 made.1)))

    pub near_row : Row g W l m n (made_own g n y i s class (g.made class)) (labelled g c (L.New o (next_name c n) (id class)) e)
    near_row = subst (λ z. Row g W l m n (made_own g n y i s class (g.made class)) (shows (L.New o (next_name c n) (id class)) 1 e z)) (sym moved) (rw made.1 (
      ap (λ k. Wt.Step (L.New o k (id class)) 1) (sym new_is),
      t.law.kept c (put_object c₁ new made.0) (L.New o (next_name c n) (id class)) typed moved,
      added,
    ))

    pub create_row : (fresh goal : ℕ) → ((q : ℕ) → node_of q ≡ n → request_of m q ≢ Some fresh)
        → Row g W l m n (create_act g n fresh x' i s class goal) (create_turn g l c d' n o class goal)
    create_row fresh goal is_fresh = by (goal == n) refl
      where
        by : (b : Bool) → (goal == n) ≡ b → Row g W l m n (create_act g n fresh x' i s class goal) (create_turn g l c d' n o class goal)
        by true z = rw z near_row
        by false z = rw z (far_row fresh goal is_fresh)

    pub new_row : (fresh : ℕ) → ((q : ℕ) → node_of q ≡ n → request_of m q ≢ Some fresh)
        → Row g W l m n (create_act g n fresh x' i s class (goal_here g l x' n class)) (create_turn g l c d' n o class (goal_of g l d' n class))
    new_row fresh is_fresh =
        subst (λ k. Row g W l m n (create_act g n fresh x' i s class (goal_here g l x' n class)) (create_turn g l c d' n o class k))
        (same_goal l d' n (made_here g x' class) class (slice_get l.places (class_place g.classes class)) ((t.st.made n x t.node).1 class known))
        (create_row fresh (goal_here g l x' n class) is_fresh)
