-- A machine answers each event as the configuration that it represents does, and then represents the configuration
-- after it. Its start represents the start.
use Rattle.std.proofs.Common.{◌≡◌, ◌≢◌, refl, sym, subst, ℕ, ◌*◌, ◌<◌, Option, Some, None, is_none, true, false, ◌&&◌}
use Rattle.std.specs.Prelude.{slice_get}
use Rattle.std.specs.List.{list_any}
use Rattle.run_types.specs.declared.types.Event.{Event}
use Rattle.run_types.specs.declared.types.Event.TheVariants as Ev
use Rattle.run_types.specs.declared.types.Placement.{Placement}
use Rattle.run_types.proofs.Laws.{first, second, there_at}
use Rattle.mesh_semantics.specs.Kind as K
use Rattle.mesh_semantics.specs.Kind.{Kind, Alternative}
use Rattle.mesh_semantics.specs.Language.{Language}
use Rattle.mesh_semantics.specs.Config.{Config, object_of}
use Rattle.mesh_semantics.specs.Delay.{Delay, held, stepped_last}
use Rattle.run_types.specs.ObjectNames.{node_of, slot_of}
use Rattle.mesh_semantics.specs.Act.{plain_act, node_turn, object_turn, turn_of, can_step, is_possible}
use Rattle.mesh_semantics.specs.Sound.{IsSound}
use Rattle.mesh_semantics.specs.Lawful.{Lawful}
use Rattle.node_semantics.specs.Node.{Slot, NodeState, name_at, can_go, arrivals, slot_act, slot_in_turn, turn_of_slot}
use Rattle.node_semantics.specs.Machine.{Machine, plain_machine_act, turn_in, after_node}
use Rattle.run_types.specs.LinkTables.{leaving}
use Rattle.mesh_semantics.specs.Requests.{Requests}
use Rattle.node_semantics.specs.StandsFor.{slot_at, slot_in, request_in, request_of, MachineStandsFor}
use Rattle.node_semantics.specs.Agrees.{IsOfMesh, IsFresh}
use Rattle.node_semantics.proofs.ActsAgree.{Agrees}
use Rattle.node_semantics.proofs.LimitsAndTurn.{Chosen, NoOne, One, chosen, within_row}
use Rattle.node_semantics.proofs.OneObjectTurns.{Row, Turning, spot_here, write_row, fault_row}
use Rattle.node_semantics.proofs.ReturnTurns.{return_row}
use Rattle.node_semantics.proofs.PostTurns.{call_row, send_row}
use Rattle.node_semantics.proofs.CreateTurns.{new_row}
use Rattle.node_semantics.proofs.LocalTurns.{local_row}
use Rattle.node_semantics.proofs.SelectTurns.{select_row}
use Rattle.node_semantics.proofs.LinkMovesAgree.{link_agrees}

none_is : {X : Type 0} (o : Option X) → is_none o ≡ true → o ≡ None
none_is None h = refl
none_is (Some x) h = absurd (cc)

-- a number that is not out at a node is of no object of it
unused : {S : Type 0} (m : Machine S) (n fresh : ℕ) → IsFresh m fresh (Ev.Turn n) → (o : ℕ) → node_of o ≡ n → request_of m o ≢ Some fresh
unused {S} m n fresh is_fresh o own = by (slice_get m.nodes (node_of o)) refl
  where
    on : (x : NodeState S) → slice_get m.nodes n ≡ Some x → (s : Option (Slot S)) → slice_get x.slots (slot_of o) ≡ s → request_in s ≢ Some fresh
    on x e None i h = cc
    on x e (Some s) i h = is_fresh x e (slot_of o) s i h

    by : (z : Option (NodeState S)) → slice_get m.nodes (node_of o) ≡ z → request_in (slot_in z (slot_of o)) ≢ Some fresh
    by None e h = cc
    by (Some x) e h = on x (subst (λ z. slice_get m.nodes z ≡ Some x) own e) (slice_get x.slots (slot_of o)) refl h

module _ {S : Type 0} (g : Language S) (W : Config S → Type 0) (law : Lawful g W) (req : Requests g W) (l : Placement) (few : l.objects < 65536)
    (m : Machine S) (c : Config S) (d : Delay) (sound : IsSound g W l c d) (st : MachineStandsFor g l m c d) where
  module _ (q fresh n : ℕ) (x : NodeState S) (node : slice_get m.nodes n ≡ Some x) (is_fresh : (o : ℕ) → node_of o ≡ n → request_of m o ≢ Some fresh) where
    module _ (i : ℕ) (s : Slot S) (small : i < 65536) (here : slot_at m (name_at n i) ≡ Some s) (there : object_of c (name_at n i) ≡ Some s.state)
        (free : held d (name_at n i) ≡ None) (go : can_go g n (i, s) ≡ true) where
      abbrev o : ℕ
      o = name_at n i

      begins : (is_none s.request && is_none (g.fault s.state)) ≡ true
      begins = first (is_none s.request && is_none (g.fault s.state)) (can_step (arrivals s.mailbox) (g.kind (name_at n i) s.state)) go

      steps : can_step (arrivals s.mailbox) (g.kind (name_at n i) s.state) ≡ true
      steps = second (is_none s.request && is_none (g.fault s.state)) (can_step (arrivals s.mailbox) (g.kind (name_at n i) s.state)) go

      t : Turning g W l m c d n i x s
      t = record {
        law = law;
        req = req;
        sound = sound;
        st = st;
        node = node;
        small = small;
        here = here;
        there = there;
        free = free;
        idle = none_is s.request (first (is_none s.request) (is_none (g.fault s.state)) begins);
        sane = none_is (g.fault s.state) (second (is_none s.request) (is_none (g.fault s.state)) begins);
      }

      stuck : (k : Kind) → g.kind o s.state ≡ k → can_step (arrivals s.mailbox) k ≡ false → ⊥
      stuck k e f = let z : can_step (arrivals s.mailbox) k ≡ true = subst (λ w. can_step (arrivals s.mailbox) w ≡ true) e steps in cc

      row : (k : Kind) → g.kind o s.state ≡ k → Row g W l m n (slot_act g l q n fresh (record x { last = Some i }) i s k) (object_turn g l q c (stepped_last n o d) n o k)
      row K.Local e = local_row g W l m c d n i x s t q
      row (K.New class) e = new_row g W l m c d n i x s t few class e fresh is_fresh
      row (K.Send b k args) e = call_row g W l m c d n i x s t b k args e fresh is_fresh
      row (K.Async b k args) e = send_row g W l m c d n i x s t b k args e
      row (K.Select alts) e = select_row g W l m c d n i x s t alts e (
          let z : can_step (arrivals s.mailbox) (K.Select alts) ≡ true = subst (λ w. can_step (arrivals s.mailbox) w ≡ true) e steps in
          subst (λ w. list_any (is_possible w) alts ≡ true) (spot_here g W l m c d n i x s t).0.mailbox z)
      row (K.Return k v) e = return_row g W l m c d n i x s t k v e
      row (K.Write item) e = write_row g W l m c d n i x s t item e
      row (K.Fault f) e = fault_row g W l m c d n i x s t f e
      row K.Finished e = absurd (stuck K.Finished e refl)
      row (K.Waits b k) e = absurd (stuck (K.Waits b k) e refl)
      row K.Stuck e = absurd (stuck K.Stuck e refl)

    turned : (a : Option (ℕ × S)) (b : Option (ℕ × Slot S)) → Chosen g W law req l m c d st n x node sound.state.typed a b
        → Agrees g l (after_node l n m (turn_of_slot g l q n (leaving m.links n) fresh x b)) (node_turn g l q c d n a)
    turned None None NoOne = (refl, st)
    turned (Some _) (Some _) (One i s small here there free go) =
        within_row g W law req l m c d st n x node _ _ (row i s small here there free go (g.kind (name_at n i) s.state) refl)
    turned None (Some b) h = elim h [ ]
    turned (Some a) None h = elim h [ ]

  turn_agrees : (q fresh n : ℕ) → n < l.width * l.height → ((o : ℕ) → node_of o ≡ n → request_of m o ≢ Some fresh)
      → Agrees g l (plain_machine_act g l q fresh m (Ev.Turn n)) (plain_act g l q c d (Ev.Turn n))
  turn_agrees q fresh n inside is_fresh =
      let x = there_at m.nodes n (subst (λ z. n < z) (sym st.nodes) inside) in
      subst (λ z. Agrees g l (turn_in g l q fresh m n z) (node_turn g l q c d n (turn_of g c d n))) (sym x.1)
      (turned q fresh n x.0 x.1 is_fresh (turn_of g c d n) (slot_in_turn g n x.0) (chosen g W law req l m c d st n x.0 x.1 sound.state.typed))

  -- where each link hands out its own head
  pub plain_agrees : (q fresh : ℕ) (e : Event) → IsOfMesh l e → IsFresh m fresh e → Agrees g l (plain_machine_act g l q fresh m e) (plain_act g l q c d e)
  plain_agrees q fresh (Ev.Turn n) inside is_fresh = turn_agrees q fresh n inside (unused m n fresh is_fresh)
  plain_agrees q fresh (Ev.Link a b) inside is_fresh = link_agrees g W law req l few m c d sound st a b inside.1 q fresh
  plain_agrees q fresh (Ev.Wire w a b) inside is_fresh = (refl, st)
