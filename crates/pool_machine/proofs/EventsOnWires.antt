-- The events of a machine whose links are wires. A turn does what it does without them. The head of a link moves with
-- the next packet. Any other event is of one wire.
use Rattle.std.proofs.Common.{◌≡◌, ◌≢◌, ◌⊎◌, inl, inr, refl, sym, ap, ap₂, subst, ◌∙◌, ℕ, ◌+◌, ◌==◌, List, [], ◌∷◌, map, Option, Some, None, is_some, Bool, true, false, if◌then◌else◌, nat_lt}
use Rattle.std.specs.Prelude.{slice_get}
use Rattle.std.specs.FinMap.{put}
use Rattle.run_types.specs.declared.types.Event.TheVariants as Ev
use Rattle.run_types.specs.declared.types.What.{What}
use Rattle.run_types.specs.declared.types.What.TheVariants as W
use Rattle.run_types.specs.declared.types.WireAct.{WireAct}
use Rattle.run_types.specs.declared.types.FullKind.TheVariants as F
use Rattle.run_types.specs.declared.types.Placement.{Placement}
use Rattle.code_semantics.specs.declared.unit.Unit.{Unit as Code}
use Rattle.mesh_semantics.specs.Act.{goal_node}
use Rattle.mesh_semantics.specs.Language.{Language}
use Rattle.run_types.specs.Tables.{Pair, list_at, pair_cmp, put_list}
use Rattle.run_types.specs.LinkTables.{leaving}
use Rattle.mesh_semantics.specs.Wire.{Coming, Empty, Stale, Next}
use Rattle.mesh_semantics.specs.KeptWire.{KeptWire, kept_act, kept_coming, kept_take}
use Rattle.run_types.proofs.Laws.{find_pair_other, find_pair_same}
use Rattle.node_semantics.specs.Node as N
use Rattle.node_semantics.specs.Node.{NodeActed, NodeState, message_count, receipt_act, turn_act}
use Rattle.mesh_semantics.specs.NumberedPackets.{NumberedPacket}
use Rattle.node_semantics.specs.Machine as M
use Rattle.node_semantics.specs.Machine.{KeptWires, Machine, MachineActed, after_node, come, kept_at, kept_move, kept_turn, machine_act, move_in, turn_in, with_kept}
use Rattle.node_semantics.specs.Agrees.{IsFresh}
use Rattle.node_semantics.proofs.Laws.{decide_link}
use Rattle.mesh_of_code.specs.Coded.{Placed, coded}
use Rattle.rendezvous_protocol.specs.declared.packet.Packet.{Packet}
use Rattle.rendezvous_protocol.specs.Packets.{numbered}
use Rattle.mesh_routing.specs.Links.{LinksOf}
use Rattle.node_state.specs.NodeOf.{NodeOf}
use Rattle.wire_link.specs.Wires.{arrived_of}
use Rattle.wire_link.specs.declared.wire.Arrived.TheVariants as R
use Rattle.machine_network.specs.LinkWires.{LinkWires, numbered_wires, has_wire, wire_of}
use Rattle.machine_network.specs.WireReports.{LinkWireReports}
use Rattle.machine_network.specs.MachineOn.{machine_on}
use Rattle.machine_network.proofs.Laws.{list_numbered, act_numbered, coming_numbered, kept_numbered, numbered_coming, numbered_result, put_numbered, take_numbered}
use Rattle.pool_machine.specs.Parts.{IsDid, machine_from}
use Rattle.pool_machine.specs.OnWires.{IsDidOn, EventMakes}
use Rattle.pool_machine.specs.DidOf.{Did}
use Rattle.pool_machine.specs.DidOf as D

-- a turn and a move of a link's head do not look at wires
module _ {S : Type 0} (g : Language S) (l : Placement) (ws : KeptWires) where
  abbrev wired : Machine S → Machine S
  wired m = record m { wires = Some ws }

  node_same : (n : ℕ) (m : Machine S) (a : NodeActed S) → after_node l n (wired m) a ≡ with_kept ws (after_node l n m a)
  node_same n m N.Idle = refl
  node_same n m (N.Acts w packet x) = refl
  node_same n m (N.Full k) = refl
  node_same n m N.Nothing = refl

  pub turn_same : (q fresh : ℕ) (m : Machine S) (n : ℕ) (x : Option (NodeState S)) → turn_in g l q fresh (wired m) n x ≡ with_kept ws (turn_in g l q fresh m n x)
  turn_same q fresh m n None = refl
  turn_same q fresh m n (Some x) = node_same n m (turn_act g l q n (leaving m.links n) fresh x)

  come_same : (m : Machine S) (b : ℕ) (e : NumberedPacket) (x : Option (NodeState S)) → come g l (wired m) b e x ≡ with_kept ws (come g l m b e x)
  come_same m b e None = refl
  come_same m b e (Some x) = by (goal_node e.packet == b) (nat_lt l.cells (message_count x.slots + leaving m.links b + 1))
    where
      by : (t u : Bool)
          → (if t then after_node l b (wired m) (receipt_act g l b (leaving m.links b) e x) else (if u then M.Full F.Cells b else M.Acts W.Pass (record (wired m) { links = M.post_packet l b (Some e) m.links })))
          ≡ with_kept ws (if t then after_node l b m (receipt_act g l b (leaving m.links b) e x) else (if u then M.Full F.Cells b else M.Acts W.Pass (record m { links = M.post_packet l b (Some e) m.links })))
      by true u = node_same b m (receipt_act g l b (leaving m.links b) e x)
      by false true = refl
      by false false = refl

  pub move_same : (m : Machine S) (a b : ℕ) (es : List NumberedPacket) → move_in g l (wired m) a b es ≡ with_kept ws (move_in g l m a b es)
  move_same m a b [] = refl
  move_same m a b (e ∷ rest) = come_same (record m { links = put_list pair_cmp (a, b) rest m.links }) b e (slice_get m.nodes b)

  pub kept_twice : (vs : KeptWires) (t : MachineActed S) → with_kept vs (with_kept ws t) ≡ with_kept vs t
  kept_twice vs (M.Acts w m) = refl
  kept_twice vs (M.Full k n) = refl
  kept_twice vs M.Nothing = refl

-- what was done to nodes and links alone, with the wires beside them
module _ (nodes nodes' : List NodeOf) (k k' : LinksOf Packet) where
  pub did_plain : (did : Did) (t : MachineActed Placed) → IsDid did nodes k nodes' k' t → IsDidOn did nodes k None nodes' k' None t
  did_plain (D.Line what) (M.Acts w m) h = h
  did_plain (D.Full kind node) (M.Full j n) h = (h.0, h.1, h.2, h.3, refl)
  did_plain (D.Line what) (M.Full j n) h = absurd h
  did_plain (D.Line what) M.Nothing h = absurd h
  did_plain (D.Full kind node) (M.Acts w m) h = absurd h
  did_plain (D.Full kind node) M.Nothing h = absurd h

  pub line_wired : (ws ws' : LinkWires) (what : What) (t : MachineActed Placed) → IsDid (D.Line what) nodes k nodes' k' t
      → IsDidOn (D.Line what) nodes k (Some ws) nodes' k' (Some ws') (with_kept (numbered_wires ws') t)
  line_wired ws ws' what (M.Acts w m) h = (h.0, ap (λ (z : Machine Placed). record z { wires = Some (numbered_wires ws') }) h.1)
  line_wired ws ws' what (M.Full j n) h = absurd h
  line_wired ws ws' what M.Nothing h = absurd h

  pub full_wired : (ws : LinkWires) (vs : KeptWires) (kind : _) (node : ℕ) (t : MachineActed Placed) → IsDid (D.Full kind node) nodes k nodes' k' t
      → IsDidOn (D.Full kind node) nodes k (Some ws) nodes' k' (Some ws) (with_kept vs t)
  full_wired ws vs kind node (M.Full j n) h = (h.0, h.1, h.2, h.3, refl)
  full_wired ws vs kind node (M.Acts w m) h = absurd h
  full_wired ws vs kind node M.Nothing h = absurd h

  pub did_wired : (ws : LinkWires) (did : Did) (t : MachineActed Placed) → IsDid did nodes k nodes' k' t → IsDidOn did nodes k (Some ws) nodes' k' (Some ws) (with_kept (numbered_wires ws) t)
  did_wired ws (D.Line what) t h = line_wired ws ws what t h
  did_wired ws (D.Full kind node) t h = full_wired ws (numbered_wires ws) kind node t h

-- a turn
pub turn_wired : (u : Code) (l : Placement) (nodes nodes' : List NodeOf) (k k' : LinksOf Packet) (ws : Option LinkWires) (q n : ℕ) (did : Did)
    → (fresh : ℕ) × IsFresh (machine_from nodes k.links) fresh (Ev.Turn n) × IsDid did nodes k nodes' k' (machine_act (coded u) l q fresh (machine_from nodes k.links) (Ev.Turn n))
    → EventMakes u l q (Ev.Turn n) did nodes k ws nodes' k' ws
turn_wired u l nodes nodes' k k' None q n did h = (h.0, h.1, did_plain nodes nodes' k k' did _ h.2)
turn_wired u l nodes nodes' k k' (Some ws) q n did h = (
  h.0,
  h.1,
  subst (IsDidOn did nodes k (Some ws) nodes' k' (Some ws)) (sym (turn_same (coded u) l (numbered_wires ws) q h.0 (machine_from nodes k.links) n (slice_get (map (λ x. x.state) nodes) n)))
      (did_wired nodes nodes' k k' ws did (turn_in (coded u) l q h.0 (machine_from nodes k.links) n (slice_get (map (λ x. x.state) nodes) n)) h.2),
)

-- the move of a link's head, where no link is a wire
pub move_plain : (u : Code) (l : Placement) (nodes nodes' : List NodeOf) (k k' : LinksOf Packet) (q a b : ℕ) (did : Did)
    → IsDid did nodes k nodes' k' (move_in (coded u) l (machine_from nodes k.links) a b (map numbered (list_at pair_cmp (a, b) k.links)))
    → EventMakes u l q (Ev.Link a b) did nodes k None nodes' k' None
move_plain u l nodes nodes' k k' q a b did h = (
  0,
  tt,
  did_plain nodes nodes' k k' did _ (subst (λ z. IsDid did nodes k nodes' k' (move_in (coded u) l (machine_from nodes k.links) a b z)) (sym (list_numbered (a, b) k.links)) h),
)

-- what comes to the far end, as it is answered
coming_empty : (x : Coming Packet) → R.Empty ≡ arrived_of x → x ≡ Empty
coming_empty Empty h = refl
coming_empty (Stale n) h = absurd (cc)
coming_empty (Next p) h = absurd (cc)

coming_stale : (x : Coming Packet) (n : ℕ) → R.Stale n ≡ arrived_of x → x ≡ Stale n
coming_stale (Stale m) n h = let e : n ≡ m = cc in ap Stale (sym e)
coming_stale Empty n h = absurd (cc)
coming_stale (Next p) n h = absurd (cc)

coming_next : (x : Coming Packet) (p : Packet) → R.Next p ≡ arrived_of x → x ≡ Next p
coming_next (Next q) p h = let e : p ≡ q = cc in ap Next (sym e)
coming_next Empty p h = absurd (cc)
coming_next (Stale m) p h = absurd (cc)

-- a frame that comes, or none
module _ (u : Code) (l : Placement) (nodes nodes' : List NodeOf) (k k' : LinksOf Packet) (ws ws' : LinkWires) (a b : ℕ) where
  abbrev moved_to : Coming NumberedPacket → MachineActed Placed
  moved_to x = kept_move (coded u) l (machine_on nodes k.links (Some ws)) (numbered_wires ws) a b x

  comes : (x : Coming Packet) → kept_coming (wire_of ws (a, b)) ≡ x → kept_coming (kept_at (numbered_wires ws) (a, b)) ≡ numbered_coming x
  comes x h = ap kept_coming (kept_numbered (a, b) ws) ∙ coming_numbered (wire_of ws (a, b)) ∙ ap numbered_coming h

  taken : ws' ≡ put pair_cmp (a, b) (kept_take (wire_of ws (a, b))) ws → put pair_cmp (a, b) (kept_take (kept_at (numbered_wires ws) (a, b))) (numbered_wires ws) ≡ numbered_wires ws'
  taken e =
      ap (λ v. put pair_cmp (a, b) v (numbered_wires ws)) (ap kept_take (kept_numbered (a, b) ws) ∙ take_numbered (wire_of ws (a, b)))
      ∙ put_numbered (a, b) (kept_take (wire_of ws (a, b))) ws ∙ ap numbered_wires (sym e)

  pub nothing_comes : R.Empty ≡ arrived_of (kept_coming (wire_of ws (a, b))) → ws' ≡ ws → IsDidOn (D.Line W.Idle) nodes k (Some ws) nodes k (Some ws') (moved_to (kept_coming (kept_at (numbered_wires ws) (a, b))))
  nothing_comes h e =
      subst (λ x. IsDidOn (D.Line W.Idle) nodes k (Some ws) nodes k (Some ws') (moved_to x)) (sym (comes Empty (coming_empty _ h)))
      (refl, ap (λ (z : LinkWires). machine_on nodes k.links (Some z)) e)

  pub stale_comes : (n : ℕ) → R.Stale n ≡ arrived_of (kept_coming (wire_of ws (a, b))) → ws' ≡ put pair_cmp (a, b) (kept_take (wire_of ws (a, b))) ws
      → IsDidOn (D.Line (W.Stale n)) nodes k (Some ws) nodes k (Some ws') (moved_to (kept_coming (kept_at (numbered_wires ws) (a, b))))
  stale_comes n h e =
      subst (λ x. IsDidOn (D.Line (W.Stale n)) nodes k (Some ws) nodes k (Some ws') (moved_to x)) (sym (comes (Stale n) (coming_stale _ n h)))
      (refl, ap (λ (vs : KeptWires). record (machine_from nodes k.links) { wires = Some vs }) (sym (taken e)))

  module _ (p : Packet) (h : R.Next p ≡ arrived_of (kept_coming (wire_of ws (a, b)))) where
    abbrev plain_move : MachineActed Placed
    plain_move = move_in (coded u) l (machine_from nodes k.links) a b (map numbered (list_at pair_cmp (a, b) k.links))

    -- the head of the link moves
    heads : (vs : KeptWires) → put pair_cmp (a, b) (kept_take (kept_at (numbered_wires ws) (a, b))) (numbered_wires ws) ≡ vs
        → with_kept vs (move_in (coded u) l (machine_from nodes k.links) a b (map numbered (list_at pair_cmp (a, b) k.links))) ≡ moved_to (kept_coming (kept_at (numbered_wires ws) (a, b)))
    heads vs e =
        ap (λ es. with_kept vs (move_in (coded u) l (machine_from nodes k.links) a b es)) (sym (list_numbered (a, b) k.links))
        ∙ sym (kept_twice (coded u) l (numbered_wires ws) vs (move_in (coded u) l (machine_from nodes k.links) a b (list_at pair_cmp (a, b) (machine_from nodes k.links).links)))
        ∙ ap (with_kept vs) (sym (move_same (coded u) l (numbered_wires ws) (machine_from nodes k.links) a b (list_at pair_cmp (a, b) (machine_from nodes k.links).links)))
        ∙ ap (λ (us : KeptWires). with_kept us (move_in (coded u) l (machine_on nodes k.links (Some ws)) a b (list_at pair_cmp (a, b) (machine_on nodes k.links (Some ws)).links))) (sym e)
        ∙ ap moved_to (sym (comes (Next p) (coming_next _ p h)))

    pub next_comes : (what : What) → IsDid (D.Line what) nodes k nodes' k' (move_in (coded u) l (machine_from nodes k.links) a b (map numbered (list_at pair_cmp (a, b) k.links)))
        → ws' ≡ put pair_cmp (a, b) (kept_take (wire_of ws (a, b))) ws
        → IsDidOn (D.Line what) nodes k (Some ws) nodes' k' (Some ws') (moved_to (kept_coming (kept_at (numbered_wires ws) (a, b))))
    next_comes what d e = subst (IsDidOn (D.Line what) nodes k (Some ws) nodes' k' (Some ws')) (heads (numbered_wires ws') (taken e)) (line_wired nodes nodes' k k' ws ws' what _ d)

    pub next_waits : (kind : _) (node : ℕ) → IsDid (D.Full kind node) nodes k nodes' k' (move_in (coded u) l (machine_from nodes k.links) a b (map numbered (list_at pair_cmp (a, b) k.links)))
        → ws' ≡ ws
        → IsDidOn (D.Full kind node) nodes k (Some ws) nodes' k' (Some ws') (moved_to (kept_coming (kept_at (numbered_wires ws) (a, b))))
    next_waits kind node d e =
        subst (λ z. IsDidOn (D.Full kind node) nodes k (Some ws) nodes' k' (Some z) (moved_to (kept_coming (kept_at (numbered_wires ws) (a, b))))) (sym e)
        (subst (IsDidOn (D.Full kind node) nodes k (Some ws) nodes' k' (Some ws)) (heads _ refl) (full_wired nodes nodes' k k' ws _ kind node _ d))

  -- what else happens on the wire
  pub told_wired : (q : ℕ) (act : WireAct) (what : What) → LinkWireReports ws (a, b) (kept_act act (list_at pair_cmp (a, b) k.links) (wire_of ws (a, b))) what ws'
      → EventMakes u l q (Ev.Wire act a b) (D.Line what) nodes k (Some ws) nodes k (Some ws')
  told_wired q act what h = (
    0,
    tt,
    subst (λ r. IsDidOn (D.Line what) nodes k (Some ws) nodes k (Some ws') (kept_turn (machine_on nodes k.links (Some ws)) (numbered_wires ws) (a, b) r)) (sym same)
        (by (kept_act act (list_at pair_cmp (a, b) k.links) (wire_of ws (a, b))) h),
  )
    where
      same : kept_act act (list_at pair_cmp (a, b) (machine_from nodes k.links).links) (kept_at (numbered_wires ws) (a, b)) ≡ numbered_result (kept_act act (list_at pair_cmp (a, b) k.links) (wire_of ws (a, b)))
      same = ap₂ (kept_act act) (list_numbered (a, b) k.links) (kept_numbered (a, b) ws) ∙ act_numbered act (list_at pair_cmp (a, b) k.links) (wire_of ws (a, b))

      by : (r : Option (What × KeptWire Packet)) → LinkWireReports ws (a, b) r what ws'
          → IsDidOn (D.Line what) nodes k (Some ws) nodes k (Some ws') (kept_turn (machine_on nodes k.links (Some ws)) (numbered_wires ws) (a, b) (numbered_result r))
      by None i = (i.0, ap (λ (z : LinkWires). machine_on nodes k.links (Some z)) i.1)
      by (Some r) i = (
        sym i.0,
        ap (λ (z : KeptWires). record (machine_from nodes k.links) { wires = Some z }) (ap numbered_wires i.1 ∙ sym (put_numbered (a, b) r.1 ws)),
      )

-- links that had a wire have one
pub wire_stays : (k j : Pair) (v : KeptWire Packet) (ws ws' : LinkWires) → ws' ≡ put pair_cmp k v ws → has_wire ws j ≡ true → has_wire ws' j ≡ true
wire_stays k j v ws ws' e h = ap (λ z. has_wire z j) e ∙ by (decide_link j k)
  where
    by : (j ≡ k) ⊎ (j ≢ k) → has_wire (put pair_cmp k v ws) j ≡ true
    by (inl i) = subst (λ z. has_wire (put pair_cmp k v ws) z ≡ true) (sym i) (ap is_some (find_pair_same k v ws))
    by (inr n) = ap is_some (find_pair_other j k v ws n) ∙ h

pub told_stays : (k j : Pair) (r : Option (What × KeptWire Packet)) (what : What) (ws ws' : LinkWires) → LinkWireReports ws k r what ws' → has_wire ws j ≡ true → has_wire ws' j ≡ true
told_stays k j None what ws ws' t h = ap (λ z. has_wire z j) t.1 ∙ h
told_stays k j (Some r) what ws ws' t h = wire_stays k j r.1 ws ws' t.1 h
