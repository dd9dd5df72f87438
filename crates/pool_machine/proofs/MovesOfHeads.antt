-- The effect of the move of a link's head on the whole machine.
use Rattle.std.proofs.Common.{◌≡◌, ◌≢◌, inl, inr, refl, sym, ap, ap₂, subst, ◌∙◌, ℕ, ◌+◌, ◌*◌, ◌<◌, ◌≤◌, ◌==◌, List, [], ◌∷◌, length, map, set, get_or, drop, Option, Some, None, Bool, true, false, if◌then◌else◌, nat_lt, arith}
use Rattle.std.specs.Prelude.{slice_get}
use Rattle.run_types.specs.declared.types.Event.TheVariants as Ev
use Rattle.run_types.specs.declared.types.What.{What}
use Rattle.run_types.specs.declared.types.What.TheVariants as W
use Rattle.run_types.specs.declared.types.FullKind.{FullKind}
use Rattle.run_types.specs.declared.types.FullKind.TheVariants as F
use Rattle.run_types.specs.declared.types.Placement.{Placement}
use Rattle.code_semantics.specs.declared.unit.Unit.{Unit as Code}
use Rattle.run_types.specs.Tables.{Pair, list_at, pair_cmp, put_list, Each}
use Rattle.run_types.specs.LinkTables.{push_list, leaving}
use Rattle.run_types.specs.Paths.{AreNeighbours, IsLink, next, on_link}
use Rattle.mesh_semantics.specs.Act.{goal_node}
use Rattle.mesh_semantics.specs.Delay as Del
use Rattle.mesh_semantics.specs.Sound.{IsPlaced}
use Rattle.run_types.proofs.Laws.{equal, equals, same_some}
use Rattle.node_semantics.specs.Node as N
use Rattle.node_semantics.specs.Node.{NodeState, NodeActed, created_for, frames_in, message_count, packet_count, receipt, receipt_act, within_node}
use Rattle.mesh_semantics.specs.NumberedPackets.{NumberedPacket}
use Rattle.node_semantics.specs.Machine as M
use Rattle.node_semantics.specs.Machine.{Machine, MachineActed, after_node, come, machine_act, move_in, post_packet}
use Rattle.node_semantics.specs.Receives.{IsReceivable}
use Rattle.node_semantics.specs.StandsFor.{packets}
use Rattle.node_semantics.proofs.Laws.{head_is_receivable}
use Rattle.mesh_of_code.specs.Coded.{Placed, coded}
use Rattle.mesh_of_code.specs.CodeInvariant.{IsOfCode}
use Rattle.mesh_of_code.proofs.Laws.{code_lawful, code_names, code_requests}
use Rattle.rendezvous_protocol.specs.declared.packet.Packet.{Packet}
use Rattle.rendezvous_protocol.specs.Packets.{numbered}
use Rattle.mesh_routing.specs.Links.{LinksOf}
use Rattle.node_state.specs.NodeOf.{NodeOf}
use Rattle.node_state.specs.OfUnit.{IsOfUnit}
use Rattle.node_turns.specs.Acts.{IsActOf}
use Rattle.node_acts.specs.ActOf.{Act}
use Rattle.node_acts.specs.ActOf as T
use Rattle.pool_node.specs.Acceptable.{IsAcceptable}
use Rattle.pool_node.proofs.Laws.{acceptable}
use Rattle.machine_network.specs.LinkWires.{numbered_link}
use Rattle.machine_network.proofs.Laws.{leaving_numbered, list_numbered, listed_elsewhere, listed_filled, listed_numbered, pushed_filled, state_there}
use Rattle.pool_machine.specs.Parts.{NodesInvariant, NodesAreWellFormed, IsDid, machine_from}
use Rattle.pool_machine.specs.DidOf as D
use Rattle.pool_machine.proofs.ChangedNodes.{parts_moved}
use Rattle.pool_machine.proofs.PostedPackets.{each_on, few_objects, posted, within_room}
use Rattle.pool_machine.proofs.TurnsOfNodes.{after_numbered, full_did, full_same, idle_same, is_node, line_did, line_of, links_after, node_after, node_here, parts_after}

pub first_and_rest : {X : Type 0} (xs : List X) (x : X) → slice_get xs 0 ≡ Some x → xs ≡ x ∷ drop 1 xs
first_and_rest [] x h = absurd (cc)
first_and_rest (y ∷ xs) x h = ap (λ z. z ∷ xs) (same_some h)

not_itself : (x : ℕ) → x + 1 ≡ x → ⊥
not_itself x h = omega (arith, h)

above : (x y : ℕ) → x < y → nat_lt x y ≡ true
above x y i = grind (arith, i)

within : (x y : ℕ) → y ≤ x → nat_lt x y ≡ false
within x y i = grind (arith, i)

pub no_first : {X : Type 0} (xs : List X) → slice_get xs 0 ≡ None → xs ≡ []
no_first [] h = refl
no_first (x ∷ xs) h = absurd (cc)

-- a node is no neighbour of itself
pub apart : (w a b : ℕ) → AreNeighbours w a b → a ≢ b
apart w a b h e = by (subst (λ z. AreNeighbours w a z) (sym e) h)
  where
    by : AreNeighbours w a a → ⊥
    by (inl z) = elim z.1 as (λ q. ⊥) [ inl s ↦ not_itself _ s | inr s ↦ not_itself _ s ]
    by (inr z) = elim z.1 as (λ q. ⊥) [ inl s ↦ not_itself _ s | inr s ↦ not_itself _ s ]

-- a receipt is never idle
module _ (n n' : NodeOf) where
  tested : (w : What) (p : Option NumberedPacket) (y : NodeState Placed) (a b c : Bool)
      → IsActOf T.Idle n n' (if a then N.Full F.Heap else (if b then N.Full F.Frames else (if c then N.Full F.Cells else N.Acts w p y))) → ⊥
  tested w p y true b c h = h
  tested w p y false true c h = h
  tested w p y false false true h = h
  tested w p y false false false h = h

  within_idle : (u : Code) (l : Placement) (out : ℕ) (a : NodeActed Placed) → a ≢ N.Idle → IsActOf T.Idle n n' (within_node (coded u) l out a) → ⊥
  within_idle u l out N.Idle other h = other refl
  within_idle u l out (N.Full k) other h = h
  within_idle u l out N.Nothing other h = h
  within_idle u l out (N.Acts w p y) other h =
      tested w p y (nat_lt l.objects (length y.slots)) (nat_lt l.frames (frames_in (coded u) y.slots)) (nat_lt l.cells (message_count y.slots + out + packet_count p)) h

made_acts : (i : ℕ) (x : NodeState Placed) (number : Option ℕ) (o class : ℕ) (y : Option Placed) → created_for i x number o class y ≢ N.Idle
made_acts i x number o class None h = cc
made_acts i x number o class (Some y) h = cc

receipt_acts : (u : Code) (i : ℕ) (x : NodeState Placed) (number : Option ℕ) (p : Del.Packet) → receipt (coded u) i x number p ≢ N.Idle
receipt_acts u i x number (Del.Create o goal class) h = made_acts i x number o class ((coded u).made class) h
receipt_acts u i x number (Del.Created o name) h = cc
receipt_acts u i x number (Del.Request o r m args) h = cc
receipt_acts u i x number (Del.Result o v) h = cc
receipt_acts u i x number (Del.Async o r m args) h = cc

pub never_idle : (u : Code) (l : Placement) (i out : ℕ) (x : NodeState Placed) (e : NumberedPacket) (n n' : NodeOf) → IsActOf T.Idle n n' (receipt_act (coded u) l i out e x) → ⊥
never_idle u l i out x e n n' h = within_idle n n' u l out (receipt (coded u) i x e.number e.packet) (receipt_acts u i x e.number e.packet) h

-- the links after the head has left one
abbrev pub headless : ℕ → ℕ → LinksOf Packet → LinksOf Packet
headless a b k = record k { links = put_list pair_cmp (a, b) (drop 1 (list_at pair_cmp (a, b) k.links)) k.links }

module _ (u : Code) (l : Placement) (nodes : List NodeOf) (k : LinksOf Packet) (kept : NodesInvariant u l nodes k) (a b : ℕ) (link : IsLink l (a, b)) (d : NodeOf) (packet : Packet)
    (head : slice_get (list_at pair_cmp (a, b) k.links) 0 ≡ Some packet) where
  abbrev n : NodeOf
  n = get_or nodes b d

  here : slice_get nodes b ≡ Some (get_or nodes b d)
  here = node_here u l nodes k kept b link.to d

  all : list_at pair_cmp (a, b) k.links ≡ packet ∷ drop 1 (list_at pair_cmp (a, b) k.links)
  all = first_and_rest (list_at pair_cmp (a, b) k.links) packet head

  all_numbered : list_at pair_cmp (a, b) (map numbered_link k.links) ≡ numbered packet ∷ map numbered (drop 1 (list_at pair_cmp (a, b) k.links))
  all_numbered = list_numbered (a, b) k.links ∙ ap (map numbered) all

  -- as many leave the other node as before
  pub leaving_same : leaving (headless a b k).links b ≡ leaving k.links b
  leaving_same = listed_elsewhere b (a, b) (drop 1 (list_at pair_cmp (a, b) k.links)) k.links (apart l.width a b link.beside)

  out_same : leaving (map numbered_link (headless a b k).links) b ≡ leaving k.links b
  out_same = leaving_numbered b (headless a b k).links ∙ leaving_same

  comes : move_in (coded u) l (machine_from nodes k.links) a b (map numbered (list_at pair_cmp (a, b) k.links))
      ≡ come (coded u) l (machine_from nodes (headless a b k).links) b (numbered packet) (Some (get_or nodes b d).state)
  comes =
      ap (λ (z : List NumberedPacket). move_in (coded u) l (machine_from nodes k.links) a b z) (ap (map numbered) all)
      ∙ ap (λ (z : List (Pair × List NumberedPacket)). come (coded u) l (record { nodes = map (λ n. n.state) nodes; links = z; wires = None }) b (numbered packet) (slice_get (map (λ n. n.state) nodes) b))
      (listed_numbered (a, b) (drop 1 (list_at pair_cmp (a, b) k.links)) k.links)
      ∙ ap (λ z. come (coded u) l (machine_from nodes (headless a b k).links) b (numbered packet) z) (state_there nodes b (get_or nodes b d) here)

  pub is_act : (q fresh : ℕ) → machine_act (coded u) l q fresh (machine_from nodes k.links) (Ev.Link a b)
      ≡ move_in (coded u) l (machine_from nodes k.links) a b (map numbered (list_at pair_cmp (a, b) k.links))
  is_act q fresh = ap (λ z. move_in (coded u) l (machine_from nodes k.links) a b z) (list_numbered (a, b) k.links)

  headless_parts : NodesAreWellFormed u l nodes (headless a b k)
  headless_parts = parts_moved u l nodes k kept.parts (put_list pair_cmp (a, b) (drop 1 (list_at pair_cmp (a, b) k.links)) k.links)
      (listed_filled (a, b) (drop 1 (list_at pair_cmp (a, b) k.links)) k.links kept.parts.filled)

  -- the packet goes to a node of the mesh
  pub goal_inside : goal_node (numbered packet).packet < l.width * l.height
  goal_inside =
      let on : on_link kept.delay.links (a, b) ≡ (numbered packet).packet ∷ packets (map numbered (drop 1 (list_at pair_cmp (a, b) k.links))) = sym (kept.stands.state.links (a, b)) ∙ ap packets all_numbered in
      (subst (Each (λ x. IsPlaced l kept.config ((a, b), x))) on (each_on (IsPlaced l kept.config) kept.delay.links (a, b) kept.sound.state.packets)).0.goal

  -- at its goal
  module _ (at : goal_node (numbered packet).packet ≡ b) where
    pub arrives : move_in (coded u) l (machine_from nodes k.links) a b (map numbered (list_at pair_cmp (a, b) k.links))
        ≡ after_node l b (machine_from nodes (headless a b k).links) (receipt_act (coded u) l (get_or nodes b d).id (leaving k.links b) (numbered packet) (get_or nodes b d).state)
    arrives =
        comes
        ∙ ap (λ (z : Bool). if z then after_node l b (machine_from nodes (headless a b k).links) (receipt_act (coded u) l b (leaving (map numbered_link (headless a b k).links) b) (numbered packet) (get_or nodes b d).state)
        else (if nat_lt l.cells (message_count (get_or nodes b d).state.slots + leaving (map numbered_link (headless a b k).links) b + 1) then M.Full F.Cells b
        else M.Acts W.Pass (record (machine_from nodes (headless a b k).links) { links = post_packet l b (Some (numbered packet)) (map numbered_link (headless a b k).links) })))
        (ap (λ z. goal_node (numbered packet).packet == z) (sym at) ∙ equals (goal_node (numbered packet).packet))
        ∙ ap₂ (λ i j. after_node l b (machine_from nodes (headless a b k).links) (receipt_act (coded u) l i j (numbered packet) (get_or nodes b d).state))
        (sym (is_node u l nodes k kept b link.to d).id) out_same

    receivable : IsReceivable (coded u) (get_or nodes b d).id (get_or nodes b d).state (numbered packet).number (numbered packet).packet
    receivable =
        subst (λ i. IsReceivable (coded u) i (get_or nodes b d).state (numbered packet).number (numbered packet).packet) (sym (is_node u l nodes k kept b link.to d).id)
        (head_is_receivable (coded u) (IsOfCode u) (code_lawful u kept.parts.proper) (code_requests u) (code_names u kept.parts.proper) l (few_objects u l kept.parts.suits)
        (machine_from nodes k.links) kept.config kept.delay kept.sound kept.stands.state a b (numbered packet) (map numbered (drop 1 (list_at pair_cmp (a, b) k.links))) all_numbered at
        (get_or nodes b d).state (state_there nodes b (get_or nodes b d) here))

    pub is_acceptable : IsAcceptable (coded u) (get_or nodes b d).state (numbered packet).packet
    is_acceptable = acceptable (coded u) (get_or nodes b d).id (get_or nodes b d).state (numbered packet).number (numbered packet).packet receivable

    module _ (out : ℕ) (count : out ≡ leaving k.links b) where
      abbrev Received : Act → NodeOf → Type 0
      Received act n' = IsActOf act (get_or nodes b d) n' (receipt_act (coded u) l (get_or nodes b d).id out (numbered packet) (get_or nodes b d).state)

      here_received : (act : Act) (n' : NodeOf) → Received act n'
          → IsActOf act (get_or nodes b d) n' (receipt_act (coded u) l (get_or nodes b d).id (leaving k.links b) (numbered packet) (get_or nodes b d).state)
      here_received act n' h = subst (λ z. IsActOf act (get_or nodes b d) n' (receipt_act (coded u) l (get_or nodes b d).id z (numbered packet) (get_or nodes b d).state)) count h

      pub idle_received : (n' : NodeOf) → Received T.Idle n' → n' ≡ get_or nodes b d
      idle_received n' h = idle_same (get_or nodes b d) n' (receipt_act (coded u) l (get_or nodes b d).id out (numbered packet) (get_or nodes b d).state) h

      pub full_received : (kind : FullKind) (n' : NodeOf) → Received (T.Full kind) n' → n' ≡ get_or nodes b d
      full_received kind n' h = full_same kind (get_or nodes b d) n' (receipt_act (coded u) l (get_or nodes b d).id out (numbered packet) (get_or nodes b d).state) h

      pub full_move : (kind : FullKind) (n' : NodeOf) → Received (T.Full kind) n'
          → IsDid (D.Full kind b) nodes k (set nodes b n') k (move_in (coded u) l (machine_from nodes k.links) a b (map numbered (list_at pair_cmp (a, b) k.links)))
      full_move kind n' h =
          subst (IsDid (D.Full kind b) nodes k (set nodes b n') k) (sym arrives)
          (full_did u l nodes b (get_or nodes b d) here (headless a b k) k kind n' _ (here_received (T.Full kind) n' h))

      pub line_move : (what : What) (answer : Option Packet) (n' : NodeOf) (k' : LinksOf Packet) → Received (T.Line what answer) n' → k' ≡ links_after l b answer (headless a b k)
          → IsDid (D.Line what) nodes k (set nodes b n') k' (move_in (coded u) l (machine_from nodes k.links) a b (map numbered (list_at pair_cmp (a, b) k.links)))
      line_move what answer n' k' h e =
          subst (IsDid (D.Line what) nodes k (set nodes b n') k') (sym arrives)
          (subst (λ z. IsDid (D.Line what) nodes k (set nodes b n') z (after_node l b (machine_from nodes (headless a b k).links) (receipt_act (coded u) l (get_or nodes b d).id (leaving k.links b) (numbered packet) (get_or nodes b d).state))) (sym e)
          (line_did u l nodes b (get_or nodes b d) here k (headless a b k) what answer n' _ (here_received (T.Line what answer) n' h)))

      pub move_parts : (what : What) (answer : Option Packet) (n' : NodeOf) (k' : LinksOf Packet) → Received (T.Line what answer) n' → IsOfUnit u n'
          → k' ≡ links_after l b answer (headless a b k) → NodesAreWellFormed u l (set nodes b n') k'
      move_parts what answer n' k' h fits e =
          subst (NodesAreWellFormed u l (set nodes b n')) (sym e)
          (parts_after u l nodes b (get_or nodes b d) here k (headless a b k) answer headless_parts n'
          (node_after u l nodes b (get_or nodes b d) here k (headless a b k) headless_parts what answer n' _ h fits))

      pub move_posts : (what : What) (answer : Option Packet) (p : Packet) (n' : NodeOf) → answer ≡ Some p → Received (T.Line what answer) n'
          → (goal_node (numbered p).packet < l.width * l.height) × (b ≢ goal_node (numbered p).packet) × (leaving (headless a b k).links b < l.cells)
      move_posts what answer p n' some h =
          let f : IsActOf (T.Line what (Some p)) (get_or nodes b d) n' (receipt_act (coded u) l (get_or nodes b d).id (leaving k.links b) (numbered packet) (get_or nodes b d).state)
          = subst (λ z. IsActOf (T.Line what z) (get_or nodes b d) n' (receipt_act (coded u) l (get_or nodes b d).id (leaving k.links b) (numbered packet) (get_or nodes b d).state)) some
          (here_received (T.Line what answer) n' h) in
          let z = line_of what (Some p) (get_or nodes b d) n' (receipt_act (coded u) l (get_or nodes b d).id (leaving k.links b) (numbered packet) (get_or nodes b d).state) f in
          let r = within_room (coded u) l (leaving k.links b) what (numbered p) z.0 (receipt (coded u) (get_or nodes b d).id (get_or nodes b d).state (numbered packet).number (numbered packet).packet) z.1 in
          let q = posted u l kept.parts.proper kept.parts.suits (machine_from nodes k.links) kept.config kept.delay kept.sound kept.stands 1 0 (Ev.Link a b) (link.from, link.to) tt
          what (N.set_at (map (λ n. n.state) nodes) b z.0) (map numbered_link (headless a b k).links) b (numbered p)
          (is_act 1 0 ∙ arrives ∙ ap (after_node l b (machine_from nodes (headless a b k).links)) z.1) in
          let s = leaving_same in
          (q.0, q.1, omega (arith, r, s))

  -- on its way
  module _ (away : goal_node (numbered packet).packet ≢ b) where
    passes : move_in (coded u) l (machine_from nodes k.links) a b (map numbered (list_at pair_cmp (a, b) k.links))
        ≡ (if nat_lt l.cells (message_count (get_or nodes b d).state.slots + leaving k.links b + 1) then M.Full F.Cells b
        else M.Acts W.Pass (record (machine_from nodes (headless a b k).links) { links = post_packet l b (Some (numbered packet)) (map numbered_link (headless a b k).links) }))
    passes =
        comes
        ∙ ap (λ (z : Bool). if z then after_node l b (machine_from nodes (headless a b k).links) (receipt_act (coded u) l b (leaving (map numbered_link (headless a b k).links) b) (numbered packet) (get_or nodes b d).state)
        else (if nat_lt l.cells (message_count (get_or nodes b d).state.slots + leaving (map numbered_link (headless a b k).links) b + 1) then M.Full F.Cells b
        else M.Acts W.Pass (record (machine_from nodes (headless a b k).links) { links = post_packet l b (Some (numbered packet)) (map numbered_link (headless a b k).links) })))
        (other (goal_node (numbered packet).packet == b) refl)
        ∙ ap (λ i. if nat_lt l.cells (message_count (get_or nodes b d).state.slots + i + 1) then M.Full F.Cells b
        else M.Acts W.Pass (record (machine_from nodes (headless a b k).links) { links = post_packet l b (Some (numbered packet)) (map numbered_link (headless a b k).links) })) out_same
      where
        other : (t : Bool) → (goal_node (numbered packet).packet == b) ≡ t → (goal_node (numbered packet).packet == b) ≡ false
        other true e = absurd (away (equal (goal_node (numbered packet).packet) b e))
        other false e = e

    module _ (waiting out : ℕ) (wait : waiting ≡ message_count (get_or nodes b d).state.slots) (count : out ≡ leaving k.links b) where
      pub full_pass : l.cells < waiting + out + 1
          → IsDid (D.Full F.Cells b) nodes k nodes k (move_in (coded u) l (machine_from nodes k.links) a b (map numbered (list_at pair_cmp (a, b) k.links)))
      full_pass h =
          let t : nat_lt l.cells (message_count (get_or nodes b d).state.slots + leaving k.links b + 1) ≡ true = above l.cells (message_count (get_or nodes b d).state.slots + leaving k.links b + 1) (omega (arith, h, wait, count)) in
          subst (IsDid (D.Full F.Cells b) nodes k nodes k) (sym (passes ∙ ap (λ (z : Bool). if z then M.Full F.Cells b
          else M.Acts W.Pass (record (machine_from nodes (headless a b k).links) { links = post_packet l b (Some (numbered packet)) (map numbered_link (headless a b k).links) })) t))
          (refl, refl, refl, refl)

      pub line_pass : (k' : LinksOf Packet) → waiting + out + 1 ≤ l.cells → k' ≡ links_after l b (Some packet) (headless a b k)
          → IsDid (D.Line W.Pass) nodes k nodes k' (move_in (coded u) l (machine_from nodes k.links) a b (map numbered (list_at pair_cmp (a, b) k.links)))
      line_pass k' h e =
          let t : nat_lt l.cells (message_count (get_or nodes b d).state.slots + leaving k.links b + 1) ≡ false = within l.cells (message_count (get_or nodes b d).state.slots + leaving k.links b + 1) (omega (arith, h, wait, count)) in
          subst (IsDid (D.Line W.Pass) nodes k nodes k') (sym (passes ∙ ap (λ (z : Bool). if z then M.Full F.Cells b
          else M.Acts W.Pass (record (machine_from nodes (headless a b k).links) { links = post_packet l b (Some (numbered packet)) (map numbered_link (headless a b k).links) })) t)) (
            refl,
            ap (λ (z : LinksOf Packet). machine_from nodes z.links) e
                ∙ ap (λ (z : List (Pair × List NumberedPacket)). record { nodes = map (λ n. n.state) nodes; links = z; wires = None }) (after_numbered l b (Some packet) (headless a b k)),
          )

      pub pass_room : waiting + out + 1 ≤ l.cells → leaving (headless a b k).links b < l.cells
      pass_room h = let s = leaving_same in omega (arith, h, s, count)

    pub pass_parts : (k' : LinksOf Packet) → k' ≡ links_after l b (Some packet) (headless a b k) → NodesAreWellFormed u l nodes k'
    pass_parts k' e = subst (NodesAreWellFormed u l nodes) (sym e) (moved_on (headless a b k) headless_parts)
      where
        moved_on : (j : LinksOf Packet) → NodesAreWellFormed u l nodes j → NodesAreWellFormed u l nodes (links_after l b (Some packet) j)
        moved_on j parts = parts_moved u l nodes j parts (push_list pair_cmp (b, next l b (goal_node (numbered packet).packet)) packet j.links)
            (pushed_filled (b, next l b (goal_node (numbered packet).packet)) packet j.links parts.filled)
