-- The move of the head of a link.
use Rattle.std.proofs.Common.{◌≡◌, refl, sym, ap, subst, ◌∙◌, ℕ, ◌+◌, ◌*◌, ◌<◌, ◌≤◌, ◌==◌, List, [], ◌∷◌, Some, Bool, true, false, if◌then◌else◌, nat_lt, arith}
use Rattle.std.specs.Prelude.{slice_get}
use Rattle.run_types.specs.declared.types.Event.TheVariants as Ev
use Rattle.run_types.specs.declared.types.What.TheVariants as Wt
use Rattle.run_types.specs.declared.types.FullKind.TheVariants as F
use Rattle.run_types.specs.declared.types.Placement.{Placement}
use Rattle.run_types.specs.Tables.{Pair, pair_cmp, list_at, put_list}
use Rattle.run_types.specs.LinkTables.{leaving}
use Rattle.run_types.proofs.Laws.{equal, there_at}
use Rattle.mesh_semantics.specs.Language.{Language}
use Rattle.mesh_semantics.specs.Config.{Config}
use Rattle.run_types.specs.Paths.{next, on_link, move_head}
use Rattle.mesh_semantics.specs.Delay.{Delay, post, cell_count}
use Rattle.mesh_semantics.specs.NumberedPackets.{NumberedPacket}
use Rattle.mesh_semantics.specs.Act as A
use Rattle.mesh_semantics.specs.Act.{plain_act, within, passed, link_move, goal_node, first_of, object_count, frame_count}
use Rattle.mesh_semantics.specs.Sound.{IsSound}
use Rattle.mesh_semantics.specs.Lawful.{Lawful}
use Rattle.node_semantics.specs.Node.{NodeState, message_count}
use Rattle.node_semantics.specs.Machine as M
use Rattle.node_semantics.specs.Machine.{Machine, plain_machine_act, move_in, come, post_packet}
use Rattle.mesh_semantics.specs.Requests.{Requests}
use Rattle.node_semantics.specs.StandsFor.{PacketFits, packets, MachineStandsFor}
use Rattle.node_semantics.proofs.ActsAgree.{Agrees}
use Rattle.node_semantics.proofs.KeptNumbers.{fits_kept}
use Rattle.node_semantics.proofs.PostedLinks.{is_head}
use Rattle.node_semantics.proofs.SmallChanges.{head_fits, head_stands, post_stands}
use Rattle.node_semantics.proofs.NodeCounts.{cells_count}
use Rattle.node_semantics.proofs.LimitsAndTurn.{leaves, within_row}
use Rattle.node_semantics.proofs.ReceiptsAgree.{receipt_row}

not_below : (a b : ℕ) → a ≤ b → nat_lt b a ≡ false
not_below a b h = grind (arith, h)

module _ {S : Type 0} (g : Language S) (W : Config S → Type 0) (law : Lawful g W) (req : Requests g W) (l : Placement) (few : l.objects < 65536)
    (m : Machine S) (c : Config S) (d : Delay) (sound : IsSound g W l c d) (st : MachineStandsFor g l m c d) (a b : ℕ) (inside : b < l.width * l.height) where
  abbrev k : Pair
  k = (a, b)

  node : (x : NodeState S) × (slice_get m.nodes b ≡ Some x)
  node = there_at m.nodes b (subst (λ z. b < z) (sym st.nodes) inside)

  -- the head of a link
  module _ (e : NumberedPacket) (rest : List NumberedPacket) (head : list_at pair_cmp (a, b) m.links ≡ e ∷ rest) where
    abbrev m₁ : Machine S
    m₁ = record m { links = put_list pair_cmp (a, b) rest m.links }

    abbrev d₁ : Delay
    d₁ = record d { links = move_head (a, b) d.links }

    st₁ : MachineStandsFor g l m₁ c d₁
    st₁ = head_stands g l m c d st (a, b) e rest head

    fit : PacketFits m₁ e
    fit = fits_kept m m₁ e (λ q i. record { request = refl; goal = refl }) (λ q z. z) (head_fits g l m c d st (a, b) e rest head)

    first : first_of (on_link d.links (a, b)) ≡ Some e.packet
    first = is_head m.links d.links st.links (a, b) e rest head

    -- it goes on
    module _ (x : NodeState S) (is : slice_get m.nodes b ≡ Some x) where
      m₂ : Machine S
      m₂ = record m₁ { links = post_packet l b (Some e) m₁.links }

      abbrev d₂ : Delay
      d₂ = post l b (goal_node e.packet) e.packet d₁

      st₂ : MachineStandsFor g l (record m₁ { links = post_packet l b (Some e) m₁.links }) c d₂
      st₂ = post_stands g l m₁ c d₁ st₁ (b, next l b (goal_node e.packet)) e fit

      cells : cell_count d₂ b ≡ message_count x.slots + leaving m₁.links b + 1
      cells =
          let u = cells_count g W law req l (record m₁ { links = post_packet l b (Some e) m₁.links }) c d₂ st₂ sound.state.typed b x is in
          let v = leaves g W law req l m₁ c d₁ st₁ b x is (Some e) in omega (arith, u, v)

      pass : Agrees g l (if nat_lt l.cells (message_count x.slots + leaving m₁.links b + 1) then M.Full F.Cells b else M.Acts Wt.Pass (record m₁ { links = post_packet l b (Some e) m₁.links }))
          (within g l b (A.Acts Wt.Pass c d₂))
      pass = by (nat_lt l.cells (message_count x.slots + leaving m₁.links b + 1)) refl
        where
          i : nat_lt l.objects (object_count c b) ≡ false
          i = not_below (object_count c b) l.objects (sound.limits b).0

          j : nat_lt l.frames (frame_count g c b) ≡ false
          j = not_below (frame_count g c b) l.frames (sound.limits b).1

          by : (t : Bool) → nat_lt l.cells (message_count x.slots + leaving m₁.links b + 1) ≡ t
              → Agrees g l (if nat_lt l.cells (message_count x.slots + leaving m₁.links b + 1) then M.Full F.Cells b else M.Acts Wt.Pass (record m₁ { links = post_packet l b (Some e) m₁.links }))
              (within g l b (A.Acts Wt.Pass c d₂))
          by true z = rw (i, j, cells, z) (refl, refl)
          by false z = rw (i, j, cells, z) (refl, st₂)

      arrived : (t : Bool) → (goal_node e.packet == b) ≡ t → Agrees g l (come g l m₁ b e (Some x)) (within g l b (passed g l c d₁ b e.packet))
      arrived true z = rw z (within_row g W law req l m₁ c d₁ st₁ b x is _ _
          (receipt_row g W l c d sound (a, b) law req few m₁ st₁ b x is e.number e.packet fit first (equal (goal_node e.packet) b z)))
      arrived false z = rw z pass

    moved : Agrees g l (come g l m₁ b e (slice_get m.nodes b)) (within g l b (passed g l c d₁ b e.packet))
    moved = subst (λ z. Agrees g l (come g l m₁ b e z) (within g l b (passed g l c d₁ b e.packet))) (sym node.1) (arrived node.0 node.1 (goal_node e.packet == b) refl)

  pub link_agrees : (q fresh : ℕ) → Agrees g l (plain_machine_act g l q fresh m (Ev.Link a b)) (plain_act g l q c d (Ev.Link a b))
  link_agrees q fresh = by (list_at pair_cmp (a, b) m.links) refl
    where
      by : (es : List NumberedPacket) → list_at pair_cmp (a, b) m.links ≡ es → Agrees g l (move_in g l m a b es) (link_move g l c d a b (first_of (on_link d.links (a, b))))
      by [] h =
          let z : on_link d.links (a, b) ≡ [] = sym (st.links (a, b)) ∙ ap packets h in
          subst (λ p. Agrees g l (M.Acts Wt.Idle m) (link_move g l c d a b (first_of p))) (sym z) (refl, st)
      by (e ∷ rest) h = subst (λ p. Agrees g l (come g l (record m { links = put_list pair_cmp (a, b) rest m.links }) b e (slice_get m.nodes b)) (link_move g l c d a b p)) (sym (first e rest h)) (moved e rest h)
