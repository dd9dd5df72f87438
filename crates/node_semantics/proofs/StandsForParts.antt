-- The abstraction relation after a change, from its parts.
use Rattle.std.proofs.Common.{◌≡◌, ◌≢◌, ◌⊎◌, inl, inr, sym, subst, ◌∙◌, IsTrue, ℕ, ◌≤◌, List, length, Some}
use Rattle.std.specs.Prelude.{slice_get}
use Rattle.std.specs.Ordering.{nat_cmp}
use Rattle.std.specs.FinMap.{find}
use Rattle.std.specs.FinMap.Entries.{is_sorted}
use Rattle.run_types.specs.declared.types.Placement.{Placement}
use Rattle.run_types.specs.Tables.{Pair, pair_cmp, list_at, Each}
use Rattle.run_types.proofs.Laws.{decide, same_some}
use Rattle.mesh_semantics.specs.Language.{Language}
use Rattle.mesh_semantics.specs.Config.{Config, object_of}
use Rattle.run_types.specs.Paths.{on_link}
use Rattle.mesh_semantics.specs.Delay.{Delay, arrived_at, held, made_by}
use Rattle.mesh_semantics.specs.NumberedPackets.{NumberedPacket}
use Rattle.run_types.specs.ObjectNames.{node_of}
use Rattle.node_semantics.specs.Node.{NodeState, set_at}
use Rattle.node_semantics.specs.Machine.{Machine}
use Rattle.node_semantics.specs.StandsFor.{slot_at, request_of, PacketFits, packets, MachineStandsFor, CountsMade}
use Rattle.node_semantics.proofs.NamesAndSlots.{set_same, set_other, set_length}
use Rattle.node_semantics.proofs.NamesAfterChange.{Spot}

module _ {S : Type 0} (g : Language S) (l : Placement) (m : Machine S) (c : Config S) (d : Delay) (st : MachineStandsFor g l m c d) (n : ℕ) (x : NodeState S) (node : slice_get m.nodes n ≡ Some x) where
  -- what holds of each node holds still, if it does of the one that is changed
  each_node : (P Q : ℕ → NodeState S → Type 0) (x' : NodeState S) → ((b : ℕ) (y : NodeState S) → slice_get m.nodes b ≡ Some y → P b y)
      → ((b : ℕ) (y : NodeState S) → b ≢ n → P b y → Q b y) → Q n x' → (b : ℕ) (y : NodeState S) → slice_get (set_at m.nodes n x') b ≡ Some y → Q b y
  each_node P Q x' f grow h b y i = by (decide b n)
    where
      by : (b ≡ n) ⊎ (b ≢ n) → Q b y
      by (inl e) =
          let z : slice_get (set_at m.nodes n x') n ≡ Some y = subst (λ k. slice_get (set_at m.nodes n x') k ≡ Some y) e i in
          let same : x' ≡ y = same_some (sym (set_same m.nodes n x x' node) ∙ z) in
          subst (λ k. Q k y) (sym e) (subst (Q n) same h)
      by (inr e) = grow b y e (f b y (sym (set_other m.nodes n b x' e) ∙ i))

  module _ (x' : NodeState S) (links' : List (Pair × List NumberedPacket)) (c' : Config S) (d' : Delay) where
    abbrev pub now : Machine S
    now = record m { nodes = set_at m.nodes n x'; links = links' }

    pub assemble : (length x'.slots ≤ 65536)
        → (x'.last ≡ find nat_cmp n d'.last) → ((b : ℕ) → b ≢ n → find nat_cmp b d'.last ≡ find nat_cmp b d.last)
        → CountsMade g x' d' n → ((b k : ℕ) → b ≢ n → made_by d' b k ≡ made_by d b k)
        → ((q : ℕ) → Spot g now q (slot_at now q) (object_of c' q) (held d' q) (arrived_at d' q))
        → ((k : Pair) → packets (list_at pair_cmp k links') ≡ on_link d'.links k) → IsTrue (is_sorted pair_cmp links')
        → ((k : Pair) → Each (PacketFits now) (list_at pair_cmp k links'))
        → ((o p k : ℕ) → node_of o ≡ node_of p → request_of now o ≡ Some k → request_of now p ≡ Some k → o ≡ p)
        → MachineStandsFor g l now c' d'
    assemble few last last_else made made_else spots links in_order on_links distinct = record {
      nodes = set_length m.nodes n x' ∙ st.nodes;
      few = each_node (λ b y. length y.slots ≤ 65536) (λ b y. length y.slots ≤ 65536) x' st.few (λ b y e h. h) few;
      named = λ q. (spots q).0;
      links = links;
      in_order = in_order;
      last = each_node (λ b y. y.last ≡ find nat_cmp b d.last) (λ b y. y.last ≡ find nat_cmp b d'.last) x' st.last (λ b y e h. h ∙ sym (last_else b e)) last;
      made = each_node (λ a y. CountsMade g y d a) (λ a y. CountsMade g y d' a) x' st.made (λ a y e h. (h.0, (λ k i. h.1 k i ∙ sym (made_else a k e)))) made;
      distinct = distinct;
      on_links = on_links;
      in_mailboxes = λ q. (spots q).1;
      in_callers = λ q. (spots q).2;
    }

    -- numbers that were out before
    pub fewer : ((q k : ℕ) → request_of now q ≡ Some k → request_of m q ≡ Some k)
        → (o p k : ℕ) → node_of o ≡ node_of p → request_of now o ≡ Some k → request_of now p ≡ Some k → o ≡ p
    fewer f o p k e i j = st.distinct o p k e (f o k i) (f p k j)
