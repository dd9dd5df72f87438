-- What calls on a node or a link of the mesh require.
use Rattle.std.proofs.Common.{◌≡◌, ℕ, ◌*◌, ◌<◌, List, Option, None, Some, true, is_some, length, ap, ap₂, sym, subst, ◌∙◌}
use Rattle.run_types.specs.declared.types.Placement.{Placement}
use Rattle.code_semantics.specs.declared.unit.Unit.{Unit as Code}
use Rattle.run_types.specs.Paths.{AreNeighbours, IsLink}
use Rattle.rendezvous_protocol.specs.declared.packet.Packet.{Packet}
use Rattle.mesh_routing.specs.Links.{IsLinkOf, LinksOf}
use Rattle.node_state.specs.NodeOf.{NodeOf}
use Rattle.pool_machine.specs.Parts.{NodesAreWellFormed}

module _ (u : Code) (l : Placement) (nodes : List NodeOf) (k : LinksOf Packet) (parts : NodesAreWellFormed u l nodes k) where
  pub node_listed : (i : ℕ) → i < l.width * l.height → i < length nodes
  node_listed i h = subst (λ n. i < n) (sym parts.count) h

  pub node_of_links : (i : ℕ) → i < l.width * l.height → i < k.width * k.height
  node_of_links i h = subst (λ n. i < n) (sym (ap₂ (λ w g. w * g) parts.width parts.height)) h

  pub link_of_links : (a b : ℕ) → IsLink l (a, b) → IsLinkOf k a b
  link_of_links a b h = (node_of_links a h.from, node_of_links b h.to, subst (λ w. AreNeighbours w a b) (sym parts.width) h.beside)

  -- for the placement of a table, and for links of the same mesh
  module _ (t : Placement) (is : t ≡ l) (k' : LinksOf Packet) where
    pub table_width : k'.width ≡ k.width → t.width ≡ k'.width
    table_width e = ap (λ (p : Placement). p.width) is ∙ sym parts.width ∙ sym e

    pub table_height : k'.height ≡ k.height → t.height ≡ k'.height
    table_height e = ap (λ (p : Placement). p.height) is ∙ sym parts.height ∙ sym e

  pub node_of_table : (t : Placement) → t ≡ l → (i : ℕ) → i < l.width * l.height → i < t.width * t.height
  node_of_table t is i h = subst (λ (p : Placement). i < p.width * p.height) (sym is) h

pub never_served : {X : Type 0} (wires : Option X) → is_some wires ≡ true → wires ≡ None → ⊥
never_served None h e = cc
never_served (Some w) h e = cc

-- a link of a mesh of this size
pub link_of_mesh : (k : LinksOf Packet) (w h a b : ℕ) → w ≡ k.width → h ≡ k.height → a < w * h → b < w * h → AreNeighbours w a b → IsLinkOf k a b
link_of_mesh k w h a b width height from to near =
    subst (λ n. (a < n) × (b < n) × AreNeighbours k.width a b) (ap₂ (λ x y. x * y) width height) (from, to, subst (λ x. AreNeighbours x a b) width near)
