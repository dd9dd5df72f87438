-- The changes that a step makes to a node: another content of one slot, or one slot more.
use Rattle.std.specs.Prelude.{◌≡◌, ℕ, [], ◌∷◌, ◌++◌, length, Option, Some, None, slice_set}
use Rattle.run_types.specs.declared.types.Serves.{Serves}
use Rattle.run_types.specs.declared.types.Serves.TheVariants as S
use Rattle.code_semantics.specs.declared.unit.Unit.{Unit as Code}
use Rattle.mesh_of_code.specs.Coded.{Placed, coded}
use Rattle.node_semantics.specs.Node.{Slot, can_go, fresh_slot, set_at}
use Rattle.node_state.specs.declared.state.NodeParts.{NodeParts}
use Rattle.node_state.specs.NodeOf.{NodeOf}
use Rattle.node_state.specs.OfUnit.{IsOfUnit}
use Rattle.node_state.specs.Views.{NodeInvariant, node_of}

-- a node with another content of one slot
abbrev pub changed : Code → NodeOf → ℕ → Slot Placed → NodeOf
changed u n i s = record n { state = record n.state { slots = set_at n.state.slots i s }; ready = slice_set n.ready i (can_go (coded u) n.id (i, s)) }

-- Slot i has the content s, and the node still is of the unit.
pub record IsChanged (u : Code) (old new : NodeParts) (i : ℕ) (s : Slot Placed) : Type 0 where
  pub whole : NodeInvariant new
  pub unit : IsOfUnit u (node_of new)
  pub is : node_of new ≡ changed u (node_of old) i s

-- a node with one slot more
abbrev pub added : Code → NodeOf → Placed → NodeOf
added u n y = record n {
  state = record n.state { slots = n.state.slots ++ fresh_slot y ∷ [] };
  ready = n.ready ++ can_go (coded u) n.id (length n.state.slots, fresh_slot y) ∷ [];
}

pub record IsAdded (u : Code) (old new : NodeParts) (y : Placed) : Type 0 where
  pub whole : NodeInvariant new
  pub unit : IsOfUnit u (node_of new)
  pub is : node_of new ≡ added u (node_of old) y

-- who receives the value of a method that is started for a message
abbrev pub serves_for_call : ℕ → Option ℕ → Serves
serves_for_call from None = S.Sender
serves_for_call from (Some number) = S.Caller from number
