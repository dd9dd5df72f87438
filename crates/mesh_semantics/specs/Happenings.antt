-- Sequences of events on one wire, in any order, and the wire after them.
use Rattle.std.specs.Prelude.{List, [], ◌∷◌, Option, Some, None, ◌≡◌}
use Rattle.run_types.specs.declared.types.What.{What}
use Rattle.run_types.specs.declared.types.WireAct.{WireAct}
use Rattle.mesh_semantics.specs.Wire.{Wire, enter, take, wire_act}
use Rattle.run_types.specs.Tables.{Pair}
use Rattle.mesh_semantics.specs.Delay.{Packet, Wires, wire_at}

-- an event on a wire: a packet enters, the first frame comes to the far end, or one of the other events
pub data Happening (X : Type 0) : Type 0 where
  Enters : (packet : X) → Happening X
  Comes : Happening X
  On : (act : WireAct) → Happening X

-- the wire after the event; it is unchanged if nothing was to be done
abbrev pub changed : {X : Type 0} → Wire X → Option (What × Wire X) → Wire X
changed w None = w
changed w (Some r) = r.1

abbrev pub happen : {X : Type 0} → Happening X → Wire X → Wire X
happen (Enters x) w = enter x w
happen Comes w = take w
happen (On a) w = changed w (wire_act a w)

-- the wire w after all of these events
abbrev pub happened : {X : Type 0} → List (Happening X) → Wire X → Wire X
happened [] w = w
happened (h ∷ hs) w = happened hs (happen h w)

-- the packets that entered in these events
abbrev pub entered : {X : Type 0} → List (Happening X) → List X
entered [] = []
entered (Enters x ∷ hs) = x ∷ entered hs
entered (_ ∷ hs) = entered hs

-- the wire of the link k in vs is the one in ws after some events of a wire
abbrev pub IsReached : Wires → Wires → Pair → Type 0
IsReached ws vs k = (hs : List (Happening Packet)) × (wire_at vs k ≡ happened hs (wire_at ws k))

abbrev pub AreReached : Option Wires → Option Wires → Type 0
AreReached None None = Unit {0}
AreReached (Some ws) (Some vs) = (k : Pair) → IsReached ws vs k
AreReached None (Some vs) = ⊥
AreReached (Some ws) None = ⊥
