-- The invariant of a delay with wires: the packets on a link are those that entered its wire and were not handed out.
use Rattle.std.specs.Prelude.{◌≡◌, [], ◌++◌, Option, Some, None}
use Rattle.run_types.specs.declared.types.WireAct.{WireAct}
use Rattle.run_types.specs.Tables.{Pair}
use Rattle.run_types.specs.Paths.{on_link}
use Rattle.mesh_semantics.specs.Wire.{WireFacts, wire_act}
use Rattle.mesh_semantics.specs.Delay.{Wires, Delay, wire_at}

-- the invariant of the wire of the link k
pub record IsWireOf (ws : Wires) (d : Delay) (k : Pair) : Type 0 where
  pub facts : WireFacts (wire_at ws k)
  pub rest : (wire_at ws k).put ≡ (wire_at ws k).handed ++ on_link d.links k

abbrev pub AreWiresOf : Option Wires → Delay → Type 0
AreWiresOf None d = Unit {0}
AreWiresOf (Some ws) d = (k : Pair) → IsWireOf ws d k

abbrev pub KeepsWires : Delay → Type 0
KeepsWires d = AreWiresOf d.wires d

-- nothing comes off a link: the link is empty, or its wire has no frame
abbrev pub NothingComes : Option Wires → Delay → Pair → Type 0
NothingComes None d k = on_link d.links k ≡ []
NothingComes (Some ws) d k = (wire_at ws k).frames ≡ []

-- the event of the wire of a link has nothing to do
abbrev pub NothingDone : Option Wires → WireAct → Pair → Type 0
NothingDone None a k = Unit {0}
NothingDone (Some ws) a k = wire_act a (wire_at ws k) ≡ None
