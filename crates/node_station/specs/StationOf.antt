-- A station as contracts see it, and the station of the definition that it is.
use Rattle.std.specs.Prelude.{ℕ, ◌+◌, ◌==◌, List, [], ◌∷◌, map, if◌then◌else◌, refl}
use Rattle.std.specs.Coded.{Coded, code_by, coded×, coded_list, coded_ℕ}
use Rattle.run_types.specs.declared.types.Placement.{Placement}
use Rattle.run_types.specs.Tables.{Pair}
use Rattle.code_semantics.specs.declared.unit.Unit.{Unit as Code}
use Rattle.mesh_of_code.specs.Coded.{Placed}
use Rattle.rendezvous_protocol.specs.declared.packet.Packet.{Packet}
use Rattle.node_state.specs.NodeOf.{NodeOf}
use Rattle.machine_network.specs.LinkWires.{numbered_link}
use Rattle.station_semantics.specs.Station.{Counts, Station}

-- the unit, the placement and the quantum; the node; the packets of each link that leaves it, by the ends of the link,
-- that are not acknowledged; by the number of a neighbour, how many packets of the link to it are acknowledged, and how
-- many packets of the link from it have come in order; and the number of steps
pub record StationOf : Type 0 where
  pub unit : Code
  pub placement : Placement
  pub quantum : ℕ
  pub node : NodeOf
  pub links : List (Pair × List Packet)
  pub acked : List ℕ
  pub handed : List ℕ
  pub steps : ℕ

-- the counts that are not 0, of neighbours from b on
abbrev pub counts_from : ℕ → List ℕ → Counts
counts_from b [] = []
counts_from b (k ∷ ks) = if k == 0 then counts_from (b + 1) ks else (b, k) ∷ counts_from (b + 1) ks

-- the station of the definition
abbrev pub station_of : StationOf → Station Placed
station_of s = record { node = s.node.state; links = map numbered_link s.links; acked = counts_from 0 s.acked; handed = counts_from 0 s.handed }

abbrev pub station_code : Coded Code → Coded Placement → Coded NodeOf → Coded Packet → Coded StationOf
station_code u l n p =
    code_by (Code × (Placement × (ℕ × (NodeOf × (List (Pair × List Packet) × (List ℕ × (List ℕ × ℕ)))))))
    (coded× u (coded× l (coded× coded_ℕ (coded× n (coded× (coded_list (coded× (coded× coded_ℕ coded_ℕ) (coded_list p))) (coded× (coded_list coded_ℕ) (coded× (coded_list coded_ℕ) coded_ℕ)))))))
    (λ s. (s.unit, (s.placement, (s.quantum, (s.node, (s.links, (s.acked, (s.handed, s.steps))))))))
    (λ t. record { unit = t.0; placement = t.1.0; quantum = t.1.1.0; node = t.1.1.1.0; links = t.1.1.1.1.0; acked = t.1.1.1.1.1.0; handed = t.1.1.1.1.1.1.0; steps = t.1.1.1.1.1.1.1 }) (λ _. refl)
