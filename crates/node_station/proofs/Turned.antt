-- A station after a turn.
use Rattle.std.proofs.Common.{◌≡◌, refl, sym, ap, subst, ◌∙◌, ℕ, ◌-◌, ◌^◌, ◌<◌, ◌≤◌, [], map, arith}
use Rattle.std.specs.Prelude.{Result, Ok, Err}
use Rattle.run_types.specs.declared.types.Event.TheVariants as Ev
use Rattle.run_types.specs.declared.types.Placement.{Placement}
use Rattle.run_types.specs.LinkTables.{leaving}
use Rattle.run_types.specs.Tables.{Each}
use Rattle.mesh_of_code.specs.Coded.{Placed, coded}
use Rattle.mesh_routing.specs.Links.{LinksOf}
use Rattle.node_semantics.specs.Agrees.{IsUnused}
use Rattle.node_semantics.specs.Node.{NodeActed, turn_act}
use Rattle.node_state.specs.NodeOf.{NodeOf}
use Rattle.node_state.specs.OfUnit.{IsOfUnit}
use Rattle.rendezvous_protocol.specs.declared.packet.Packet.{Packet}
use Rattle.node_acts.specs.ActOf.{act_of}
use Rattle.node_acts.specs.declared.types.StepOutput.{StepOutput}
use Rattle.node_acts.specs.declared.types.TurnOutcome.{TurnOutcome}
use Rattle.node_turns.specs.Acts.{IsActOf}
use Rattle.machine_network.specs.LinkWires.{numbered_link}
use Rattle.machine_network.proofs.Laws.{leaving_numbered}
use Rattle.node_station.specs.declared.outcome.StationFault.{StationFault}
use Rattle.node_station.specs.declared.outcome.StationFault.TheVariants as X
use Rattle.node_station.specs.declared.outcome.StationOutcome.{StationOutcome}
use Rattle.node_station.specs.declared.outcome.StationOutcome.TheVariants as O
use Rattle.node_station.specs.declared.parts.StationParts.{StationParts}
use Rattle.node_station.specs.StationOf.{counts_from}
use Rattle.node_station.specs.Outcomes.{Turns}
use Rattle.node_station.specs.Parts.{IsSettled, IsStation, view_of}
use Rattle.node_station.proofs.Settled.{HasRoom, CountsAre, Gives, few_steps, gives, id_after, more_steps, turn_has_room, whole_after}

-- the packets that leave, as the station of the definition counts them
pub out_is : (p : StationParts) → IsStation p → leaving (map numbered_link p.links.links) p.node.id ≡ leaving p.links.links p.id
out_is p ok = leaving_numbered p.node.id p.links.links ∙ ap (leaving p.links.links) ok.id

module _ (q : StationParts) (ok : IsStation q) (l : Placement) (same : l ≡ q.table) (out : ℕ) (count : out ≡ leaving q.links.links q.id) (n' : NodeOf) (room : StepOutput) (fresh : ℕ) (unused : IsUnused fresh q.node.state)
    (told : TurnOutcome) (act : IsActOf (act_of told room) q.node n' (turn_act (coded q.unit.now) l q.quantum q.node.id out fresh q.node.state))
    (outcome : Result StationOutcome StationFault) (links' : LinksOf Packet) (steps' : ℕ) (s : IsSettled q.table q.id told room.packet q.links q.steps outcome links' steps') where
  abbrev t : NodeActed Placed
  t = turn_act (coded q.unit.now) q.table q.quantum q.node.id (leaving (map numbered_link q.links.links) q.node.id) fresh q.node.state

  acts : IsActOf (act_of told room) q.node n' t
  acts =
      subst (λ z. IsActOf (act_of told room) q.node n' (turn_act (coded q.unit.now) q.table q.quantum q.node.id z fresh q.node.state)) (count ∙ sym (out_is q ok))
      (subst (λ z. IsActOf (act_of told room) q.node n' (turn_act (coded q.unit.now) z q.quantum q.node.id out fresh q.node.state)) same act)

  has_room : HasRoom q.table (leaving q.links.links q.id) t
  has_room =
      subst (λ z. HasRoom q.table z t) (out_is q ok)
      (turn_has_room (coded q.unit.now) q.table (leaving (map numbered_link q.links.links) q.node.id) q.quantum q.node.id fresh q.node.state)

  pub turned_whole : IsOfUnit q.unit.now n' → (made' : ℕ) → Each (λ k. k ≤ made') n'.state.made → q.steps < 2 ^ 64 - 1 → IsStation (record q { node = n'; made = made'; links = links'; steps = steps' })
  turned_whole fits made' made few =
      whole_after q ok links' steps' n' room told t outcome acts has_room s fits made' made
      (λ b. let a = ok.came b in let m = more_steps q ok links' steps' n' room told outcome s in omega (arith, a, m)) (few_steps q ok links' steps' n' room told outcome s few)

  abbrev Counted : Result StationOutcome StationFault → Type 0
  Counted o = CountsAre q ok links' steps' n' room q.handed.items (counts_from 0 q.handed.items) (Ev.Turn q.node.id) [] o

  counted : (o : Result StationOutcome StationFault) → Counted o
  counted (Ok O.Silent) = refl
  counted (Ok O.Line) = refl
  counted (Ok (O.Puts to)) = refl
  counted (Ok (O.Full k)) = refl
  counted (Err x) = tt

  pub turned_id : n'.id ≡ q.node.id
  turned_id = id_after q ok links' steps' n' room told t acts

  pub turn_gives : Turns outcome room (view_of q) (record (view_of q) { node = n'; links = links'.links; steps = steps' })
  turn_gives = by outcome (gives q ok links' steps' n' room q.handed.items (counts_from 0 q.handed.items) (Ev.Turn q.node.id) [] told t outcome acts s (counted outcome))
    where
      by : (o : Result StationOutcome StationFault) → Gives q ok links' steps' n' room q.handed.items (counts_from 0 q.handed.items) (Ev.Turn q.node.id) [] o t
          → Turns o room (view_of q) (record (view_of q) { node = n'; links = links'.links; steps = steps' })
      by (Ok o) h = (fresh, unused, h)
      by (Err X.Strays) h = (fresh, unused, h)
      by (Err X.Unfit) h = h
      by (Err X.Spent) h = absurd h
