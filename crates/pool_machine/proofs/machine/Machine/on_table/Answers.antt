use Rattle.std.proofs.Common.{◌≡◌, ◌<◌, List, Some, [], refl, sym, ap, ap₂, ◌*◌, subst, ◌∙◌, length, set, arith}
use Rattle.run_types.specs.declared.types.Place.{Place}
use Rattle.run_types.specs.declared.types.Placement.{Placement}
use Rattle.run_types.specs.Tables.{no_entry_empty}
use Rattle.code_semantics.specs.Suits.{Suits}
use Rattle.mesh_semantics.specs.Record.{last_place, root_node, start}
use Rattle.node_semantics.specs.Node.{NodeState}
use Rattle.node_semantics.specs.Machine.{is_machine_quiet}
use Rattle.mesh_of_code.specs.Coded.{Placed, coded}
use Rattle.mesh_of_code.proofs.Laws.{code_fits, code_start_sound}
use Rattle.rendezvous_protocol.specs.declared.packet.Packet.{Packet}
use Rattle.mesh_routing.specs.Links.{LinksOf}
use Rattle.node_state.specs.NodeOf.{NodeOf}
use Rattle.machine_network.specs.LinkWires.{wires_in}
use Rattle.machine_network.specs.MachineOn.{AreOfUnit, machine_on}
use Rattle.machine_network.proofs.Laws.{element}
use Rattle.pool_machine.proofs.ChangedNodes.{are_of_unit}
use Rattle.pool_machine.proofs.NewWires.{made_lossy, sound_start}
use Rattle.pool_machine.proofs.StartOfMachines.{counts_start, entered_start, root_inside, stands_start, wired_start}
use Rattle.pool_machine.proofs.machine.Machine.on_table.Goals as goal

pub index_mut-requires : goal.index_mut-requires
index_mut-requires c =
    let l = c.placement-placement.result.now in
    let suits : Suits l c.args.unit.now = subst (λ (p : Placement). Suits p c.args.unit.now) (sym c.placement-placement.ensures) c.requires.suits in
    let root : c.root_of-root.result ≡ root_node (last_place l.places) = c.root_of-root.ensures ∙ ap (λ (ps : List Place). root_node (last_place ps)) c.items.ensures in
    let below : c.root_of-root.result < length c.in-Ok.nodes.items =
    subst (λ i. i < length c.in-Ok.nodes.items) (sym root) (subst (λ n. root_node (last_place l.places) < n) (sym c.in-Ok.ensures.count) (root_inside c.args.unit.now l suits)) in
    subst (λ n. c.root_of-root.result < n) (sym c.in-Ok.nodes.ok.0) below

pub start_root-requires : goal.start_root-requires
start_root-requires c = record {
  unit = let l = c.placement-placement.result.now in
      let suits : Suits l c.args.unit.now = subst (λ (p : Placement). Suits p c.args.unit.now) (sym c.placement-placement.ensures) c.requires.suits in
      let root : c.root_of-root.result ≡ root_node (last_place l.places) = c.root_of-root.ensures ∙ ap (λ (ps : List Place). root_node (last_place ps)) c.items.ensures in
      let below : c.root_of-root.result < length c.in-Ok.nodes.items =
      subst (λ i. i < length c.in-Ok.nodes.items) (sym root) (subst (λ n. root_node (last_place l.places) < n) (sym c.in-Ok.ensures.count) (root_inside c.args.unit.now l suits)) in
      let here = element c.in-Ok.nodes.items c.root_of-root.result c.index_mut.result.now below c.index_mut.ensures.value in
      let node = c.in-Ok.ensures.each c.root_of-root.result c.index_mut.result.now here in
      node.node.of_unit;
  empty = let l = c.placement-placement.result.now in
      let suits : Suits l c.args.unit.now = subst (λ (p : Placement). Suits p c.args.unit.now) (sym c.placement-placement.ensures) c.requires.suits in
      let root : c.root_of-root.result ≡ root_node (last_place l.places) = c.root_of-root.ensures ∙ ap (λ (ps : List Place). root_node (last_place ps)) c.items.ensures in
      let below : c.root_of-root.result < length c.in-Ok.nodes.items =
      subst (λ i. i < length c.in-Ok.nodes.items) (sym root) (subst (λ n. root_node (last_place l.places) < n) (sym c.in-Ok.ensures.count) (root_inside c.args.unit.now l suits)) in
      let here = element c.in-Ok.nodes.items c.root_of-root.result c.index_mut.result.now below c.index_mut.ensures.value in
      let node = c.in-Ok.ensures.each c.root_of-root.result c.index_mut.result.now here in
      ap (λ (x : NodeState Placed). x.slots) node.state;
}

pub is_quiet_now-quiet-requires : goal.is_quiet_now-quiet-requires
is_quiet_now-quiet-requires c = record {
  units = let l = c.placement-placement.result.now in
      let suits : Suits l c.args.unit.now = subst (λ (p : Placement). Suits p c.args.unit.now) (sym c.placement-placement.ensures) c.requires.suits in
      let root : c.root_of-root.result ≡ root_node (last_place l.places) = c.root_of-root.ensures ∙ ap (λ (ps : List Place). root_node (last_place ps)) c.items.ensures in
      let below : c.root_of-root.result < length c.in-Ok.nodes.items =
      subst (λ i. i < length c.in-Ok.nodes.items) (sym root) (subst (λ n. root_node (last_place l.places) < n) (sym c.in-Ok.ensures.count) (root_inside c.args.unit.now l suits)) in
      let here = element c.in-Ok.nodes.items c.root_of-root.result c.index_mut.result.now below c.index_mut.ensures.value in
      let y = c.start_root.ensures.root in
      let width : c.in-Ok-empty_network.network.links.width ≡ l.width = ap (λ (z : LinksOf Packet). z.width) c.in-Ok-empty_network.ensures.links ∙ c.make-mesh.ensures.width in
      let height : c.in-Ok-empty_network.network.links.height ≡ l.height = ap (λ (z : LinksOf Packet). z.height) c.in-Ok-empty_network.ensures.links ∙ c.make-mesh.ensures.height in
      let cells : c.in-Ok-empty_network.network.links.cells ≡ l.cells = ap (λ (z : LinksOf Packet). z.cells) c.in-Ok-empty_network.ensures.links in
      let empty : c.in-Ok-empty_network.network.links.links ≡ [] = ap (λ (z : LinksOf Packet). z.links) c.in-Ok-empty_network.ensures.links in
      let kept = wired_start c.args.unit.now l c.requires.proper suits c.in-Ok.nodes.items c.in-Ok.ensures c.root_of-root.result root c.index_mut.result.now here y.0 y.1 c.start_root.new.self y.2 c.start_root.ensures.unit c.in-Ok-empty_network.network.links width height cells empty
      c.args.lossy (wires_in c.in-Ok-empty_network.network.wires) c.make-mesh.result.width (c.make-mesh.result.width * c.make-mesh.result.height) c.make-mesh.ensures.width (ap₂ (λ w h. w * h) c.make-mesh.ensures.width c.make-mesh.ensures.height) c.in-Ok-empty_network.ensures.wires in
      subst (AreOfUnit c.args.unit.now) (sym c.as_slice.ensures.value)
      (are_of_unit c.args.unit.now l (set c.in-Ok.nodes.items c.root_of-root.result c.start_root.new.self) c.in-Ok-empty_network.network.links kept.parts);
  filled = ap (λ (z : LinksOf Packet). no_entry_empty z.links) c.in-Ok-empty_network.ensures.links;
}

pub invariant_of-result : goal.invariant_of-result
invariant_of-result c =
    let l = c.placement-placement.result.now in
    let suits : Suits l c.args.unit.now = subst (λ (p : Placement). Suits p c.args.unit.now) (sym c.placement-placement.ensures) c.requires.suits in
    let root : c.root_of-root.result ≡ root_node (last_place l.places) = c.root_of-root.ensures ∙ ap (λ (ps : List Place). root_node (last_place ps)) c.items.ensures in
    let below : c.root_of-root.result < length c.in-Ok.nodes.items =
    subst (λ i. i < length c.in-Ok.nodes.items) (sym root) (subst (λ n. root_node (last_place l.places) < n) (sym c.in-Ok.ensures.count) (root_inside c.args.unit.now l suits)) in
    let here = element c.in-Ok.nodes.items c.root_of-root.result c.index_mut.result.now below c.index_mut.ensures.value in
    let y = c.start_root.ensures.root in
    let width : c.in-Ok-empty_network.network.links.width ≡ l.width = ap (λ (z : LinksOf Packet). z.width) c.in-Ok-empty_network.ensures.links ∙ c.make-mesh.ensures.width in
    let height : c.in-Ok-empty_network.network.links.height ≡ l.height = ap (λ (z : LinksOf Packet). z.height) c.in-Ok-empty_network.ensures.links ∙ c.make-mesh.ensures.height in
    let cells : c.in-Ok-empty_network.network.links.cells ≡ l.cells = ap (λ (z : LinksOf Packet). z.cells) c.in-Ok-empty_network.ensures.links in
    let empty : c.in-Ok-empty_network.network.links.links ≡ [] = ap (λ (z : LinksOf Packet). z.links) c.in-Ok-empty_network.ensures.links in
    record {
      mesh = record { width = c.make-mesh.ensures.width; height = c.make-mesh.ensures.height };
      table = sym c.placement-placement.ensures;
      kept = wired_start c.args.unit.now l c.requires.proper suits c.in-Ok.nodes.items c.in-Ok.ensures c.root_of-root.result root c.index_mut.result.now here y.0 y.1 c.start_root.new.self y.2 c.start_root.ensures.unit c.in-Ok-empty_network.network.links width height cells empty
          c.args.lossy (wires_in c.in-Ok-empty_network.network.wires) c.make-mesh.result.width (c.make-mesh.result.width * c.make-mesh.result.height) c.make-mesh.ensures.width (ap₂ (λ w h. w * h) c.make-mesh.ensures.width c.make-mesh.ensures.height) c.in-Ok-empty_network.ensures.wires;
      quiet = c.is_quiet_now-quiet.ensures ∙ ap (λ (ns : List NodeOf). is_machine_quiet (coded c.args.unit.now) (machine_on ns c.in-Ok-empty_network.network.links.links (wires_in c.in-Ok-empty_network.network.wires))) c.as_slice.ensures.value;
      counts = counts_start c.args.unit.now l c.requires.proper suits c.in-Ok.nodes.items c.in-Ok.ensures c.root_of-root.result root c.index_mut.result.now here y.0 y.1 c.start_root.new.self y.2 c.start_root.ensures.unit c.in-Ok-empty_network.network.links width height cells empty;
      entered = entered_start c.args.unit.now l c.requires.proper suits c.in-Ok.nodes.items c.in-Ok.ensures c.root_of-root.result root c.index_mut.result.now here y.0 y.1 c.start_root.new.self y.2 c.start_root.ensures.unit c.in-Ok-empty_network.network.links width height cells empty
          c.args.lossy (wires_in c.in-Ok-empty_network.network.wires) c.make-mesh.result.width (c.make-mesh.result.width * c.make-mesh.result.height) c.make-mesh.ensures.width (ap₂ (λ w h. w * h) c.make-mesh.ensures.width c.make-mesh.ensures.height) c.in-Ok-empty_network.ensures.wires;
      moves = omega arith;
      transitions = omega arith;
    }

pub returns : goal.returns
returns c =
    let l = c.placement-placement.result.now in
    let suits : Suits l c.args.unit.now = subst (λ (p : Placement). Suits p c.args.unit.now) (sym c.placement-placement.ensures) c.requires.suits in
    let root : c.root_of-root.result ≡ root_node (last_place l.places) = c.root_of-root.ensures ∙ ap (λ (ps : List Place). root_node (last_place ps)) c.items.ensures in
    let below : c.root_of-root.result < length c.in-Ok.nodes.items =
    subst (λ i. i < length c.in-Ok.nodes.items) (sym root) (subst (λ n. root_node (last_place l.places) < n) (sym c.in-Ok.ensures.count) (root_inside c.args.unit.now l suits)) in
    let here = element c.in-Ok.nodes.items c.root_of-root.result c.index_mut.result.now below c.index_mut.ensures.value in
    let y = c.start_root.ensures.root in
    let width : c.in-Ok-empty_network.network.links.width ≡ l.width = ap (λ (z : LinksOf Packet). z.width) c.in-Ok-empty_network.ensures.links ∙ c.make-mesh.ensures.width in
    let height : c.in-Ok-empty_network.network.links.height ≡ l.height = ap (λ (z : LinksOf Packet). z.height) c.in-Ok-empty_network.ensures.links ∙ c.make-mesh.ensures.height in
    let cells : c.in-Ok-empty_network.network.links.cells ≡ l.cells = ap (λ (z : LinksOf Packet). z.cells) c.in-Ok-empty_network.ensures.links in
    let empty : c.in-Ok-empty_network.network.links.links ≡ [] = ap (λ (z : LinksOf Packet). z.links) c.in-Ok-empty_network.ensures.links in
    record {
      unit = refl;
      placement = c.placement-placement.ensures;
      lossy = made_lossy c.make-mesh.result.width (c.make-mesh.result.width * c.make-mesh.result.height) c.args.lossy (wires_in c.in-Ok-empty_network.network.wires) c.in-Ok-empty_network.ensures.wires;
      done = refl;
      moves = refl;
      transitions = refl;
      stands = λ e told. let is = subst (λ (p : Placement). start (coded c.args.unit.now) p ≡ Some e) (sym c.placement-placement.ensures) told in record {
        sound = sound_start c.args.unit.now l e c.args.lossy
            (code_start_sound c.args.unit.now c.requires.proper l (code_fits c.args.unit.now l suits) e is);
        stands = stands_start c.args.unit.now l c.requires.proper suits c.in-Ok.nodes.items c.in-Ok.ensures c.root_of-root.result root c.index_mut.result.now here y.0 y.1 c.start_root.new.self y.2 c.start_root.ensures.unit c.in-Ok-empty_network.network.links width height cells empty
            c.args.lossy (wires_in c.in-Ok-empty_network.network.wires) c.make-mesh.result.width (c.make-mesh.result.width * c.make-mesh.result.height) c.make-mesh.ensures.width (ap₂ (λ w h. w * h) c.make-mesh.ensures.width c.make-mesh.ensures.height) c.in-Ok-empty_network.ensures.wires e is;
      };
    }

pub make-mesh-requires : goal.make-mesh-requires
make-mesh-requires c = record {
  wide = (subst (λ (p : Placement). Suits p c.args.unit.now) (sym c.placement-placement.ensures) c.requires.suits).width;
  high = (subst (λ (p : Placement). Suits p c.args.unit.now) (sym c.placement-placement.ensures) c.requires.suits).height;
}

pub all_nodes-requires : goal.all_nodes-requires
all_nodes-requires c = record {
  suits = subst (λ (p : Placement). Suits p c.args.unit.now) (sym c.placement-placement.ensures) c.requires.suits;
  proper = c.requires.proper;
}
