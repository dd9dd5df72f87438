use Rattle.std.proofs.Common.{◌≡◌, ◌+◌, ◌<◌, ◌≤◌, List, Option, refl, sym, ap, ap₂, subst, ◌∙◌, is_some}
use Rattle.mesh_semantics.specs.Config.{Config}
use Rattle.mesh_semantics.specs.Delay.{Delay}
use Rattle.mesh_semantics.specs.Act.{act}
use Rattle.mesh_of_code.specs.Coded.{Placed, coded}
use Rattle.node_semantics.specs.Machine.{is_machine_quiet}
use Rattle.rendezvous_protocol.specs.declared.packet.Packet.{Packet}
use Rattle.mesh_routing.specs.Links.{LinksOf}
use Rattle.node_state.specs.NodeOf.{NodeOf}
use Rattle.machine_network.specs.LinkWires.{LinkWires, wires_in}
use Rattle.machine_network.specs.MachineOn.{AreOfUnit, machine_on}
use Rattle.pool_machine.specs.MachineOf.{MachineOf}
use Rattle.std.specs.Vec.{with_items}
use Rattle.std.proofs.lemmas.List.{with_items_is}
use Rattle.pool_machine.specs.Parts.{EachCount}
use Rattle.pool_machine.specs.OnWires.{WiredMachineInvariant, EachEntered, EventMakes}
use Rattle.pool_machine.specs.MachineInvariant.{machine_view}
use Rattle.pool_machine.specs.Answers.{IsOfMesh, IsOutcome, IsServed, MachineRepresents}
use Rattle.pool_machine.specs.DidOf as D
use Rattle.pool_machine.specs.AnswerOf as O
use Rattle.run_types.specs.declared.types.Line.TheVariants as R
use Rattle.pool_machine.proofs.ChangedNodes.{are_of_unit, counts_below}
use Rattle.pool_machine.proofs.EnteredPackets.{entered_below}
use Rattle.pool_machine.proofs.EventsOfMachines.{entered_line, full_outcome, kept_full, kept_line, line_outcome, same_links, same_nodes, same_wires}
use Rattle.pool_machine.proofs.QuietMachines.{same_quiet}
use Rattle.pool_machine.proofs.CountsOfMachines.{done_fits, moves_after, moves_fit, transitions_after, transitions_fit}
use Rattle.pool_machine.proofs.machine.Machine.event_into.Goals as goal

pub step-did-requires : goal.step-did-requires
step-did-requires c = record {
  countable = let done : c.self.inside.done < 4294967295 = subst (λ (v : MachineOf). v.done < 4294967295) (sym c.self.view_is) c.requires.few in
      counts_below c.self.inside.done 4294967295 c.as_mut_slice.result.now done (subst (EachCount (λ k. k ≤ c.self.inside.done)) (sym c.as_mut_slice.ensures.value) c.self.invariant.counts);
  few = let done : c.self.inside.done < 4294967295 = subst (λ (v : MachineOf). v.done < 4294967295) (sym c.self.view_is) c.requires.few in
      entered_below c.self.inside.done 4294967295 (wires_in c.self.inside.network.wires) c.self.inside.network.links.links done c.self.invariant.entered;
  kept = subst (λ (ns : List NodeOf). WiredMachineInvariant c.self.inside.plan.unit.now c.self.inside.plan.placement.now ns c.self.inside.network.links (wires_in c.self.inside.network.wires)) (sym c.as_mut_slice.ensures.value) c.self.invariant.kept;
  event = subst (λ (v : MachineOf). IsOfMesh v.placement c.args.event) (sym c.self.view_is) c.requires.mesh;
  served = subst (λ (v : MachineOf). IsServed (is_some v.wires) c.args.event) (sym c.self.view_is) c.requires.served;
  table = c.self.invariant.table;
  quantum = c.requires.quantum.0;
}

pub quiet_after-self-inside-requires : goal.quiet_after-self-inside-requires
quiet_after-self-inside-requires c = record {
  units = let back : (with_items c.self.inside.nodes c.step-did.new.nodes).items ≡ c.step-did.new.nodes =
      with_items_is c.self.inside.nodes c.step-did.new.nodes (c.in-Ok.ensures.parts.count ∙ sym c.self.invariant.kept.parts.count ∙ sym c.self.inside.nodes.ok.0) in
      subst (AreOfUnit c.self.inside.plan.unit.now) (sym (c.as_slice.ensures.value ∙ back))
      (are_of_unit c.self.inside.plan.unit.now c.self.inside.plan.placement.now c.step-did.new.nodes c.step-did.new.network.links c.in-Ok.ensures.parts);
  filled = c.in-Ok.ensures.parts.filled;
}

pub invariant_of-self : goal.invariant_of-self
invariant_of-self c =
    let u = c.self.inside.plan.unit.now in
    let l = c.self.inside.plan.placement.now in
    let nodes = c.self.inside.nodes.items in
    let ws = wires_in c.self.inside.network.wires in
    let ws' = wires_in c.step-did.new.network.wires in
    let inside : IsOfMesh l c.args.event = subst (λ (v : MachineOf). IsOfMesh v.placement c.args.event) (sym c.self.view_is) c.requires.mesh in
    let acted = subst (λ (ns : List NodeOf). EventMakes u l c.args.quantum c.args.event (D.Full c.in-Err.limit.kind c.in-Err.limit.node) ns c.self.inside.network.links ws c.step-did.new.nodes c.step-did.new.network.links ws') c.as_mut_slice.ensures.value c.in-Err.ensures.act in
    let back : (with_items c.self.inside.nodes c.step-did.new.nodes).items ≡ c.step-did.new.nodes =
    with_items_is c.self.inside.nodes c.step-did.new.nodes (c.in-Err.ensures.parts.count ∙ sym c.self.invariant.kept.parts.count ∙ sym c.self.inside.nodes.ok.0) in
    let same = same_nodes u l nodes c.self.inside.network.links ws c.self.invariant.kept c.args.quantum c.args.event inside c.step-did.new.nodes c.step-did.new.network.links ws' c.in-Err.limit.kind c.in-Err.limit.node acted in
    let links = same_links u l nodes c.self.inside.network.links ws c.self.invariant.kept c.args.quantum c.args.event inside c.step-did.new.nodes c.step-did.new.network.links ws' c.in-Err.limit.kind c.in-Err.limit.node acted in
    let wires = same_wires u l nodes c.self.inside.network.links ws c.self.invariant.kept c.args.quantum c.args.event inside c.step-did.new.nodes c.step-did.new.network.links ws' c.in-Err.limit.kind c.in-Err.limit.node acted in
    record {
      mesh = c.self.invariant.mesh;
      table = c.self.invariant.table;
      kept = subst (λ (ns : List NodeOf). WiredMachineInvariant u l ns c.step-did.new.network.links ws') (sym back)
          (kept_full u l nodes c.self.inside.network.links ws c.self.invariant.kept c.args.quantum c.args.event inside c.step-did.new.nodes c.step-did.new.network.links ws' c.in-Err.limit.kind c.in-Err.limit.node acted);
      quiet = c.self.invariant.quiet
          ∙ ap (λ (ns : List NodeOf). is_machine_quiet (coded u) (machine_on ns c.self.inside.network.links.links ws)) (sym (back ∙ same))
          ∙ ap₂ (λ (z : LinksOf Packet) (w : Option LinkWires). is_machine_quiet (coded u) (machine_on (with_items c.self.inside.nodes c.step-did.new.nodes).items z.links w)) (sym links) (sym wires);
      counts = subst (EachCount (λ k. k ≤ c.self.inside.done)) (sym (back ∙ same)) c.self.invariant.counts;
      entered = subst (λ z. EachEntered (λ k. k ≤ c.self.inside.done) z c.step-did.new.network.links.links) (sym wires)
          (subst (λ z. EachEntered (λ k. k ≤ c.self.inside.done) ws z.links) (sym links) c.self.invariant.entered);
      moves = c.self.invariant.moves;
      transitions = c.self.invariant.transitions;
    }

pub invariant_of-self-in-Ok : goal.invariant_of-self-in-Ok
invariant_of-self-in-Ok c =
    let u = c.self.inside.plan.unit.now in
    let l = c.self.inside.plan.placement.now in
    let nodes = c.self.inside.nodes.items in
    let ws = wires_in c.self.inside.network.wires in
    let ws' = wires_in c.step-did.new.network.wires in
    let inside : IsOfMesh l c.args.event = subst (λ (v : MachineOf). IsOfMesh v.placement c.args.event) (sym c.self.view_is) c.requires.mesh in
    let acted = subst (λ (ns : List NodeOf). EventMakes u l c.args.quantum c.args.event (D.Line c.step-did.new.room.what) ns c.self.inside.network.links ws c.step-did.new.nodes c.step-did.new.network.links ws') c.as_mut_slice.ensures.value c.in-Ok.ensures.act in
    let back : (with_items c.self.inside.nodes c.step-did.new.nodes).items ≡ c.step-did.new.nodes =
    with_items_is c.self.inside.nodes c.step-did.new.nodes (c.in-Ok.ensures.parts.count ∙ sym c.self.invariant.kept.parts.count ∙ sym c.self.inside.nodes.ok.0) in
    record {
      mesh = c.self.invariant.mesh;
      table = c.self.invariant.table;
      kept = subst (λ (ns : List NodeOf). WiredMachineInvariant u l ns c.step-did.new.network.links ws') (sym back)
          (kept_line u l nodes c.self.inside.network.links ws c.self.invariant.kept c.args.quantum c.args.event inside c.step-did.new.nodes c.step-did.new.network.links ws' c.in-Ok.ensures.parts c.in-Ok.ensures.there c.step-did.new.room.what acted);
      quiet = c.quiet_after-self-inside.ensures
          (λ none idle. c.self.invariant.quiet
          ∙ same_quiet u l nodes c.self.inside.network.links ws c.self.invariant.kept c.args.quantum c.args.event inside c.step-did.new.nodes c.step-did.new.network.links ws' c.in-Ok.ensures.parts c.in-Ok.ensures.lossy none c.step-did.new.room.what acted idle
          ∙ ap (λ (ns : List NodeOf). is_machine_quiet (coded u) (machine_on ns c.step-did.new.network.links.links ws')) (sym (c.as_slice.ensures.value ∙ back)))
          ∙ ap (λ (ns : List NodeOf). is_machine_quiet (coded u) (machine_on ns c.step-did.new.network.links.links ws')) c.as_slice.ensures.value;
      counts = subst (EachCount (λ k. k ≤ c.self.inside.done + 1)) (sym back) (c.in-Ok.ensures.counts c.self.inside.done (subst (EachCount (λ k. k ≤ c.self.inside.done)) (sym c.as_mut_slice.ensures.value) c.self.invariant.counts));
      entered = entered_line u l nodes c.self.inside.network.links ws c.self.invariant.kept c.args.quantum c.args.event inside c.step-did.new.nodes c.step-did.new.network.links ws' c.in-Ok.ensures.lossy c.step-did.new.room.what acted c.self.inside.done c.self.invariant.entered;
      moves = moves_after c.self.inside.moves c.self.inside.done c.moved_by.result c.self.invariant.moves c.moved_by.ensures.one;
      transitions = transitions_after c.self.inside.transitions c.self.inside.done c.shown_by.result c.self.invariant.transitions c.shown_by.ensures.few;
    }

pub returns-in-Err : goal.returns-in-Err
returns-in-Err c =
    let u = c.self.inside.plan.unit.now in
    let l = c.self.inside.plan.placement.now in
    let ws = wires_in c.self.inside.network.wires in
    let ws' = wires_in c.step-did.new.network.wires in
    let inside : IsOfMesh l c.args.event = subst (λ (v : MachineOf). IsOfMesh v.placement c.args.event) (sym c.self.view_is) c.requires.mesh in
    let acted = subst (λ (ns : List NodeOf). EventMakes u l c.args.quantum c.args.event (D.Full c.in-Err.limit.kind c.in-Err.limit.node) ns c.self.inside.network.links ws c.step-did.new.nodes c.step-did.new.network.links ws') c.as_mut_slice.ensures.value c.in-Err.ensures.act in
    let back : (with_items c.self.inside.nodes c.step-did.new.nodes).items ≡ c.step-did.new.nodes =
    with_items_is c.self.inside.nodes c.step-did.new.nodes (c.in-Err.ensures.parts.count ∙ sym c.self.invariant.kept.parts.count ∙ sym c.self.inside.nodes.ok.0) in
    subst (λ (v : MachineOf). (e : Config Placed) (d : Delay) → MachineRepresents v e d → IsOutcome c.args.event v (O.Full c.in-Err.limit.kind c.in-Err.limit.node)
    (record (machine_view c.self.inside) { nodes = (with_items c.self.inside.nodes c.step-did.new.nodes).items; links = c.step-did.new.network.links.links; wires = ws' }) (act (coded v.unit) v.placement c.args.quantum e d c.args.event)) c.self.view_is
    (subst (λ (ns : List NodeOf). (e : Config Placed) (d : Delay) → MachineRepresents (machine_view c.self.inside) e d → IsOutcome c.args.event (machine_view c.self.inside) (O.Full c.in-Err.limit.kind c.in-Err.limit.node)
    (record (machine_view c.self.inside) { nodes = ns; links = c.step-did.new.network.links.links; wires = ws' }) (act (coded u) l c.args.quantum e d c.args.event)) (sym back)
    (full_outcome (machine_view c.self.inside) c.self.inside.network.links refl c.self.invariant.kept.parts c.args.quantum c.args.event inside c.step-did.new.nodes c.step-did.new.network.links ws' c.in-Err.limit.kind c.in-Err.limit.node acted))

pub returns-in-Ok : goal.returns-in-Ok
returns-in-Ok c =
    let u = c.self.inside.plan.unit.now in
    let l = c.self.inside.plan.placement.now in
    let ws = wires_in c.self.inside.network.wires in
    let ws' = wires_in c.step-did.new.network.wires in
    let inside : IsOfMesh l c.args.event = subst (λ (v : MachineOf). IsOfMesh v.placement c.args.event) (sym c.self.view_is) c.requires.mesh in
    let acted = subst (λ (ns : List NodeOf). EventMakes u l c.args.quantum c.args.event (D.Line c.step-did.new.room.what) ns c.self.inside.network.links ws c.step-did.new.nodes c.step-did.new.network.links ws') c.as_mut_slice.ensures.value c.in-Ok.ensures.act in
    let back : (with_items c.self.inside.nodes c.step-did.new.nodes).items ≡ c.step-did.new.nodes =
    with_items_is c.self.inside.nodes c.step-did.new.nodes (c.in-Ok.ensures.parts.count ∙ sym c.self.invariant.kept.parts.count ∙ sym c.self.inside.nodes.ok.0) in
    subst (λ (v : MachineOf). (e : Config Placed) (d : Delay) → MachineRepresents v e d → IsOutcome c.args.event v (O.Line (R.Event (c.self.inside.done + 1) c.args.event c.step-did.new.room.what))
    (record (machine_view c.self.inside) {
      nodes = (with_items c.self.inside.nodes c.step-did.new.nodes).items;
      links = c.step-did.new.network.links.links;
      wires = ws';
      done = c.self.inside.done + 1;
      moves = c.self.inside.moves + c.moved_by.result;
      transitions = c.self.inside.transitions + c.shown_by.result;
    })
    (act (coded v.unit) v.placement c.args.quantum e d c.args.event)) c.self.view_is
    (subst (λ (ns : List NodeOf). (e : Config Placed) (d : Delay) → MachineRepresents (machine_view c.self.inside) e d → IsOutcome c.args.event (machine_view c.self.inside) (O.Line (R.Event (c.self.inside.done + 1) c.args.event c.step-did.new.room.what))
    (record (machine_view c.self.inside) {
      nodes = ns;
      links = c.step-did.new.network.links.links;
      wires = ws';
      done = c.self.inside.done + 1;
      moves = c.self.inside.moves + c.moved_by.result;
      transitions = c.self.inside.transitions + c.shown_by.result;
    })
    (act (coded u) l c.args.quantum e d c.args.event)) (sym back)
    (line_outcome (machine_view c.self.inside) c.self.inside.network.links refl c.self.invariant.kept.parts c.args.quantum c.args.event inside c.step-did.new.nodes c.step-did.new.network.links ws' c.step-did.new.room.what acted c.in-Ok.ensures.lossy
    (c.self.inside.moves + c.moved_by.result) (c.self.inside.transitions + c.shown_by.result)
    (ap (λ n. c.self.inside.moves + n) c.moved_by.ensures.count) (ap (λ n. c.self.inside.transitions + n) c.shown_by.ensures.count)))

pub overflow_add-self : goal.overflow_add-self
overflow_add-self c = done_fits c.self.inside.done (subst (λ (v : MachineOf). v.done < 4294967295) (sym c.self.view_is) c.requires.few)

pub overflow_add-self-in-Ok : goal.overflow_add-self-in-Ok
overflow_add-self-in-Ok c = moves_fit c.self.inside.moves c.self.inside.done c.moved_by.result c.self.invariant.moves (subst (λ (v : MachineOf). v.done < 4294967295) (sym c.self.view_is) c.requires.few) c.moved_by.ensures.one

pub overflow_add-self-in-Ok-2 : goal.overflow_add-self-in-Ok-2
overflow_add-self-in-Ok-2 c = transitions_fit c.self.inside.transitions c.self.inside.done c.shown_by.result c.self.invariant.transitions (subst (λ (v : MachineOf). v.done < 4294967295) (sym c.self.view_is) c.requires.few) c.shown_by.ensures.few
