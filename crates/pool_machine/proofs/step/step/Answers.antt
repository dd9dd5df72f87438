use Rattle.std.proofs.Common.{◌≤◌, ◌<◌, refl, ap, sym, subst, Some, is_some}
use Rattle.mesh_semantics.specs.KeptWire.{kept_act}
use Rattle.run_types.specs.Tables.{Pair, list_at, pair_cmp}
use Rattle.run_types.specs.declared.types.Event.TheVariants as Ev
use Rattle.machine_network.specs.LinkWires.{wire_of, wires_in}
use Rattle.pool_machine.specs.DidOf as D
use Rattle.pool_machine.specs.DidOf.{did_of}
use Rattle.pool_machine.specs.Answers.{IsOfMesh, IsServed}
use Rattle.pool_machine.specs.OnWires.{WiredMachineInvariant, EachEntered, HaveWires, EventMakes}
use Rattle.pool_machine.proofs.ChangedNodes.{counts_more, counts_same}
use Rattle.pool_machine.proofs.EnteredPackets.{sent_within}
use Rattle.pool_machine.proofs.EventsOnWires.{move_plain, told_stays, told_wired, turn_wired}
use Rattle.pool_machine.proofs.WithoutWires.{kept_without}
use Rattle.pool_machine.proofs.InsideMesh.{link_of_links, never_served}
use Rattle.pool_machine.proofs.step.step.Goals as goal

pub turn-requires : goal.turn-requires
turn-requires c = record {
  kept = kept_without c.args.plan.now.unit.now c.args.plan.now.placement.now c.args.nodes.now c.args.network.now.links (wires_in c.args.network.now.wires) c.requires.kept;
  node = subst (IsOfMesh c.args.plan.now.placement.now) c.in-Turn.is c.requires.event;
  table = c.requires.table;
  quantum = c.requires.quantum;
  countable = c.requires.countable;
}

pub move_link-requires : goal.move_link-requires
move_link-requires c = record {
  kept = kept_without c.args.plan.now.unit.now c.args.plan.now.placement.now c.args.nodes.now c.args.network.now.links (wires_in c.args.network.now.wires) c.requires.kept;
  link = subst (IsOfMesh c.args.plan.now.placement.now) c.in-Link.is c.requires.event;
  table = c.requires.table;
}

pub move_on_wire-requires : goal.move_on_wire-requires
move_on_wire-requires c = record {
  kept = kept_without c.args.plan.now.unit.now c.args.plan.now.placement.now c.args.nodes.now c.args.network.now.links (wires_in c.args.network.now.wires) c.requires.kept;
  link = subst (IsOfMesh c.args.plan.now.placement.now) c.in-Link.is c.requires.event;
  there = subst (λ w. HaveWires c.args.plan.now.placement.now (wires_in w)) c.in-Some.is c.requires.kept.there (c.in-Link.from, c.in-Link.to)
      (subst (IsOfMesh c.args.plan.now.placement.now) c.in-Link.is c.requires.event);
  table = c.requires.table;
}

pub act_at-room-requires : goal.act_at-room-requires
act_at-room-requires c = record {
  handed = let kept = subst (λ w. WiredMachineInvariant c.args.plan.now.unit.now c.args.plan.now.placement.now c.args.nodes.now c.args.network.now.links (wires_in w)) c.in-Some-wires.is c.requires.kept in
      (sent_within c.args.plan.now.unit.now c.args.plan.now.placement.now c.args.nodes.now c.args.network.now.links c.in-Some-wires.wires.entries kept (c.in-Wire.from, c.in-Wire.to)).0;
  sent = let kept = subst (λ w. WiredMachineInvariant c.args.plan.now.unit.now c.args.plan.now.placement.now c.args.nodes.now c.args.network.now.links (wires_in w)) c.in-Some-wires.is c.requires.kept in
      (sent_within c.args.plan.now.unit.now c.args.plan.now.placement.now c.args.nodes.now c.args.network.now.links c.in-Some-wires.wires.entries kept (c.in-Wire.from, c.in-Wire.to)).1;
  link = link_of_links c.args.plan.now.unit.now c.args.plan.now.placement.now c.args.nodes.now c.args.network.now.links c.requires.kept.parts c.in-Wire.from c.in-Wire.to
      (subst (IsOfMesh c.args.plan.now.placement.now) c.in-Wire.is c.requires.event);
  there = subst (λ w. HaveWires c.args.plan.now.placement.now (wires_in w)) c.in-Some-wires.is c.requires.kept.there (c.in-Wire.from, c.in-Wire.to)
      (subst (IsOfMesh c.args.plan.now.placement.now) c.in-Wire.is c.requires.event);
  few = subst (λ w. EachEntered (λ k. k < 4294967295) (wires_in w) c.args.network.now.links.links) c.in-Some-wires.is c.requires.few (c.in-Wire.from, c.in-Wire.to);
}

pub returns-in-Turn : goal.returns-in-Turn
returns-in-Turn c = record {
  act = let ws = wires_in c.args.network.now.wires in
      subst (λ e. EventMakes c.args.plan.now.unit.now c.args.plan.now.placement.now c.args.quantum e (did_of c.turn.result c.turn.new.room.what) c.args.nodes.now c.args.network.now.links ws c.turn.new.nodes c.turn.new.links ws) (sym c.in-Turn.is)
      (turn_wired c.args.plan.now.unit.now c.args.plan.now.placement.now c.args.nodes.now c.turn.new.nodes c.args.network.now.links c.turn.new.links ws c.args.quantum c.in-Turn.node (did_of c.turn.result c.turn.new.room.what) c.turn.ensures.act);
  counts = c.turn.ensures.counts;
  there = c.requires.kept.there;
  parts = c.turn.ensures.parts;
  lossy = refl;
}

pub returns-in-Some : goal.returns-in-Some
returns-in-Some c = record {
  counts = λ most h.
      counts_more most c.move_on_wire.new.nodes (counts_same (λ k. k ≤ most) c.args.nodes.now c.move_on_wire.new.nodes c.move_on_wire.ensures.counts h);
  act = subst (λ e. EventMakes c.args.plan.now.unit.now c.args.plan.now.placement.now c.args.quantum e (did_of c.move_on_wire.result c.move_on_wire.new.room.what) c.args.nodes.now c.args.network.now.links (wires_in c.args.network.now.wires) c.move_on_wire.new.nodes c.move_on_wire.new.links (Some c.move_on_wire.new.wires.entries)) (sym c.in-Link.is)
      (subst (λ w. EventMakes c.args.plan.now.unit.now c.args.plan.now.placement.now c.args.quantum (Ev.Link c.in-Link.from c.in-Link.to) (did_of c.move_on_wire.result c.move_on_wire.new.room.what) c.args.nodes.now c.args.network.now.links (wires_in w) c.move_on_wire.new.nodes c.move_on_wire.new.links (Some c.move_on_wire.new.wires.entries)) (sym c.in-Some.is)
      (0, tt, c.move_on_wire.ensures.act));
  there = λ k is.
      c.move_on_wire.ensures.there k (subst (λ w. HaveWires c.args.plan.now.placement.now (wires_in w)) c.in-Some.is c.requires.kept.there k is);
  lossy = sym (ap (λ w. is_some (wires_in w)) c.in-Some.is);
  parts = c.move_on_wire.ensures.parts;
}

pub returns-in-None : goal.returns-in-None
returns-in-None c = record {
  act = subst (λ e. EventMakes c.args.plan.now.unit.now c.args.plan.now.placement.now c.args.quantum e (did_of c.move_link.result c.move_link.new.room.what) c.args.nodes.now c.args.network.now.links (wires_in c.args.network.now.wires) c.move_link.new.nodes c.move_link.new.links (wires_in c.args.network.now.wires)) (sym c.in-Link.is)
      (subst (λ w. EventMakes c.args.plan.now.unit.now c.args.plan.now.placement.now c.args.quantum (Ev.Link c.in-Link.from c.in-Link.to) (did_of c.move_link.result c.move_link.new.room.what) c.args.nodes.now c.args.network.now.links (wires_in w) c.move_link.new.nodes c.move_link.new.links (wires_in w)) (sym c.in-None.is)
      (move_plain c.args.plan.now.unit.now c.args.plan.now.placement.now c.args.nodes.now c.move_link.new.nodes c.args.network.now.links c.move_link.new.links c.args.quantum c.in-Link.from c.in-Link.to (did_of c.move_link.result c.move_link.new.room.what) c.move_link.ensures.act));
  counts = λ most h.
      counts_more most c.move_link.new.nodes (counts_same (λ k. k ≤ most) c.args.nodes.now c.move_link.new.nodes c.move_link.ensures.counts h);
  there = c.requires.kept.there;
  parts = c.move_link.ensures.parts;
  lossy = refl;
}

pub returns-in-Some-wires : goal.returns-in-Some-wires
returns-in-Some-wires c = record {
  act = let ws' = c.act_at-room.new.wires.entries in
      subst (λ e. EventMakes c.args.plan.now.unit.now c.args.plan.now.placement.now c.args.quantum e (D.Line c.act_at-room.result) c.args.nodes.now c.args.network.now.links (wires_in c.args.network.now.wires) c.args.nodes.now c.args.network.now.links (Some ws')) (sym c.in-Wire.is)
      (subst (λ w. EventMakes c.args.plan.now.unit.now c.args.plan.now.placement.now c.args.quantum (Ev.Wire c.in-Wire.act c.in-Wire.from c.in-Wire.to) (D.Line c.act_at-room.result) c.args.nodes.now c.args.network.now.links (wires_in w) c.args.nodes.now c.args.network.now.links (Some ws')) (sym c.in-Some-wires.is)
      (told_wired c.args.plan.now.unit.now c.args.plan.now.placement.now c.args.nodes.now c.args.nodes.now c.args.network.now.links c.args.network.now.links c.in-Some-wires.wires.entries ws' c.in-Wire.from c.in-Wire.to c.args.quantum c.in-Wire.act c.act_at-room.result c.act_at-room.ensures));
  counts = λ most h. counts_more most c.args.nodes.now h;
  there = λ k is.
      let ws = c.in-Some-wires.wires.entries in
      let at : Pair = (c.in-Wire.from, c.in-Wire.to) in
      let there = subst (λ w. HaveWires c.args.plan.now.placement.now (wires_in w)) c.in-Some-wires.is c.requires.kept.there in
      told_stays at k (kept_act c.in-Wire.act (list_at pair_cmp at c.args.network.now.links.links) (wire_of ws at)) c.act_at-room.result ws c.act_at-room.new.wires.entries c.act_at-room.ensures (there k is);
  lossy = sym (ap (λ w. is_some (wires_in w)) c.in-Some-wires.is);
  parts = c.requires.kept.parts;
}

pub unreachable-requires : goal.unreachable-requires
unreachable-requires c = never_served (wires_in c.args.network.now.wires) (subst (IsServed (is_some (wires_in c.args.network.now.wires))) c.in-Wire.is c.requires.served) (ap wires_in c.in-None-wires.is)
