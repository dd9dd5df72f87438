use Rattle.std.proofs.Common.{◌≡◌, ◌*◌, ◌<◌, sym, ap, subst, ◌∙◌, refl, get_or, Some}
use Rattle.mesh_semantics.specs.Act.{goal_node}
use Rattle.run_types.specs.LinkTables.{leaving}
use Rattle.node_semantics.specs.Node.{message_count}
use Rattle.node_state.specs.NodeOf.{NodeOf}
use Rattle.mesh_routing.specs.Links.{LinksOf}
use Rattle.rendezvous_protocol.specs.Packets.{numbered}
use Rattle.run_types.specs.declared.types.Placement.{Placement}
use Rattle.pool_machine.proofs.CountsOfMachines.{cells_fit, one_more_fits}
use Rattle.pool_machine.proofs.MovesOfHeads.{full_pass, goal_inside, headless, line_pass, pass_parts, pass_room}
use Rattle.pool_machine.proofs.TurnsOfNodes.{cells_within, links_after, node_here, with_packet}
use Rattle.pool_machine.proofs.InsideMesh.{link_of_links, node_listed, node_of_links, node_of_table, table_height, table_width}
use Rattle.pool_machine.proofs.moves.pass.Goals as goal

pub overflow_add-waiting : goal.overflow_add-waiting
overflow_add-waiting c =
    let few = cells_within c.args.plan.now.unit.now c.args.plan.now.placement.now c.args.nodes.now c.args.links.now c.requires.kept c.args.link.to (get_or c.args.nodes.now c.args.link.to c.index-nodes-link.result) (node_here c.args.plan.now.unit.now c.args.plan.now.placement.now c.args.nodes.now c.args.links.now c.requires.kept c.args.link.to c.requires.link.to c.index-nodes-link.result) in
    cells_fit _ _ _ _ _ (c.messages-waiting.ensures.count ∙ ap (λ (n : NodeOf). message_count n.state.slots) c.index-nodes-link.is) c.leaving-leaving.ensures.count few c.requires.kept.parts.suits.cells.1

pub overflow_add-waiting-2 : goal.overflow_add-waiting-2
overflow_add-waiting-2 c =
    let few = cells_within c.args.plan.now.unit.now c.args.plan.now.placement.now c.args.nodes.now c.args.links.now c.requires.kept c.args.link.to (get_or c.args.nodes.now c.args.link.to c.index-nodes-link.result) (node_here c.args.plan.now.unit.now c.args.plan.now.placement.now c.args.nodes.now c.args.links.now c.requires.kept c.args.link.to c.requires.link.to c.index-nodes-link.result) in
    one_more_fits _ _ _ _ _ (c.messages-waiting.ensures.count ∙ ap (λ (n : NodeOf). message_count n.state.slots) c.index-nodes-link.is) c.leaving-leaving.ensures.count few c.requires.kept.parts.suits.cells.1

pub returns-then-waiting-leaving : goal.returns-then-waiting-leaving
returns-then-waiting-leaving c = record {
  act = full_pass c.args.plan.now.unit.now c.args.plan.now.placement.now c.args.nodes.now c.args.links.now c.requires.kept c.args.link.from c.args.link.to c.requires.link c.index-nodes-link.result c.args.packet c.requires.head c.requires.goal c.messages-waiting.result c.leaving-leaving.result (c.messages-waiting.ensures.count ∙ ap (λ (n : NodeOf). message_count n.state.slots) c.index-nodes-link.is) c.leaving-leaving.ensures.count c.if-waiting-leaving.true;
  parts = c.requires.kept.parts;
}

pub post-requires : goal.post-requires
post-requires c = record {
  goal = subst (λ (z : Placement). goal_node (numbered c.args.packet).packet < z.width * z.height) (sym c.requires.table) (goal_inside c.args.plan.now.unit.now c.args.plan.now.placement.now c.args.nodes.now c.args.links.now c.requires.kept c.args.link.from c.args.link.to c.requires.link c.index-nodes-link.result c.args.packet c.requires.head);
  room = subst (λ (z : LinksOf _). leaving z.links c.args.link.to < z.cells) (sym c.move_head.ensures.rest)
      (subst (λ z. leaving (headless c.args.link.from c.args.link.to c.args.links.now).links c.args.link.to < z) (sym c.requires.kept.parts.cells) (pass_room c.args.plan.now.unit.now c.args.plan.now.placement.now c.args.nodes.now c.args.links.now c.requires.kept c.args.link.from c.args.link.to c.requires.link c.index-nodes-link.result c.args.packet c.requires.head c.requires.goal c.messages-waiting.result c.leaving-leaving.result (c.messages-waiting.ensures.count ∙ ap (λ (n : NodeOf). message_count n.state.slots) c.index-nodes-link.is) c.leaving-leaving.ensures.count c.if-waiting-leaving.false));
  width = table_width c.args.plan.now.unit.now c.args.plan.now.placement.now c.args.nodes.now c.args.links.now c.requires.kept.parts c.args.plan.now.table c.requires.table c.move_head.new.self (ap (λ (z : LinksOf _). z.width) c.move_head.ensures.rest);
  height = table_height c.args.plan.now.unit.now c.args.plan.now.placement.now c.args.nodes.now c.args.links.now c.requires.kept.parts c.args.plan.now.table c.requires.table c.move_head.new.self (ap (λ (z : LinksOf _). z.height) c.move_head.ensures.rest);
  at = node_of_table c.args.plan.now.unit.now c.args.plan.now.placement.now c.args.nodes.now c.args.links.now c.requires.kept.parts c.args.plan.now.table c.requires.table c.args.link.to c.requires.link.to;
  away = λ e. c.requires.goal (sym e);
}

links_are : (c : goal.After-room-1) → c.post.new.links ≡ links_after c.args.plan.now.placement.now c.args.link.to (Some c.args.packet) (headless c.args.link.from c.args.link.to c.args.links.now)
links_are c =
    with_packet c.args.plan.now.placement.now c.args.plan.now.table c.args.link.to c.move_head.new.self c.post.new.links (Some c.args.packet) c.args.packet refl c.requires.table c.post.ensures
    ∙ ap (links_after c.args.plan.now.placement.now c.args.link.to (Some c.args.packet)) c.move_head.ensures.rest

pub returns : goal.returns
returns c = record {
  act = line_pass c.args.plan.now.unit.now c.args.plan.now.placement.now c.args.nodes.now c.args.links.now c.requires.kept c.args.link.from c.args.link.to c.requires.link c.index-nodes-link.result c.args.packet c.requires.head c.requires.goal c.messages-waiting.result c.leaving-leaving.result (c.messages-waiting.ensures.count ∙ ap (λ (n : NodeOf). message_count n.state.slots) c.index-nodes-link.is) c.leaving-leaving.ensures.count c.post.new.links c.if-waiting-leaving.false (links_are c);
  parts = pass_parts c.args.plan.now.unit.now c.args.plan.now.placement.now c.args.nodes.now c.args.links.now c.requires.kept c.args.link.from c.args.link.to c.requires.link c.index-nodes-link.result c.args.packet c.requires.head c.requires.goal c.post.new.links (links_are c);
}

pub leaving-leaving-requires : goal.leaving-leaving-requires
leaving-leaving-requires c = node_of_links c.args.plan.now.unit.now c.args.plan.now.placement.now c.args.nodes.now c.args.links.now c.requires.kept.parts c.args.link.to c.requires.link.to

pub bounds-nodes-link : goal.bounds-nodes-link
bounds-nodes-link c = node_listed c.args.plan.now.unit.now c.args.plan.now.placement.now c.args.nodes.now c.args.links.now c.requires.kept.parts c.args.link.to c.requires.link.to

pub move_head-requires : goal.move_head-requires
move_head-requires c = record { link = link_of_links c.args.plan.now.unit.now c.args.plan.now.placement.now c.args.nodes.now c.args.links.now c.requires.kept.parts c.args.link.from c.args.link.to c.requires.link }
