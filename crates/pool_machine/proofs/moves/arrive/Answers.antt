use Rattle.std.proofs.Common.{◌≡◌, ◌*◌, ◌<◌, None, Some, refl, sym, ap, subst, ◌∙◌, get_or}
use Rattle.mesh_semantics.specs.Act.{goal_node}
use Rattle.run_types.specs.LinkTables.{leaving}
use Rattle.mesh_routing.specs.Links.{LinksOf}
use Rattle.rendezvous_protocol.specs.Packets.{numbered}
use Rattle.run_types.specs.declared.types.Placement.{Placement}
use Rattle.pool_machine.proofs.ChangedNodes.{made_set}
use Rattle.pool_machine.proofs.MovesOfHeads.{full_move, full_received, headless, idle_received, line_move, move_parts, move_posts, never_idle, is_acceptable}
use Rattle.pool_machine.proofs.TurnsOfNodes.{is_node, links_after, node_here, room_there, same_parts, with_packet}
use Rattle.pool_machine.proofs.InsideMesh.{link_of_links, node_listed, node_of_links, node_of_table, table_height, table_width}
use Rattle.pool_machine.proofs.moves.arrive.Goals as goal

pub receive_into-requires : goal.receive_into-requires
receive_into-requires c = record {
  unit = (is_node c.args.plan.now.unit.now c.args.plan.now.placement.now c.args.nodes.now c.args.links.now c.requires.kept c.args.link.to c.requires.link.to c.index-nodes-link.result).of_unit;
  placement = (is_node c.args.plan.now.unit.now c.args.plan.now.placement.now c.args.nodes.now c.args.links.now c.requires.kept c.args.link.to c.requires.link.to c.index-nodes-link.result).of_placement;
  cells = room_there c.args.plan.now.unit.now c.args.plan.now.placement.now c.args.nodes.now c.args.links.now c.requires.kept c.args.link.to c.requires.link.to c.index-nodes-link.result c.leaving-leaving.result c.leaving-leaving.ensures.count;
  packet = is_acceptable c.args.plan.now.unit.now c.args.plan.now.placement.now c.args.nodes.now c.args.links.now c.requires.kept c.args.link.from c.args.link.to c.requires.link c.index-nodes-link.result c.args.packet c.requires.head c.requires.goal;
}

pub post-requires : goal.post-requires
post-requires c = record {
  goal = let h = move_posts c.args.plan.now.unit.now c.args.plan.now.placement.now c.args.nodes.now c.args.links.now c.requires.kept c.args.link.from c.args.link.to c.requires.link c.index-nodes-link.result c.args.packet c.requires.head c.requires.goal c.leaving-leaving.result c.leaving-leaving.ensures.count c.receive_into.new.room.what (Some c.receive_into.new.room.packet) c.receive_into.new.room.packet c.receive_into.new.self refl c.in-Leaves.ensures.act in
      subst (λ (z : Placement). goal_node (numbered c.receive_into.new.room.packet).packet < z.width * z.height) (sym c.requires.table) h.0;
  away = (move_posts c.args.plan.now.unit.now c.args.plan.now.placement.now c.args.nodes.now c.args.links.now c.requires.kept c.args.link.from c.args.link.to c.requires.link c.index-nodes-link.result c.args.packet c.requires.head c.requires.goal c.leaving-leaving.result c.leaving-leaving.ensures.count c.receive_into.new.room.what (Some c.receive_into.new.room.packet) c.receive_into.new.room.packet c.receive_into.new.self refl c.in-Leaves.ensures.act).1;
  room = let h = move_posts c.args.plan.now.unit.now c.args.plan.now.placement.now c.args.nodes.now c.args.links.now c.requires.kept c.args.link.from c.args.link.to c.requires.link c.index-nodes-link.result c.args.packet c.requires.head c.requires.goal c.leaving-leaving.result c.leaving-leaving.ensures.count c.receive_into.new.room.what (Some c.receive_into.new.room.packet) c.receive_into.new.room.packet c.receive_into.new.self refl c.in-Leaves.ensures.act in
      subst (λ (z : LinksOf _). leaving z.links c.args.link.to < z.cells) (sym c.move_head-in-Leaves.ensures.rest)
      (subst (λ z. leaving (headless c.args.link.from c.args.link.to c.args.links.now).links c.args.link.to < z) (sym c.requires.kept.parts.cells) h.2);
  width = table_width c.args.plan.now.unit.now c.args.plan.now.placement.now c.args.nodes.now c.args.links.now c.requires.kept.parts c.args.plan.now.table c.requires.table c.move_head-in-Leaves.new.self (ap (λ (z : LinksOf _). z.width) c.move_head-in-Leaves.ensures.rest);
  height = table_height c.args.plan.now.unit.now c.args.plan.now.placement.now c.args.nodes.now c.args.links.now c.requires.kept.parts c.args.plan.now.table c.requires.table c.move_head-in-Leaves.new.self (ap (λ (z : LinksOf _). z.height) c.move_head-in-Leaves.ensures.rest);
  at = node_of_table c.args.plan.now.unit.now c.args.plan.now.placement.now c.args.nodes.now c.args.links.now c.requires.kept.parts c.args.plan.now.table c.requires.table c.args.link.to c.requires.link.to;
}

pub returns-in-Idle : goal.returns-in-Idle
returns-in-Idle c = record {
  act = absurd (never_idle c.args.plan.now.unit.now c.args.plan.now.placement.now (get_or c.args.nodes.now c.args.link.to c.index-nodes-link.result).id c.leaving-leaving.result
      (get_or c.args.nodes.now c.args.link.to c.index-nodes-link.result).state (numbered c.args.packet) (get_or c.args.nodes.now c.args.link.to c.index-nodes-link.result) c.receive_into.new.self c.in-Idle.ensures.act);
  parts = same_parts c.args.plan.now.unit.now c.args.plan.now.placement.now c.args.nodes.now c.args.links.now c.requires.kept c.args.link.to c.requires.link.to c.index-nodes-link.result c.receive_into.new.self (idle_received c.args.plan.now.unit.now c.args.plan.now.placement.now c.args.nodes.now c.args.links.now c.requires.kept c.args.link.from c.args.link.to c.requires.link c.index-nodes-link.result c.args.packet c.requires.head c.requires.goal c.leaving-leaving.result c.leaving-leaving.ensures.count c.receive_into.new.self c.in-Idle.ensures.act);
  counts = made_set c.args.nodes.now c.args.link.to (get_or c.args.nodes.now c.args.link.to c.index-nodes-link.result) c.receive_into.new.self (node_here c.args.plan.now.unit.now c.args.plan.now.placement.now c.args.nodes.now c.args.links.now c.requires.kept c.args.link.to c.requires.link.to c.index-nodes-link.result) c.in-Idle.ensures.made;
}

pub returns-in-Full : goal.returns-in-Full
returns-in-Full c = record {
  act = full_move c.args.plan.now.unit.now c.args.plan.now.placement.now c.args.nodes.now c.args.links.now c.requires.kept c.args.link.from c.args.link.to c.requires.link c.index-nodes-link.result c.args.packet c.requires.head c.requires.goal c.leaving-leaving.result c.leaving-leaving.ensures.count c.in-Full.kind c.receive_into.new.self c.in-Full.ensures.act;
  parts = same_parts c.args.plan.now.unit.now c.args.plan.now.placement.now c.args.nodes.now c.args.links.now c.requires.kept c.args.link.to c.requires.link.to c.index-nodes-link.result c.receive_into.new.self (full_received c.args.plan.now.unit.now c.args.plan.now.placement.now c.args.nodes.now c.args.links.now c.requires.kept c.args.link.from c.args.link.to c.requires.link c.index-nodes-link.result c.args.packet c.requires.head c.requires.goal c.leaving-leaving.result c.leaving-leaving.ensures.count c.in-Full.kind c.receive_into.new.self c.in-Full.ensures.act);
  counts = made_set c.args.nodes.now c.args.link.to (get_or c.args.nodes.now c.args.link.to c.index-nodes-link.result) c.receive_into.new.self (node_here c.args.plan.now.unit.now c.args.plan.now.placement.now c.args.nodes.now c.args.links.now c.requires.kept c.args.link.to c.requires.link.to c.index-nodes-link.result) c.in-Full.ensures.made;
}

pub returns-in-Line : goal.returns-in-Line
returns-in-Line c = record {
  act = line_move c.args.plan.now.unit.now c.args.plan.now.placement.now c.args.nodes.now c.args.links.now c.requires.kept c.args.link.from c.args.link.to c.requires.link c.index-nodes-link.result c.args.packet c.requires.head c.requires.goal c.leaving-leaving.result c.leaving-leaving.ensures.count c.receive_into.new.room.what None c.receive_into.new.self c.move_head.new.self c.in-Line.ensures.act c.move_head.ensures.rest;
  parts = move_parts c.args.plan.now.unit.now c.args.plan.now.placement.now c.args.nodes.now c.args.links.now c.requires.kept c.args.link.from c.args.link.to c.requires.link c.index-nodes-link.result c.args.packet c.requires.head c.requires.goal c.leaving-leaving.result c.leaving-leaving.ensures.count c.receive_into.new.room.what None c.receive_into.new.self c.move_head.new.self c.in-Line.ensures.act c.in-Line.ensures.unit c.move_head.ensures.rest;
  counts = made_set c.args.nodes.now c.args.link.to (get_or c.args.nodes.now c.args.link.to c.index-nodes-link.result) c.receive_into.new.self (node_here c.args.plan.now.unit.now c.args.plan.now.placement.now c.args.nodes.now c.args.links.now c.requires.kept c.args.link.to c.requires.link.to c.index-nodes-link.result) c.in-Line.ensures.made;
}

links_are : (c : goal.After-post) → c.post.new.links ≡ links_after c.args.plan.now.placement.now c.args.link.to (Some c.receive_into.new.room.packet) (headless c.args.link.from c.args.link.to c.args.links.now)
links_are c =
    with_packet c.args.plan.now.placement.now c.args.plan.now.table c.args.link.to c.move_head-in-Leaves.new.self c.post.new.links (Some c.receive_into.new.room.packet) c.receive_into.new.room.packet refl c.requires.table c.post.ensures
    ∙ ap (links_after c.args.plan.now.placement.now c.args.link.to (Some c.receive_into.new.room.packet)) c.move_head-in-Leaves.ensures.rest

pub returns-in-Leaves : goal.returns-in-Leaves
returns-in-Leaves c = record {
  act = line_move c.args.plan.now.unit.now c.args.plan.now.placement.now c.args.nodes.now c.args.links.now c.requires.kept c.args.link.from c.args.link.to c.requires.link c.index-nodes-link.result c.args.packet c.requires.head c.requires.goal c.leaving-leaving.result c.leaving-leaving.ensures.count c.receive_into.new.room.what (Some c.receive_into.new.room.packet) c.receive_into.new.self c.post.new.links c.in-Leaves.ensures.act (links_are c);
  parts = move_parts c.args.plan.now.unit.now c.args.plan.now.placement.now c.args.nodes.now c.args.links.now c.requires.kept c.args.link.from c.args.link.to c.requires.link c.index-nodes-link.result c.args.packet c.requires.head c.requires.goal c.leaving-leaving.result c.leaving-leaving.ensures.count c.receive_into.new.room.what (Some c.receive_into.new.room.packet) c.receive_into.new.self c.post.new.links c.in-Leaves.ensures.act c.in-Leaves.ensures.unit (links_are c);
  counts = made_set c.args.nodes.now c.args.link.to (get_or c.args.nodes.now c.args.link.to c.index-nodes-link.result) c.receive_into.new.self (node_here c.args.plan.now.unit.now c.args.plan.now.placement.now c.args.nodes.now c.args.links.now c.requires.kept c.args.link.to c.requires.link.to c.index-nodes-link.result) c.in-Leaves.ensures.made;
}

pub leaving-leaving-requires : goal.leaving-leaving-requires
leaving-leaving-requires c = node_of_links c.args.plan.now.unit.now c.args.plan.now.placement.now c.args.nodes.now c.args.links.now c.requires.kept.parts c.args.link.to c.requires.link.to

pub bounds-nodes-link : goal.bounds-nodes-link
bounds-nodes-link c = node_listed c.args.plan.now.unit.now c.args.plan.now.placement.now c.args.nodes.now c.args.links.now c.requires.kept.parts c.args.link.to c.requires.link.to

pub move_head-requires : goal.move_head-requires
move_head-requires c = record { link = link_of_links c.args.plan.now.unit.now c.args.plan.now.placement.now c.args.nodes.now c.args.links.now c.requires.kept.parts c.args.link.from c.args.link.to c.requires.link }

pub move_head-requires-in-Leaves : goal.move_head-requires-in-Leaves
move_head-requires-in-Leaves c = record { link = link_of_links c.args.plan.now.unit.now c.args.plan.now.placement.now c.args.nodes.now c.args.links.now c.requires.kept.parts c.args.link.from c.args.link.to c.requires.link }
