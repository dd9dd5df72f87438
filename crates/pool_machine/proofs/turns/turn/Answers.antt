use Rattle.std.proofs.Common.{◌≡◌, ◌*◌, ◌<◌, None, Some, refl, sym, subst, get_or}
use Rattle.mesh_semantics.specs.Act.{goal_node}
use Rattle.run_types.specs.LinkTables.{leaving}
use Rattle.rendezvous_protocol.specs.Packets.{numbered}
use Rattle.run_types.specs.declared.types.Placement.{Placement}
use Rattle.pool_machine.proofs.ChangedNodes.{counts_set}
use Rattle.pool_machine.proofs.TurnsOfNodes.{full_turn, full_turned, idle_turn, idle_turned, is_node, line_parts, line_posts, line_turn, links_after, node_here, room_there, same_parts, with_packet}
use Rattle.pool_machine.proofs.InsideMesh.{node_listed, node_of_links, node_of_table, table_height, table_width}
use Rattle.pool_machine.proofs.turns.turn.Goals as goal

pub turn_into-requires : goal.turn_into-requires
turn_into-requires c = record {
  unit = (is_node c.args.plan.now.unit.now c.args.plan.now.placement.now c.args.nodes.now c.args.links.now c.requires.kept c.args.node c.requires.node c.index-nodes-node.result).of_unit;
  placement = (is_node c.args.plan.now.unit.now c.args.plan.now.placement.now c.args.nodes.now c.args.links.now c.requires.kept c.args.node c.requires.node c.index-nodes-node.result).of_placement;
  cells = room_there c.args.plan.now.unit.now c.args.plan.now.placement.now c.args.nodes.now c.args.links.now c.requires.kept c.args.node c.requires.node c.index-nodes-node.result c.leaving-leaving.result c.leaving-leaving.ensures.count;
  countable = c.requires.countable c.args.node (get_or c.args.nodes.now c.args.node c.index-nodes-node.result) (node_here c.args.plan.now.unit.now c.args.plan.now.placement.now c.args.nodes.now c.args.links.now c.requires.kept c.args.node c.requires.node c.index-nodes-node.result);
  quantum = c.requires.quantum;
}

pub post-requires : goal.post-requires
post-requires c = record {
  goal = let h = line_posts c.args.plan.now.unit.now c.args.plan.now.placement.now c.args.nodes.now c.args.links.now c.requires.kept c.args.node c.requires.node c.index-nodes-node.result c.leaving-leaving.result c.leaving-leaving.ensures.count c.args.quantum c.turn_into.new.room.what (Some c.turn_into.new.room.packet) c.turn_into.new.room.packet c.turn_into.new.self refl c.in-Leaves.ensures.act in
      subst (λ (z : Placement). goal_node (numbered c.turn_into.new.room.packet).packet < z.width * z.height) (sym c.requires.table) h.0;
  away = (line_posts c.args.plan.now.unit.now c.args.plan.now.placement.now c.args.nodes.now c.args.links.now c.requires.kept c.args.node c.requires.node c.index-nodes-node.result c.leaving-leaving.result c.leaving-leaving.ensures.count c.args.quantum c.turn_into.new.room.what (Some c.turn_into.new.room.packet) c.turn_into.new.room.packet c.turn_into.new.self refl c.in-Leaves.ensures.act).1;
  room = let h = line_posts c.args.plan.now.unit.now c.args.plan.now.placement.now c.args.nodes.now c.args.links.now c.requires.kept c.args.node c.requires.node c.index-nodes-node.result c.leaving-leaving.result c.leaving-leaving.ensures.count c.args.quantum c.turn_into.new.room.what (Some c.turn_into.new.room.packet) c.turn_into.new.room.packet c.turn_into.new.self refl c.in-Leaves.ensures.act in
      subst (λ z. leaving c.args.links.now.links c.args.node < z) (sym c.requires.kept.parts.cells) h.2;
  width = table_width c.args.plan.now.unit.now c.args.plan.now.placement.now c.args.nodes.now c.args.links.now c.requires.kept.parts c.args.plan.now.table c.requires.table c.args.links.now refl;
  height = table_height c.args.plan.now.unit.now c.args.plan.now.placement.now c.args.nodes.now c.args.links.now c.requires.kept.parts c.args.plan.now.table c.requires.table c.args.links.now refl;
  at = node_of_table c.args.plan.now.unit.now c.args.plan.now.placement.now c.args.nodes.now c.args.links.now c.requires.kept.parts c.args.plan.now.table c.requires.table c.args.node c.requires.node;
}

pub returns-in-Idle : goal.returns-in-Idle
returns-in-Idle c = record {
  act = idle_turn c.args.plan.now.unit.now c.args.plan.now.placement.now c.args.nodes.now c.args.links.now c.requires.kept c.args.node c.requires.node c.index-nodes-node.result c.leaving-leaving.result c.leaving-leaving.ensures.count c.args.quantum c.turn_into.new.self c.in-Idle.ensures.act;
  parts = same_parts c.args.plan.now.unit.now c.args.plan.now.placement.now c.args.nodes.now c.args.links.now c.requires.kept c.args.node c.requires.node c.index-nodes-node.result c.turn_into.new.self (idle_turned c.args.plan.now.unit.now c.args.plan.now.placement.now c.args.nodes.now c.args.links.now c.requires.kept c.args.node c.requires.node c.index-nodes-node.result c.leaving-leaving.result c.leaving-leaving.ensures.count c.args.quantum c.turn_into.new.self c.in-Idle.ensures.act);
  counts = λ most h.
      counts_set most c.args.nodes.now c.args.node (get_or c.args.nodes.now c.args.node c.index-nodes-node.result) c.turn_into.new.self (node_here c.args.plan.now.unit.now c.args.plan.now.placement.now c.args.nodes.now c.args.links.now c.requires.kept c.args.node c.requires.node c.index-nodes-node.result) (c.in-Idle.ensures.counts most) h;
}

pub returns-in-Full : goal.returns-in-Full
returns-in-Full c = record {
  act = full_turn c.args.plan.now.unit.now c.args.plan.now.placement.now c.args.nodes.now c.args.links.now c.requires.kept c.args.node c.requires.node c.index-nodes-node.result c.leaving-leaving.result c.leaving-leaving.ensures.count c.args.quantum c.in-Full.kind c.turn_into.new.self c.in-Full.ensures.act;
  parts = same_parts c.args.plan.now.unit.now c.args.plan.now.placement.now c.args.nodes.now c.args.links.now c.requires.kept c.args.node c.requires.node c.index-nodes-node.result c.turn_into.new.self (full_turned c.args.plan.now.unit.now c.args.plan.now.placement.now c.args.nodes.now c.args.links.now c.requires.kept c.args.node c.requires.node c.index-nodes-node.result c.leaving-leaving.result c.leaving-leaving.ensures.count c.args.quantum c.in-Full.kind c.turn_into.new.self c.in-Full.ensures.act);
  counts = λ most h.
      counts_set most c.args.nodes.now c.args.node (get_or c.args.nodes.now c.args.node c.index-nodes-node.result) c.turn_into.new.self (node_here c.args.plan.now.unit.now c.args.plan.now.placement.now c.args.nodes.now c.args.links.now c.requires.kept c.args.node c.requires.node c.index-nodes-node.result) (c.in-Full.ensures.counts most) h;
}

pub returns-in-Line : goal.returns-in-Line
returns-in-Line c = record {
  act = line_turn c.args.plan.now.unit.now c.args.plan.now.placement.now c.args.nodes.now c.args.links.now c.requires.kept c.args.node c.requires.node c.index-nodes-node.result c.leaving-leaving.result c.leaving-leaving.ensures.count c.args.quantum c.turn_into.new.room.what None c.turn_into.new.self c.args.links.now c.in-Line.ensures.act refl;
  parts = line_parts c.args.plan.now.unit.now c.args.plan.now.placement.now c.args.nodes.now c.args.links.now c.requires.kept c.args.node c.requires.node c.index-nodes-node.result c.leaving-leaving.result c.leaving-leaving.ensures.count c.args.quantum c.turn_into.new.room.what None c.turn_into.new.self c.args.links.now c.in-Line.ensures.act c.in-Line.ensures.unit refl;
  counts = λ most h.
      counts_set most c.args.nodes.now c.args.node (get_or c.args.nodes.now c.args.node c.index-nodes-node.result) c.turn_into.new.self (node_here c.args.plan.now.unit.now c.args.plan.now.placement.now c.args.nodes.now c.args.links.now c.requires.kept c.args.node c.requires.node c.index-nodes-node.result) (c.in-Line.ensures.counts most) h;
}

links_are : (c : goal.After-post) → c.post.new.links ≡ links_after c.args.plan.now.placement.now c.args.node (Some c.turn_into.new.room.packet) c.args.links.now
links_are c = with_packet c.args.plan.now.placement.now c.args.plan.now.table c.args.node c.args.links.now c.post.new.links (Some c.turn_into.new.room.packet) c.turn_into.new.room.packet refl c.requires.table c.post.ensures

pub returns-in-Leaves : goal.returns-in-Leaves
returns-in-Leaves c = record {
  act = line_turn c.args.plan.now.unit.now c.args.plan.now.placement.now c.args.nodes.now c.args.links.now c.requires.kept c.args.node c.requires.node c.index-nodes-node.result c.leaving-leaving.result c.leaving-leaving.ensures.count c.args.quantum c.turn_into.new.room.what (Some c.turn_into.new.room.packet) c.turn_into.new.self c.post.new.links c.in-Leaves.ensures.act (links_are c);
  parts = line_parts c.args.plan.now.unit.now c.args.plan.now.placement.now c.args.nodes.now c.args.links.now c.requires.kept c.args.node c.requires.node c.index-nodes-node.result c.leaving-leaving.result c.leaving-leaving.ensures.count c.args.quantum c.turn_into.new.room.what (Some c.turn_into.new.room.packet) c.turn_into.new.self c.post.new.links c.in-Leaves.ensures.act c.in-Leaves.ensures.unit (links_are c);
  counts = λ most h.
      counts_set most c.args.nodes.now c.args.node (get_or c.args.nodes.now c.args.node c.index-nodes-node.result) c.turn_into.new.self (node_here c.args.plan.now.unit.now c.args.plan.now.placement.now c.args.nodes.now c.args.links.now c.requires.kept c.args.node c.requires.node c.index-nodes-node.result) (c.in-Leaves.ensures.counts most) h;
}

pub leaving-leaving-requires : goal.leaving-leaving-requires
leaving-leaving-requires c = node_of_links c.args.plan.now.unit.now c.args.plan.now.placement.now c.args.nodes.now c.args.links.now c.requires.kept.parts c.args.node c.requires.node

pub bounds-nodes-node : goal.bounds-nodes-node
bounds-nodes-node c = node_listed c.args.plan.now.unit.now c.args.plan.now.placement.now c.args.nodes.now c.args.links.now c.requires.kept.parts c.args.node c.requires.node
