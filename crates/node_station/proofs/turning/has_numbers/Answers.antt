use Rattle.std.proofs.Common.{arith}
use Rattle.node_station.proofs.BoundedCounts.{within_most}
use Rattle.node_station.proofs.turning.has_numbers.Goals as goal

pub returns-clause-whole : goal.returns-clause-whole
returns-clause-whole c = record {
  of_unit = c.requires.of_unit;
  of_placement = c.requires.of_placement;
  id = c.requires.id;
  quantum = c.requires.quantum;
  width = c.requires.width;
  height = c.requires.height;
  cells = c.requires.cells;
  sorted = c.requires.sorted;
  acked = c.requires.acked;
  handed = c.requires.handed;
  room = c.requires.room;
  made = within_most c.args.parts.now.node.state.made c.most_made-parts.result (let a = c.most_made-parts.ensures in omega (arith, a));
  entered = c.requires.entered;
  came = c.requires.came;
  few = c.requires.few;
}
