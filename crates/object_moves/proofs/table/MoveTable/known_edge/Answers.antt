use Rattle.std.proofs.Common.{◌≡◌, slice_get, Some}
use Rattle.pool_syntax.specs.TreeOf.{program_of}
use Rattle.search_states.specs.States.{states}
use Rattle.object_moves.proofs.KnownFacts.{edge_known, read_at}
use Rattle.object_moves.proofs.table.MoveTable.known_edge.Goals as goal

pub returns-then-same_part-clause-is : goal.returns-then-same_part-clause-is
returns-then-same_part-clause-is c =
    let m = c.args.self.now in
    let k = c.in_ok-known.known.now in
    let i = c.in_ok-at.field-0.now in
    let l = c.in_ok-known.ensures.lookup in
    let there : slice_get m.edges.items i ≡ Some k = read_at c.as_slice.result.now m.edges.items i k c.as_slice.ensures.value l.3.0 l.1 in
    (edge_known (program_of m.program.now) (states m.table) m.edges.items i k c.args.object c.args.state c.args.part.now m.known_edges there c.if-known-object.true c.if-known-state.true (c.same_part.ensures c.if-same_part.true)).0
