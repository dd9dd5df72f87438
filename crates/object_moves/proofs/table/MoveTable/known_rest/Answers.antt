use Rattle.std.proofs.Common.{◌≡◌, slice_get, Some}
use Rattle.pool_syntax.specs.TreeOf.{program_of}
use Rattle.search_states.specs.States.{states}
use Rattle.object_moves.proofs.KnownFacts.{rest_known, read_at}
use Rattle.object_moves.proofs.table.MoveTable.known_rest.Goals as goal

pub returns-then-known-state-clause-is : goal.returns-then-known-state-clause-is
returns-then-known-state-clause-is c =
    let m = c.args.self.now in
    let k = c.in_ok-known.known.now in
    let i = c.in_ok-at.field-0.now in
    let l = c.in_ok-known.ensures.lookup in
    let there : slice_get m.rests.items i ≡ Some k = read_at c.as_slice.result.now m.rests.items i k c.as_slice.ensures.value l.3.0 l.1 in
    (rest_known (program_of m.program.now) (states m.table) m.rests.items i k c.args.object c.args.state m.known_rests there c.if-known-object.true c.if-known-state.true).0
