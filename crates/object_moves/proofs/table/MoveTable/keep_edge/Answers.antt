use Rattle.std.proofs.Common.{sym, subst}
use Rattle.std.specs.List.{All}
use Rattle.std.specs.Result.{is_ok}
use Rattle.pool_syntax.specs.TreeOf.{program_of}
use Rattle.search_states.specs.States.{states}
use Rattle.object_moves.specs.Known.{IsKnownEdge}
use Rattle.object_moves.proofs.KnownGrowth.{pushed}
use Rattle.object_moves.proofs.table.MoveTable.keep_edge.Goals as goal

pub invariant_of-self-2 : goal.invariant_of-self-2
invariant_of-self-2 c =
    let m = c.args.self.now in
    let P = IsKnownEdge (program_of m.program.now) (states m.table) in
    record { known_edges = subst (All P) (sym c.push.ensures.items) (pushed P (is_ok c.push.result) m.edges.items c.args.known m.known_edges c.requires); known_rests = m.known_rests }
