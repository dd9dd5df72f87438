use Rattle.pool_syntax.specs.TreeOf.{program_of}
use Rattle.search_states.specs.States.{states}
use Rattle.object_moves.proofs.KnownGrowth.{edges_known, rests_known}
use Rattle.object_moves.proofs.table.MoveTable.number_of.Goals as goal

pub invariant_of-self : goal.invariant_of-self
invariant_of-self c =
    let m = c.args.self.now in
    let p = program_of m.program.now in
    let xs = states m.table in
    let ys = states c.number_of.new.self in
    let grown = c.number_of.ensures.grows in
    record { known_edges = edges_known xs ys grown p m.edges.items m.known_edges; known_rests = rests_known xs ys grown p m.rests.items m.known_rests }
