use Rattle.object_moves.specs.Tables.{known_states}
use Rattle.visited_set.specs.WritingsOf.{lists_of}
use Rattle.visited_set.proofs.WrittenListsGrowth.{lists_still}
use Rattle.visited_set.proofs.visited.VisitedSet.write.Goals as goal

pub returns-clause-list : goal.returns-clause-list
returns-clause-list c =
    let k = c.args.self.now in lists_still (known_states k.moves) k.mails (lists_of k.writings) (lists_of c.write.new.self) k.rows c.write.ensures.grown k.named
