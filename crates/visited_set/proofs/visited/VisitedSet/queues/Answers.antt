use Rattle.object_moves.specs.Tables.{known_states, table_program}
use Rattle.visited_set.specs.VisitedConfigurations.{kept_lists}
use Rattle.visited_set.proofs.StateTableGrowth.{all_still, list_still, same_front}
use Rattle.visited_set.proofs.visited.VisitedSet.queues.Goals as goal

pub invariant_of-self : goal.invariant_of-self
invariant_of-self c =
    let k = c.args.self.now in
    record {
      kept = all_still k.mails c.queues_of.new.table c.queues_of.ensures.grows (known_states k.moves) (known_states k.moves) (same_front (known_states k.moves)) (table_program k.moves) k.rows k.kept;
      named = k.named;
    }

pub returns-clause-list : goal.returns-clause-list
returns-clause-list c =
    let k = c.args.self.now in
    list_still k.mails c.queues_of.new.table c.queues_of.ensures.grows (known_states k.moves) (known_states k.moves) (same_front (known_states k.moves)) (table_program k.moves) (kept_lists k) k.rows k.kept
