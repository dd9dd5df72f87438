use Rattle.object_moves.specs.Tables.{known_states, table_program}
use Rattle.visited_set.specs.VisitedConfigurations.{kept_lists}
use Rattle.visited_set.proofs.StateTableGrowth.{all_still_with, list_still, same_front}
use Rattle.visited_set.proofs.visited.VisitedSet.numbers.Goals as goal

pub invariant_of-self : goal.invariant_of-self
invariant_of-self c =
    let k = c.args.self.now in
    record {
      kept = all_still_with k.mails k.mails (same_front k.mails) (known_states k.moves) (known_states c.numbers_of.new.table) c.numbers_of.ensures.grows (table_program k.moves) (table_program c.numbers_of.new.table) k.rows c.numbers_of.ensures.program k.kept;
      named = k.named;
    }

pub returns-clause-list : goal.returns-clause-list
returns-clause-list c =
    let k = c.args.self.now in
    list_still k.mails k.mails (same_front k.mails) (known_states k.moves) (known_states c.numbers_of.new.table) c.numbers_of.ensures.grows (table_program k.moves) (kept_lists k) k.rows k.kept
