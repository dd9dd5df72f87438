use Rattle.std.proofs.Common.{ap, sym, ◌∙◌}
use Rattle.object_moves.specs.Rows.{objects_from}
use Rattle.object_moves.specs.Tables.{known_states}
use Rattle.visited_set.specs.Numbers.{numbered}
use Rattle.visited_set.specs.Rows.{stored_row}
use Rattle.visited_set.specs.VisitedConfigurations.{kept_lists}
use Rattle.visited_set.proofs.NumberingRoundTrip.{passed_at}
use Rattle.visited_set.proofs.visited.VisitedSet.add_waiters.Goals as goal

pub returns-clause-all : goal.returns-clause-all
returns-clause-all c = λ told.
    let k = c.args.self.now in
    let xs = known_states k.moves in
    let there = passed_at xs k.mails (kept_lists k) k.rows c.args.at (stored_row c.get.result) c.get.ensures in
    rw there (c.add.ensures.all told (numbered xs k.mails (stored_row c.get.result)) (ap (objects_from 0 xs) (sym (c.as_slice.ensures.value ∙ c.in_ok-numbers.ensures))))
