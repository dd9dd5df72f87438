use Rattle.std.proofs.Common.{Some, ap, sym, ◌∙◌}
use Rattle.object_moves.specs.Tables.{known_states}
use Rattle.visited_set.specs.Rows.{row_of}
use Rattle.visited_set.specs.VisitedConfigurations.{kept_lists}
use Rattle.visited_set.proofs.NumberingRoundTrip.{passed_at}
use Rattle.visited_set.proofs.visited.VisitedSet.is_only_awaited.Goals as goal

pub returns-in-Ok : goal.returns-in-Ok
returns-in-Ok c = λ told.
    let k = c.args.self.now in
    let there = passed_at (known_states k.moves) k.mails (kept_lists k) k.rows c.args.at (row_of c.with.result) (c.get-entry.ensures ∙ ap Some (sym c.with.ensures)) in
    rw there (c.is_only_awaited.ensures told)
