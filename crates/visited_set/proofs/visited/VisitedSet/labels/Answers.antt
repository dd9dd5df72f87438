use Rattle.std.proofs.Common.{Some, ap, sym, ◌∙◌}
use Rattle.object_moves.specs.Tables.{known_states, table_program}
use Rattle.visited_set.specs.Rows.{row_of}
use Rattle.visited_set.specs.VisitedConfigurations.{kept_lists}
use Rattle.visited_set.proofs.NumberingRoundTrip.{kept_at, passed_at, sound_of}
use Rattle.visited_set.proofs.visited.VisitedSet.labels.Goals as goal

pub push_to_try-requires : goal.push_to_try-requires
push_to_try-requires c =
    let k = c.args.self.now in
    let p = table_program k.moves in
    let xs = known_states k.moves in
    let e = row_of c.with.result in
    let kept = kept_at p xs k.mails k.rows c.args.at e (c.get-entry.ensures ∙ ap Some (sym c.with.ensures)) k.kept in
    record { within = kept.within; listed = kept.listed; sound = sound_of p xs k.mails e kept }

pub returns : goal.returns
returns c =
    let k = c.args.self.now in
    let there = passed_at (known_states k.moves) k.mails (kept_lists k) k.rows c.args.at (row_of c.with.result) (c.get-entry.ensures ∙ ap Some (sym c.with.ensures)) in
    rw there c.push_to_try.ensures
