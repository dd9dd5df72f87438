use Rattle.std.proofs.Common.{◌∙◌, ◌+◌, List, [], ap, drop, map, sym}
use Rattle.std.proofs.lemmas.List.{at_drop_more}
use Rattle.clap.specs.Words.{App, Text, app_of, with_subcommand}
use Rattle.command_line.specs.CommandLine.{with_each}
use Rattle.command_line.proofs.words.with_rows.Goals as goal
use denote.Bor.{Bor}

abbrev row_of : Bor Text × Bor (List (Bor Text)) → Text × List Text
row_of row = (row.0.now, map (λ id. id.now) row.1.now)

abbrev after : App → List (Bor Text × Bor (List (Bor Text))) → App
after a rest = with_each a (map row_of rest)

pub loop-row-preserved : goal.loop-row-preserved
loop-row-preserved c =
    let no_name : Bor Text = record { ref_ptr = (0, 0); now = [] } in
    let no_ids : Bor (List (Bor Text)) = record { ref_ptr = (0, 0); now = [] } in
    let added = c.in-Ok-subcommand.ensures.shape c.in-Ok.ensures.local
    ∙ ap (λ (a : App). with_subcommand (app_of c.loop-row.line) a.top) c.in-Ok.ensures.app in
    c.loop-row.invariant
    ∙ (at_drop_more (after (app_of c.loop-row.line)) c.args.rows.now c.loop-row.row-index (no_name, no_ids) c.loop-row-test.true
    ∙ ap (λ a. after a (drop (c.loop-row.row-index + 1) c.args.rows.now)) (sym added))
