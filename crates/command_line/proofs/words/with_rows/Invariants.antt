use Rattle.std.proofs.Common.{◌≡◌, drop, map}
use Rattle.clap.specs.Words.{app_of}
use Rattle.command_line.specs.CommandLine.{with_each}
use Rattle.command_line.proofs.words.with_rows.Given as goal

-- the rows to come make of the line so far what all rows make of the command
abbrev pub invariant-loop-row : goal.invariant-loop-row
invariant-loop-row l =
    with_each (app_of l.fn.command) (map (λ row. (row.0.now, map (λ id. id.now) row.1.now)) l.rows)
    ≡ with_each (app_of l.line) (map (λ row. (row.0.now, map (λ id. id.now) row.1.now)) (drop l.row-index l.rows))
