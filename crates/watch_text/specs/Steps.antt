-- The text of one line that is followed, as the code makes it.
use Rattle.std.specs.Prelude.{List, [], ◌++◌, Some, None}
use Rattle.text_scan.specs.Text.{Text}
use Rattle.run_types.specs.declared.types.Line.{Line}
use Rattle.pool_syntax.specs.Terms.{ProgramTree}
use Rattle.pool_relation.specs.Configuration.{Configuration}
use Rattle.pool_relation.specs.Transition.{run}
use Rattle.mesh_semantics.specs.Record.{labels_of}
use Rattle.term_text.specs.Watched.{shown_change, told_line}

-- the line, and what it changed, if it is possible
abbrev pub step_text : List Text → ProgramTree → Configuration → Line → Text
step_text names p c l = told_line names l ++ elim (run p c (labels_of l)) as (λ o. Text) [ None ↦ [] | Some d ↦ shown_change names p l d ]
