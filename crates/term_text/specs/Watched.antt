-- The text of a record that is followed: the first configuration, then each line with what it changed, up to the first impossible line.
use Rattle.std.specs.Prelude.{List, [], ◌∷◌, ◌++◌, Some, None, codes}
use Rattle.text_scan.specs.Text.{Text}
use Rattle.run_types.specs.declared.types.What.TheVariants as W
use Rattle.run_types.specs.declared.types.Line.{Line}
use Rattle.run_types.specs.declared.types.Line.TheVariants as R
use Rattle.pool_syntax.specs.Terms.{ProgramTree}
use Rattle.pool_relation.specs.Configuration.{Configuration}
use Rattle.pool_relation.specs.Transition.{run}
use Rattle.mesh_semantics.specs.Record.{labels_of}
use Rattle.record_writer.specs.RecordText.{joined, line_words}
use Rattle.term_text.specs.StateText.{change_text, configuration_text}

-- a line of words
abbrev pub line : List Text → Text
line ws = joined ws ++ 10 ∷ []

-- a line of the record; an event line is led by the word `event`
abbrev pub told_line : List Text → Line → Text
told_line names (R.Event number event what) = line (codes "event" ∷ line_words names (R.Event number event what))
told_line names (R.End end) = line (line_words names (R.End end))

-- what a line changed that leads to the configuration d
abbrev pub shown_change : List Text → ProgramTree → Line → Configuration → Text
shown_change names p (R.Event number event (W.Step lab times)) d = change_text names p lab d
shown_change names p _ d = []

-- each line with what it changed, from the configuration c on, up to the first impossible line
abbrev pub followed_text : List Text → ProgramTree → Configuration → List Line → Text
followed_text names p c [] = []
followed_text names p c (l ∷ ls) = told_line names l ++ elim (run p c (labels_of l)) as (λ o. Text) [
  | None ↦ []
  | Some d ↦ shown_change names p l d ++ followed_text names p d ls
]

-- the whole, from the configuration c on
abbrev pub watched_text : List Text → ProgramTree → Configuration → List Line → Text
watched_text names p c ls = line (codes "watch" ∷ []) ++ (configuration_text names p c ++ followed_text names p c ls)
