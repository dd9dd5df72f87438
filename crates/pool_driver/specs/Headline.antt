-- The headline: the text that a call of `record` has written if it ends
-- with the status of a record, in terms of the transition relation.
use Rattle.std.specs.Prelude.{◌≡◌, ℕ, List, [], ◌++◌, Some, None, true}
use Rattle.text_scan.specs.Text.{Text}
use Rattle.pool_syntax.specs.Terms.{ProgramTree}
use Rattle.pool_syntax.specs.Typing.{faults}
use Rattle.pool_grammar.specs.Programs.{IsParsed}
use Rattle.run_types.specs.declared.types.Label.{Label}
use Rattle.run_types.specs.declared.types.Line.{Line}
use Rattle.run_types.specs.Asks.{EachAnswersPost}
use Rattle.pool_relation.specs.Configuration.{Configuration}
use Rattle.pool_relation.specs.Transition.{run, start, transition}
use Rattle.mesh_of_terms.specs.RunOf.{GoesBy}
use Rattle.mesh_semantics.specs.Record.{EndsOnce, labels, ends_quiet}
use Rattle.record_writer.specs.SecondForm.{text2}
use Rattle.run_record.specs.Readable.{IsRecord}
use Rattle.pool_driver.specs.LineKinds.{EachIsOneOfThree}

-- The source is a program without class faults. The bytes are the text of lines: event lines, and then one end line.
-- Each line shows one transition, several local ones, a named delay, or idle.
-- Event lines are numbered from 1, the end line has their count, and the text is read back as these lines.
-- A line that answers a request has the number of the line that posted it.
-- The labels of the lines, in order, are one run of the transition relation from the start.
-- Before and after each label the configuration is typed, and no object goes wrong.
-- If the end is quiet, no label is possible.
pub record ShowsOneRun (source bytes : Text) : Type 0 where
  pub names : List Text
  pub program : ProgramTree
  pub parsed : IsParsed source names program
  pub typed : faults program ≡ []
  pub lines : List Line
  pub written : bytes ≡ text2 names lines
  pub ended : EndsOnce lines
  pub each : EachIsOneOfThree lines
  pub readable : IsRecord names lines
  pub answers : EachAnswersPost lines
  pub root : ℕ
  pub first : Configuration
  pub starts : start program root ≡ Some first
  pub last : Configuration
  pub leads : run program first (labels lines) ≡ Some last
  pub right : (front rest : List Label) → front ++ rest ≡ labels lines → GoesBy program first last front rest
  pub rests : ends_quiet lines ≡ true → (l : Label) → transition program last l ≡ None
