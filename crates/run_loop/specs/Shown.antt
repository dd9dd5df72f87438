-- The text that is written of a record, and the status with which its run ends.
use Rattle.std.specs.Prelude.{ℕ, ◌+◌, codes, decimal, length, List, [], ◌∷◌, ◌++◌, Bool, true, false, ◌||◌, if◌then◌else◌}
use Rattle.text_scan.specs.Text.{Text}
use Rattle.run_types.specs.declared.types.Label.TheVariants as L
use Rattle.run_types.specs.declared.types.What.{What}
use Rattle.run_types.specs.declared.types.What.TheVariants as W
use Rattle.run_types.specs.declared.types.End.{End}
use Rattle.run_types.specs.declared.types.End.TheVariants as E
use Rattle.run_types.specs.declared.types.Line.{Line}
use Rattle.run_types.specs.declared.types.Line.TheVariants as R
use Rattle.run_types.specs.declared.types.Placement.{Placement}
use Rattle.mesh_semantics.specs.Language.{Language}
use Rattle.mesh_semantics.specs.Record as M
use Rattle.mesh_semantics.specs.Record.{record_at}
use Rattle.pool_machine.specs.SentPackets.{moved, nothing_sent}
use Rattle.schedule_reader.specs.Schedules.{Plan}
use Rattle.record_writer.specs.RecordText.{line_text}
use Rattle.command_shell.specs.declared.status.Status.{Status}
use Rattle.command_shell.specs.declared.status.Status.TheVariants as S

-- the record over a schedule, from the start with nothing on its way; the links are wires if the schedule is lossy
abbrev pub record_over : {S : Type 0} → Language S → Placement → Plan → M.Record S
record_over g l plan = record_at g l plan.quantum (M.start g l) (nothing_sent plan.lossy) plan.events

-- whether a step shows a run-time error
abbrev pub shows_fault : What → Bool
shows_fault (W.Step (L.Fault o e) times) = true
shows_fault _ = false

-- the status of a record with this end; `faulted` says whether it shows a run-time error
abbrev pub ended : Bool → End → Status
ended faulted (E.Quiet done) = if faulted then S.DoneFaulted else S.Done
ended faulted (E.Schedule done) = S.ScheduleOver
ended faulted (E.Full kind node done) = S.Full

-- the status of these lines; `faulted` says whether earlier lines show a run-time error
abbrev pub status_after : Bool → List Line → Status
status_after faulted [] = S.Done
status_after faulted (R.Event number e what ∷ ls) = status_after (faulted || shows_fault what) ls
status_after faulted (R.End e ∷ ls) = ended faulted e

abbrev pub status_of : List Line → Status
status_of lines = status_after false lines

-- the text of the end line, and nothing for other lines
abbrev pub end_text : List Text → Line → Text
end_text names (R.Event number e what) = []
end_text names (R.End e) = line_text names (R.End e)

-- the text of the end lines
abbrev pub ends_text : List Text → List Line → Text
ends_text names [] = []
ends_text names (l ∷ ls) = end_text names l ++ ends_text names ls

-- 1 for the line of an event, and the number of such lines
abbrev pub one_event : Line → ℕ
one_event (R.Event number e what) = 1
one_event (R.End e) = 0

abbrev pub events_in : List Line → ℕ
events_in [] = 0
events_in (l ∷ ls) = one_event l + events_in ls

-- 1 for a line that shows that a packet left a link, and the number of such lines
abbrev pub one_move : Line → ℕ
one_move (R.Event number e what) = moved e what
one_move (R.End e) = 0

abbrev pub moves_in : List Line → ℕ
moves_in [] = 0
moves_in (l ∷ ls) = one_move l + moves_in ls

-- the numbers of events, transitions and moved packets, on a line each
abbrev pub counts_text : ℕ → ℕ → ℕ → Text
counts_text events transitions moves =
    (((codes "events " ++ decimal events) ++ (codes "\ntransitions " ++ decimal transitions)) ++ (codes "\nmoves " ++ decimal moves)) ++ codes "\n"

-- the counts of these lines, and the end line
abbrev pub ring_text : List Text → List Line → Text
ring_text names lines = counts_text (events_in lines) (length (M.labels lines)) (moves_in lines) ++ ends_text names lines
