-- The text of the result of a search; steps are written as in a record.
use Rattle.std.specs.Prelude.{ℕ, List, [], ◌∷◌, ◌++◌, Some, None, Bool, true, false, codes, decimal, if◌then◌else◌, map}
use Rattle.text_scan.specs.Text.{Text}
use Rattle.run_types.specs.declared.types.Label.{Label}
use Rattle.run_types.specs.declared.types.Label.TheVariants as L
use Rattle.record_writer.specs.RecordText.{item_text, label_words, object_text, text_at}
use Rattle.pool_search.specs.declared.outcomes.EndKind.{EndKind}
use Rattle.pool_search.specs.declared.outcomes.EndKind.TheVariants as K
use Rattle.pool_search.specs.declared.outcomes.Outcome.{Outcome}
use Rattle.pool_search.specs.declared.queries.Mailbox.{Mailbox}
use Rattle.pool_search.specs.declared.queries.Member.{Member}
use Rattle.pool_search.specs.declared.queries.Cause.{Cause}
use Rattle.pool_search.specs.declared.queries.Cause.TheVariants as C
use Rattle.wait_report.specs.declared.rows.ObjectRow.{ObjectRow}
use Rattle.wait_report.specs.Report.{cycles_in, cycles_text, line}
use Rattle.waiting_objects.specs.WaitsText.{waits_text}
use Rattle.search_text.specs.Steps.{other_than_local, steps}

-- a step: its transition as in a record, with the number of times it is made
abbrev pub step_line : List Text → Label × ℕ → Text
step_line names s = line (codes "step" ∷ label_words names s.0 s.1)

abbrev pub steps_text : List Text → List (Label × ℕ) → Text
steps_text names [] = []
steps_text names (s ∷ rest) = step_line names s ++ steps_text names rest

-- the label is a run-time error
abbrev pub is_error : Label → Bool
is_error (L.Fault o e) = true
is_error (L.Local o) = false
is_error (L.New o p c) = false
is_error (L.Answer p o m args) = false
is_error (L.Return p o v) = false
is_error (L.Send o p m args) = false
is_error (L.Take p o m args) = false
is_error (L.Write o item) = false
is_error (L.Pick o i) = false

-- a run-time error that an object has met, in the words of a record
abbrev pub error_line : List Text → Label → Text
error_line names l = line (codes "met" ∷ label_words names l 1)

-- the run-time errors of a run
abbrev pub errors_text : List Text → List Label → Text
errors_text names [] = []
errors_text names (l ∷ ls) = (if is_error l then error_line names l else []) ++ errors_text names ls

-- the end of a search, with a number
abbrev pub end_line : Text → ℕ → Text
end_line word n = line (codes "end" ∷ word ∷ decimal n ∷ [])

-- a run that gets stuck: its steps, the run-time errors that were met in it, the objects that wait at its end, the cycles
-- of calls, and the number of transitions that are not local
abbrev pub stuck_text : List Text → List Label → List ObjectRow → Text
stuck_text names ls rows =
    steps_text names (steps ls)
    ++ (errors_text names ls ++ (waits_text names rows ++ (cycles_text (cycles_in rows) ++ end_line (codes "stuck") (other_than_local ls))))

-- a run that meets a run-time error, and the number of its transitions that are not local
abbrev pub fault_text : List Text → List Label → Text
fault_text names ls = steps_text names (steps ls) ++ end_line (codes "fault") (other_than_local ls)

-- no run leads to such a configuration, and the search kept this number of configurations
abbrev pub finite_text : ℕ → Text
finite_text kept = end_line (codes "finite") kept

-- the fullest mailbox: its object, the class, and the number of messages
abbrev pub mailbox_line : List Text → Mailbox → Text
mailbox_line names m = line (codes "mailbox" ∷ object_text m.owner.object ∷ text_at names m.owner.class ∷ decimal m.messages ∷ [])

abbrev pub bound_line : Text
bound_line = codes "reason bound\n"

-- the object that made the last of the transitions, and its class
abbrev pub transitions_line : List Text → Member → Text
transitions_line names last = line (codes "reason" ∷ codes "transitions" ∷ object_text last.object ∷ text_at names last.class ∷ [])

abbrev pub limit_line : Text
limit_line = codes "reason limit\n"

-- why the search does not know the answer
abbrev pub cause_text : List Text → Cause → Text
cause_text names (C.Bound None) = bound_line
cause_text names (C.Bound (Some m)) = bound_line ++ mailbox_line names m
cause_text names (C.Transitions last) = transitions_line names last
cause_text names C.Limit = limit_line

-- the search does not know the answer, and kept this number of configurations
abbrev pub over_text : List Text → ℕ → Cause → Text
over_text names kept why = cause_text names why ++ end_line (codes "over") kept

-- no run ends, and the search kept this number of configurations
abbrev pub running_text : ℕ → Text
running_text kept = end_line (codes "running") kept

-- the word for the kind of an end
abbrev pub kind_word : EndKind → Text
kind_word K.Fault = codes "fault"
kind_word K.Stuck = codes "stuck"
kind_word K.Left = codes "left"
kind_word K.Done = codes "done"

-- an outcome: how a run ends, and the items that it wrote, as in a record
abbrev pub outcome_line : List Text → Outcome → Text
outcome_line names o = line (codes "wrote" ∷ kind_word o.kind ∷ map (item_text names) o.items.items)

abbrev pub outcomes_text : List Text → List Outcome → Text
outcomes_text names [] = []
outcomes_text names (o ∷ rest) = outcome_line names o ++ outcomes_text names rest

-- the end of a list of outcomes that is complete, or may not be
abbrev pub ending : List Text → Bool → ℕ → Cause → Text
ending names true kept why = finite_text kept
ending names false kept why = over_text names kept why

-- a run with its outcome, and the number of its transitions that are not local
abbrev pub wrong_text : List Text → Outcome → List Label → Text
wrong_text names o ls = steps_text names (steps ls) ++ (outcome_line names o ++ end_line (kind_word o.kind) (other_than_local ls))

-- a run that ends in this way, and the number of its transitions that are not local
abbrev pub run_text : List Text → EndKind → List Label → Text
run_text names k ls = steps_text names (steps ls) ++ end_line (kind_word k) (other_than_local ls)
