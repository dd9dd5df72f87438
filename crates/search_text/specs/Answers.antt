-- The answer of a search: a text and what was found, and its claim about the runs of the program.
use Rattle.std.specs.Prelude.{◌≡◌, ◌<◌, ◌≤◌, ◌-◌, ◌++◌, ℕ, List, [], length, Bool, true, false}
use Rattle.text_scan.specs.Text.{Text}
use Rattle.pool_syntax.specs.Terms.{ProgramTree}
use Rattle.run_types.specs.declared.types.Label.{Label}
use Rattle.pool_search.specs.declared.queries.Query.{Query}
use Rattle.pool_search.specs.declared.queries.Target.TheVariants as W
use Rattle.pool_search.specs.SearchTargets.{LeadsInOrder, IsWantedEnd, IsWantedDead, IsShownFault, IsFinite}
use Rattle.pool_search.specs.declared.queries.Cause.{Cause}
use Rattle.pool_search.specs.CutOff.{IsCutOff}
use Rattle.run_types.specs.Tables.{Each}
use Rattle.pool_search.specs.declared.outcomes.Outcome.{Outcome}
use Rattle.pool_search.specs.OutcomeTargets.{HasAllOutcomes, IsRunInOrder, IsShown}
use Rattle.search_text.specs.ChosenRows.{rows_of}
use Rattle.search_text.specs.AnswerText.{ending, fault_text, finite_text, outcomes_text, over_text, run_text, running_text, stuck_text, wrong_text}
use Rattle.search_text.specs.Grading.{is_allowed}
use Rattle.waiting_objects.specs.Waiting.{waiting_rows}
use Rattle.search_text.specs.declared.answers.Found.{Found}
use Rattle.search_text.specs.declared.answers.Found.TheVariants as O

-- The answer for a program. It is a run from the start to where no label is possible, with the objects that wait there.
-- Or it is a run after which objects are dead, with these objects, or a run that meets a run-time error and is no such
-- end. A run gives new objects the names 1, 2, .. in order.
-- Or no run leads to such a configuration, under any names of objects, and a whole list of configurations shows this.
-- Or nothing is known after this number of configurations, for this cause.
pub data Answers (names : List Text) (p : ProgramTree) (q : Query) (text : Text) (found : Found) : Type 0 where
  stuck : (ls : List Label) (run : LeadsInOrder p ls (IsWantedEnd p q)) → text ≡ stuck_text names ls (waiting_rows q.all p run.0.last) → found ≡ O.Shown → Answers names p q text found
  dead : (ls : List Label) (objects : List ℕ) (run : LeadsInOrder p ls (IsWantedDead p q objects)) → text ≡ stuck_text names ls (rows_of objects (waiting_rows false p run.0.last)) → found ≡ O.Shown → Answers names p q text found
  faulty : (ls : List Label) → LeadsInOrder p ls (IsShownFault p q) → text ≡ fault_text names ls → found ≡ O.Shown → Answers names p q text found
  finite : (kept : ℕ) → IsFinite p q kept → text ≡ finite_text kept → found ≡ O.Finite → Answers names p q text found
  over : (kept : ℕ) (why : Cause) → IsCutOff q.most kept why → text ≡ over_text names kept why → found ≡ O.Over → Answers names p q text found

-- what was found where all outcomes are asked for: the list is complete, or may not be
abbrev pub found_of : Bool → Found
found_of true = O.Finite
found_of false = O.Over

-- The outcomes of a program. Each is shown by a run from the start. If the list is complete, each run that comes to its
-- end has one of them, under any names of objects.
pub record TellsOutcomes (names : List Text) (p : ProgramTree) (most : ℕ) (text : Text) (found : Found) : Type 0 where
  pub list : List Outcome
  pub whole : Bool
  pub kept : ℕ
  pub why : Cause
  pub shown : Each (IsShown p) list
  pub complete : whole ≡ true → HasAllOutcomes p list
  pub within : kept ≤ most
  pub cut_off : IsCutOff most kept why
  pub says : text ≡ outcomes_text names list ++ ending names whole kept why
  pub is : found ≡ found_of whole

-- A run from the start with an outcome, that of the place in the list, counted from 1. It gives new objects the names
-- 1, 2, .. in order. Or the list of outcomes is complete and ends before this place, or the list may not be complete.
pub data ShowsRun (names : List Text) (p : ProgramTree) (place most : ℕ) (text : Text) (found : Found) : Type 0 where
  run : (o : Outcome) (ls : List Label) → IsRunInOrder p o ls → text ≡ run_text names o.kind ls → found ≡ O.Run → ShowsRun names p place most text found
  missing : (list : List Outcome) (kept : ℕ) → HasAllOutcomes p list → length list ≤ place - 1 → kept ≤ most → text ≡ finite_text kept → found ≡ O.Missing → ShowsRun names p place most text found
  unknown : (kept : ℕ) (why : Cause) → IsCutOff most kept why → text ≡ over_text names kept why → found ≡ O.Over → ShowsRun names p place most text found

-- The grade of the ends of a program. Each run that comes to its end has an outcome that is allowed, under any names of
-- objects, and some run ends, or none needs to. Or no run ends, and one needs to. Or a run from the start has an outcome
-- that is not allowed. Or the list of outcomes may not be complete.
pub data GradesEnds (names : List Text) (p : ProgramTree) (allowed : List Text) (may_run_on : Bool) (most : ℕ) (text : Text) (found : Found) : Type 0 where
  passes : (list : List Outcome) (kept : ℕ) → HasAllOutcomes p list → Each (IsShown p) list → Each (λ o. is_allowed allowed names o ≡ true) list → (may_run_on ≡ false → 0 < length list) → kept ≤ most
      → text ≡ outcomes_text names list ++ finite_text kept → found ≡ O.Finite → GradesEnds names p allowed may_run_on most text found
  running : (kept : ℕ) → HasAllOutcomes p [] → may_run_on ≡ false → kept ≤ most → text ≡ running_text kept → found ≡ O.Running → GradesEnds names p allowed may_run_on most text found
  fails : (o : Outcome) (ls : List Label) → IsRunInOrder p o ls → is_allowed allowed names o ≡ false → text ≡ wrong_text names o ls → found ≡ O.Shown → GradesEnds names p allowed may_run_on most text found
  unknown : (list : List Outcome) (kept : ℕ) (why : Cause) → Each (IsShown p) list → IsCutOff most kept why → text ≡ outcomes_text names list ++ over_text names kept why → found ≡ O.Over → GradesEnds names p allowed may_run_on most text found

-- the query for a dead object or a run-time error, anywhere in a run
abbrev pub any_wrong : ℕ → Query
any_wrong most = record { wanted = W.Both; all = false; most = most }

-- nothing that is wrong was found, and nothing is left unknown
abbrev pub finds_nothing_wrong : Found → Bool
finds_nothing_wrong O.Finite = true
finds_nothing_wrong O.Running = true
finds_nothing_wrong O.Shown = false
finds_nothing_wrong O.Over = false
finds_nothing_wrong O.Run = false
finds_nothing_wrong O.Missing = false

-- The grade of a program. It is that of its ends; if nothing wrong was found there, no run leads to a dead object or a
-- run-time error either. Or it is the answer of the search for these: such a run, or that none may be known.
pub data Grades (names : List Text) (p : ProgramTree) (allowed : List Text) (may_run_on : Bool) (most : ℕ) (text : Text) (found : Found) : Type 0 where
  by_ends : GradesEnds names p allowed may_run_on most text found → (finds_nothing_wrong found ≡ true → (kept : ℕ) × IsFinite p (any_wrong most) kept) → Grades names p allowed may_run_on most text found
  by_search : Answers names p (any_wrong most) text found → ¬ (found ≡ O.Finite) → Grades names p allowed may_run_on most text found

-- A question: is there a run of this kind; what are all outcomes; is there a run with the outcome at this place; does
-- each run that comes to its end write one of these outputs, and may it be that none ends. The number is the bound on
-- kept configurations.
pub data Inquiry : Type 0 where
  of_query : Query → Inquiry
  of_outcomes : (most : ℕ) → Inquiry
  of_outcome : (place most : ℕ) → Inquiry
  of_grade : (allowed : List Text) (may_run_on : Bool) (most : ℕ) → Inquiry

-- the answer to a question
abbrev pub IsAnswerTo : List Text → ProgramTree → Inquiry → Text → Found → Type 0
IsAnswerTo names p (of_query q) text found = Answers names p q text found
IsAnswerTo names p (of_outcomes most) text found = TellsOutcomes names p most text found
IsAnswerTo names p (of_outcome place most) text found = ShowsRun names p place most text found
IsAnswerTo names p (of_grade allowed may_run_on most) text found = Grades names p allowed may_run_on most text found
