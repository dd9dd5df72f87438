-- What is told of outcomes that are all allowed.
use Rattle.std.specs.Prelude.{◌≡◌, ◌<◌, ◌++◌, ℕ, List, [], length, Bool, true, false}
use Rattle.text_scan.specs.Text.{Text}
use Rattle.pool_search.specs.declared.outcomes.Outcome.{Outcome}
use Rattle.pool_search.specs.declared.queries.Cause.{Cause}
use Rattle.search_text.specs.AnswerText.{ending, outcomes_text, running_text}
use Rattle.search_text.specs.Answers.{found_of}
use Rattle.search_text.specs.declared.answers.Found.{Found}
use Rattle.search_text.specs.declared.answers.Found.TheVariants as O

-- the outcomes are listed; or the list is complete and empty, and the program may not run on
pub data TellsAllowed (names : List Text) (list : List Outcome) (whole : Bool) (kept : ℕ) (why : Cause) (may_run_on : Bool) (text : Text) (found : Found) : Type 0 where
  listed : (whole ≡ true → may_run_on ≡ false → 0 < length list) → text ≡ outcomes_text names list ++ ending names whole kept why → found ≡ found_of whole
      → TellsAllowed names list whole kept why may_run_on text found
  empty : whole ≡ true → list ≡ [] → may_run_on ≡ false → text ≡ running_text kept → found ≡ O.Running → TellsAllowed names list whole kept why may_run_on text found
