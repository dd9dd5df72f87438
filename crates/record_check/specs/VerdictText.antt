-- The text of a verdict; names, values and run-time errors are written as in a record.
use Rattle.std.specs.Prelude.{◌++◌, List, [], ◌∷◌, codes, decimal, map}
use Rattle.text_scan.specs.Text.{Text}
use Rattle.run_types.specs.declared.verdicts.Redex.{Redex}
use Rattle.run_types.specs.declared.verdicts.Redex.TheVariants as R
use Rattle.record_writer.specs.RecordText.{error_text, item_text, joined, object_text, text_at, value_text}
use Rattle.run_types.specs.declared.verdicts.Verdict.{Verdict}
use Rattle.run_types.specs.declared.verdicts.Verdict.TheVariants as V

-- a redex: the next step of an object
abbrev pub redex_words : List Text → Redex → List Text
redex_words names R.NoObject = codes "none" ∷ []
redex_words names R.Finished = codes "finished" ∷ []
redex_words names R.Faulted = codes "faulted" ∷ []
redex_words names R.Local = codes "local" ∷ []
redex_words names (R.New c) = codes "new" ∷ text_at names c ∷ []
redex_words names (R.Send p m args) = codes "send" ∷ object_text p ∷ text_at names m ∷ map value_text args
redex_words names (R.Async p m args) = codes "async" ∷ object_text p ∷ text_at names m ∷ map value_text args
redex_words names (R.Write item) = codes "write" ∷ item_text names item ∷ []
redex_words names R.Answer = codes "answer" ∷ []
redex_words names R.Select = codes "select" ∷ []
redex_words names (R.Return v) = codes "return" ∷ value_text v ∷ []
redex_words names (R.Waits p) = codes "waits" ∷ object_text p ∷ []
redex_words names (R.Fault e) = codes "fault" ∷ error_text e ∷ []

-- three verdicts: the record is a run;
-- the line of this number shows an impossible transition of an object at this redex;
-- the end is quiet, but this object can make a transition
abbrev pub verdict_words : List Text → Verdict → List Text
verdict_words names V.Yes = codes "yes" ∷ []
verdict_words names (V.No number redex) = codes "no" ∷ decimal number ∷ redex_words names redex
verdict_words names (V.Moving o) = codes "no" ∷ codes "end" ∷ object_text o ∷ []

-- the words with spaces between them, and a line feed
abbrev pub verdict_text : List Text → Verdict → Text
verdict_text names v = joined (verdict_words names v) ++ 10 ∷ []
