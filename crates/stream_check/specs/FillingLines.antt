-- What the code's judge holds after some lines of a stream, if it fills in local transitions, and what one more line
-- gives.
use Rattle.std.specs.Prelude.{◌≡◌, ◌≢◌, ℕ, List, [], ◌∷◌, ◌++◌, Option, Some, None, true, false}
use Rattle.text_scan.specs.Text.{Text}
use Rattle.run_types.specs.declared.types.Line.{Line}
use Rattle.run_types.specs.declared.verdicts.Verdict.{Verdict}
use Rattle.run_types.specs.declared.verdicts.Verdict.TheVariants as V
use Rattle.pool_syntax.specs.Terms.{ProgramTree}
use Rattle.pool_relation.specs.Configuration.{Configuration}
use Rattle.pool_relation.specs.Transition.{run, start}
use Rattle.mesh_semantics.specs.Record.{labels, labels_of}
use Rattle.pool_semantics.specs.PlainOf.{configuration_of, program_tree, is_spent}
use Rattle.record_writer.specs.WrittenText.{writes_of, writes_text}
use Rattle.record_check.specs.RecordJudgement.{root}
use Rattle.record_check.specs.VerdictText.{verdict_text}
use Rattle.run_record.specs.Records.{is_end}
use Rattle.stream_check.specs.declared.judge.Lines.{Lines}
use Rattle.stream_check.specs.Filled.{AreInPlace, AreNumbered, IsFilled, without_local, without_local_of}
use Rattle.stream_check.specs.FillProgress.{Passes}
use Rattle.stream_check.specs.Followed.{IsJudged}
use Rattle.stream_check.specs.Stream.{has_end, last_number}

-- The lines fs are the lines `kept` with local transitions filled in before each of them. They are numbered up to the
-- event `last`, and their labels lead from the one configuration to the other.
pub record HasFilled (p : ProgramTree) (from : Configuration) (kept fs : List Line) (last : ℕ) (to : Configuration) : Type 0 where
  pub same : without_local fs ≡ kept
  pub numbered : (more : List Line) → AreNumbered last more → AreNumbered 0 (fs ++ more)
  pub in_place : (more : List Line) → AreInPlace more → AreInPlace (fs ++ more)
  pub leads : run p from (labels fs) ≡ Some to

-- The judge has judged these lines with local transitions filled in: all are possible, and it has the configuration after
-- them. The root is that of the lines `all`.
pub record IsFilledUpTo (p : ProgramTree) (ls all : List Line) (j : Lines) : Type 0 where
  pub program : program_tree j.filling.plain ≡ p
  pub fresh : is_spent j.filling.plain ≡ false
  pub unended : has_end ls ≡ false
  pub from : Configuration
  pub starts : start p (root (without_local all)) ≡ Some from
  pub fs : List Line
  pub filled : HasFilled p from (without_local ls) fs j.filling.last (configuration_of j.filling.plain)
  pub cleared : j.filling.lines ≡ []
  pub unmoved : j.begun ≡ false → (labels fs ≡ []) × (labels (without_local all) ≡ [])
  pub moved : j.begun ≡ true → labels (without_local all) ≢ []
  pub last : j.last ≡ last_number 0 ls

abbrev pub IsFilledAfter : ProgramTree → List Line → Lines → Type 0
IsFilledAfter p ls j = IsFilledUpTo p ls ls j

-- the same before the line l, with the name of the root that also this line gives
abbrev pub IsReadyToFill : ProgramTree → List Line → Line → Lines → Type 0
IsReadyToFill p ls l j = IsFilledUpTo p ls (ls ++ l ∷ []) j × (j.begun ≡ false → labels_of l ≡ [])

-- a line with its local transitions was added; before the first transition it shows none
abbrev pub PassesLine : Lines → Lines → Line → Type 0
PassesLine j i l = (w : Passes j.filling i.filling (without_local_of l)) × (j.begun ≡ false → labels w.grows.added ≡ [])

-- what the judge writes for a line with a verdict: what the line writes, or the verdict if this is `no`
abbrev pub stop_text : List Text → Line → Verdict → Text
stop_text names l V.Yes = writes_of names l
stop_text names l (V.No number redex) = verdict_text names (V.No number redex)
stop_text names l (V.Moving o) = verdict_text names (V.Moving o)

-- The line l after the lines ls gives this verdict, whatever comes behind it; nothing comes behind an end line. In the
-- filled lines it is the line `shown`.
abbrev pub IsFilledStop : ProgramTree → List Line → Line → Line → Verdict → Type 0
IsFilledStop p ls l shown v =
    (rest : List Line) → (is_end l ≡ true → rest ≡ [])
    → (fs : List Line) × IsFilled p (ls ++ l ∷ rest) fs v × ((names : List Text) → IsJudged p names fs (writes_text names ls ++ stop_text names shown v) v)

-- the verdict that the line l of an event gives after the lines ls, if it gives one
abbrev pub IsFilledVerdict : ProgramTree → List Line → Line → Option Verdict → Lines → Type 0
IsFilledVerdict p ls l None j = IsFilledAfter p (ls ++ l ∷ []) j
IsFilledVerdict p ls l (Some v) j = IsFilledStop p ls l l v

-- what the line l gives after the lines ls, and what the judge writes
abbrev pub IsFilledLine : ProgramTree → List Text → List Line → Line → Option Verdict → Text → Lines → Type 0
IsFilledLine p names ls l None text j = (is_end l ≡ false) × IsFilledAfter p (ls ++ l ∷ []) j × (text ≡ writes_of names l)
IsFilledLine p names ls l (Some v) text j = (shown : Line) × IsFilledStop p ls l shown v × (text ≡ stop_text names shown v)
