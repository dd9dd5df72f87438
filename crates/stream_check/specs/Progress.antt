-- What the code's judge holds after some bytes of a stream, and what one more line gives.
use Rattle.std.specs.Prelude.{◌≡◌, ◌≢◌, ℕ, List, [], ◌∷◌, ◌++◌, Option, Some, None, Bool, true, false}
use Rattle.text_scan.specs.Text.{Text}
use Rattle.run_types.specs.declared.types.Line.{Line}
use Rattle.run_types.specs.declared.verdicts.Redex.{Redex}
use Rattle.run_types.specs.declared.verdicts.Verdict.{Verdict}
use Rattle.run_types.specs.declared.verdicts.Verdict.TheVariants as V
use Rattle.pool_syntax.specs.Terms.{ProgramTree}
use Rattle.pool_relation.specs.Configuration.{Configuration}
use Rattle.pool_relation.specs.Transition.{run, start}
use Rattle.mesh_semantics.specs.Record.{labels}
use Rattle.pool_semantics.specs.PlainOf.{configuration_of, program_tree, is_spent}
use Rattle.record_writer.specs.WrittenText.{writes_of}
use Rattle.record_check.specs.RecordJudgement.{IsRunOf, LeadsTo, StillMoves, root}
use Rattle.record_check.specs.Verdicts.{StopsLine}
use Rattle.record_parser.specs.Fields.{parts}
use Rattle.record_parser.specs.Lines.{Told}
use Rattle.run_record.specs.Numbered.{numbered}
use Rattle.run_record.specs.Records.{is_end}
use Rattle.stream_check.specs.declared.judge.Judge.{Judge}
use Rattle.stream_check.specs.declared.judge.Lines.{Lines}
use Rattle.stream_check.specs.declared.judge.Stop.{Stop}
use Rattle.stream_check.specs.declared.judge.Stop.TheVariants as S
use Rattle.stream_check.specs.FillingLines.{IsFilledAfter, IsFilledLine, stop_text}
use Rattle.stream_check.specs.Stream.{comes_next, fault_after, has_end, last_number, stream_fault, stream_lines}

-- the last of some texts, and [] without one
abbrev pub last_part : List Text → Text
last_part [] = []
last_part (p ∷ []) = p
last_part (p ∷ q ∷ ps) = last_part (q ∷ ps)

-- The judge of lines has judged these: all are possible, and it has the configuration after them and the number of the
-- last event. The root is named by the first transition.
pub record IsAfter (p : ProgramTree) (ls : List Line) (j : Lines) : Type 0 where
  pub program : program_tree j.filling.plain ≡ p
  pub fresh : is_spent j.filling.plain ≡ false
  pub unended : has_end ls ≡ false
  pub leads : LeadsTo p ls (configuration_of j.filling.plain)
  pub unmoved : j.begun ≡ false → labels ls ≡ []
  pub moved : j.begun ≡ true → labels ls ≢ []
  pub last : j.last ≡ last_number 0 ls

-- the same before the line l, with the name of the root that also this line gives
pub record IsReady (p : ProgramTree) (ls : List Line) (l : Line) (j : Lines) : Type 0 where
  pub program : program_tree j.filling.plain ≡ p
  pub fresh : is_spent j.filling.plain ≡ false
  pub unended : has_end ls ≡ false
  pub from : Configuration
  pub starts : start p (root (ls ++ l ∷ [])) ≡ Some from
  pub leads : run p from (labels ls) ≡ Some (configuration_of j.filling.plain)
  pub unmoved : j.begun ≡ false → labels (ls ++ l ∷ []) ≡ []
  pub moved : j.begun ≡ true → labels (ls ++ l ∷ []) ≢ []
  pub last : j.last ≡ last_number 0 ls

-- the line l after the lines ls shows an impossible transition
pub record StopsNext (p : ProgramTree) (ls : List Line) (l : Line) (number : ℕ) (redex : Redex) : Type 0 where
  pub from : Configuration
  pub between : Configuration
  pub last : Configuration
  pub starts : start p (root (ls ++ l ∷ [])) ≡ Some from
  pub leads : run p from (labels ls) ≡ Some between
  pub stops : StopsLine p between l number last redex

-- the verdict on lines that are all possible, and have an end
abbrev pub IsEndVerdict : ProgramTree → List Line → Verdict → Type 0
IsEndVerdict p ls V.Yes = IsRunOf p ls
IsEndVerdict p ls (V.No number redex) = ⊥
IsEndVerdict p ls (V.Moving o) = StillMoves p ls o

-- the verdict that the line l gives after the lines ls, if it gives one
abbrev pub IsVerdictAt : ProgramTree → List Line → Line → Lines → Option Verdict → Type 0
IsVerdictAt p ls l j None = (is_end l ≡ false) × IsAfter p (ls ++ l ∷ []) j
IsVerdictAt p ls l j (Some V.Yes) = (is_end l ≡ true) × IsRunOf p (ls ++ l ∷ [])
IsVerdictAt p ls l j (Some (V.No number redex)) = StopsNext p ls l number redex
IsVerdictAt p ls l j (Some (V.Moving o)) = (is_end l ≡ true) × StillMoves p (ls ++ l ∷ []) o

-- what the judge writes for a line: what the line writes, or the verdict `no`
abbrev pub judged_text : List Text → Line → Option Verdict → Text
judged_text names l None = writes_of names l
judged_text names l (Some v) = stop_text names l v

-- the stop that a verdict gives
abbrev pub stop_by : Option Verdict → Option Stop
stop_by None = None
stop_by (Some v) = Some (S.Judged v)

-- The parsed line o of a text has a form and the right number, after the lines ls and the event `last`. It gives this
-- verdict, or none, and the judge writes this text.
pub record IsJudgedLine (p : ProgramTree) (names : List Text) (ls : List Line) (last : ℕ) (o : Option Told) (v : Option Verdict) (text : Text) (j : Lines) : Type 0 where
  pub told : Told
  pub is : o ≡ Some told
  pub next : comes_next last told.line ≡ true
  pub verdict : IsVerdictAt p ls (numbered names told) j v
  pub writes : text ≡ judged_text names (numbered names told) v

-- what the parsed line o gives
abbrev pub IsJudgedAt : ProgramTree → List Text → List Line → ℕ → Option Told → Option Stop → Text → Lines → Type 0
IsJudgedAt p names ls last o None text j = IsJudgedLine p names ls last o None text j
IsJudgedAt p names ls last o (Some (S.Judged v)) text j = IsJudgedLine p names ls last o (Some v) text j
IsJudgedAt p names ls last o (Some (S.Faulty f)) text j = (fault_after last o ≡ Some f) × (text ≡ [])

-- The same for a judge that fills in local transitions: the parsed line o has a form and the right number, and gives this
-- verdict, or none.
pub record IsFilledTold (p : ProgramTree) (names : List Text) (ls : List Line) (last : ℕ) (o : Option Told) (v : Option Verdict) (text : Text) (j : Lines) : Type 0 where
  pub told : Told
  pub is : o ≡ Some told
  pub next : comes_next last told.line ≡ true
  pub gives : IsFilledLine p names ls (numbered names told) v text j

abbrev pub IsFilledAt : ProgramTree → List Text → List Line → ℕ → Option Told → Option Stop → Text → Lines → Type 0
IsFilledAt p names ls last o None text j = IsFilledTold p names ls last o None text j
IsFilledAt p names ls last o (Some (S.Judged v)) text j = IsFilledTold p names ls last o (Some v) text j
IsFilledAt p names ls last o (Some (S.Faulty f)) text j = (fault_after last o ≡ Some f) × (text ≡ [])

-- for a judge that fills in local transitions, or does not
abbrev pub IsAfterBy : Bool → ProgramTree → List Line → Lines → Type 0
IsAfterBy true p ls j = IsFilledAfter p ls j
IsAfterBy false p ls j = IsAfter p ls j

abbrev pub IsJudgedBy : Bool → ProgramTree → List Text → List Line → ℕ → Option Told → Option Stop → Text → Lines → Type 0
IsJudgedBy true p names ls last o stop text j = IsFilledAt p names ls last o stop text j
IsJudgedBy false p names ls last o stop text j = IsJudgedAt p names ls last o stop text j

-- the judge has not run out of memory
abbrev pub IsFresh : Judge → Type 0
IsFresh j = is_spent j.lines.filling.plain ≡ false

-- The judge has read these bytes: it has judged all whole lines, and has the bytes after the last line feed. It fills in
-- local transitions, or does not.
pub record HasRead (fills : Bool) (p : ProgramTree) (names : List Text) (s : Text) (j : Judge) : Type 0 where
  pub mode : j.fills ≡ fills
  pub faultless : stream_fault s ≡ None
  pub lines : IsAfterBy fills p (stream_lines names s) j.lines
  pub tail : j.tail.items ≡ last_part (parts 10 s)
