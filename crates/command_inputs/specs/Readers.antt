-- The outcomes of reading an input, and of parsing and checking a program or a record that was read.
use Rattle.std.specs.Prelude.{◌≡◌, ℕ, ◌+◌, ◌≤◌, List, [], Bool, Some, None, true, Result, Ok, Err}
use Rattle.pool_outside.specs.Outside.{Rose}
use Rattle.text_scan.specs.Text.{Text}
use Rattle.pool_syntax.specs.Terms.{ProgramTree}
use Rattle.pool_syntax.specs.Typing.{faults}
use Rattle.pool_grammar.specs.Grammatical.{IsGrammatical}
use Rattle.pool_syntax.specs.Spelled.{is_spelled}
use Rattle.pool_syntax.specs.TreeOf.{program_of}
use Rattle.pool_syntax.specs.declared.token.LexFault.{LexFault}
use Rattle.pool_syntax.specs.declared.token.LexFault.TheVariants as Lex
use Rattle.expression_parser.specs.declared.fault.SyntaxFault.{SyntaxFault}
use Rattle.expression_parser.specs.declared.fault.SyntaxFault.TheVariants as Syntax
use Rattle.command_inputs.specs.declared.fault.Input.{Input}
use Rattle.command_inputs.specs.declared.fault.Input.TheVariants as I
use Rattle.command_inputs.specs.declared.fault.Fault.{Fault}
use Rattle.command_inputs.specs.declared.fault.Fault.TheVariants as F
use Rattle.command_inputs.specs.declared.fault.InputError.{InputError}
use Rattle.command_inputs.specs.declared.fault.InputError.TheVariants as T
use Rattle.pool_outside.specs.Reading.{Reading, AllRead, Told, reading}
use Rattle.run_types.specs.declared.types.Line.{Line}
use Rattle.run_record.specs.declared.fault.RecordFault.{RecordFault}
use Rattle.run_record.specs.declared.fault.RecordFault.TheVariants as RecordFaults
use Rattle.run_record.specs.Numbered.{lines_after, names_after}
use Rattle.run_record.specs.Records.{record_of}
use Rattle.command_inputs.specs.Inputs.{limit_of, one_read, WasRead, Stops}
use Rattle.command_inputs.specs.Programs.{IsParsed, IsTextOf}
use Rattle.command_inputs.specs.declared.program.Parsed.{Parsed}
use Rattle.command_inputs.specs.declared.record.NamedLines.{NamedLines}

-- out of memory is no fault of the text

abbrev pub stop_of_tokens : LexFault → InputError
stop_of_tokens Lex.Memory = T.Memory
stop_of_tokens f = T.Refused I.Program (F.Lex f)

abbrev pub stop_of_grammar : SyntaxFault → InputError
stop_of_grammar Syntax.Memory = T.Memory
stop_of_grammar f = T.Refused I.Program (F.Syntax f)

abbrev pub stop_of_record : RecordFault → InputError
stop_of_record RecordFaults.Memory = T.Memory
stop_of_record f = T.Refused I.Record (F.Record f)

-- The text of an input before any check: every text is accepted, and none has a fault.

abbrev pub IsAnyText : Text → Type 0
IsAnyText s = Unit {0}

abbrev pub HasNoFault : Text → Fault → Type 0
HasNoFault s f = ⊥

-- a program before its classes are checked, which is the only program of its text

abbrev pub IsAnyProgram : Text → Type 0
IsAnyProgram s = (p : ProgramTree) × IsTextOf s p

pub record IsProgramOf (s : Text) (read : Parsed) : Type 0 where
  pub parsed : IsParsed s read.names (program_of read.program)
  pub grammatical : IsGrammatical (program_of read.program)
  pub spelled : is_spelled read.names (program_of read.program) ≡ true
  pub only : (names : List Text) (p : ProgramTree) → IsParsed s names p → (read.names ≡ names) × (program_of read.program ≡ p)

-- a program after its classes were checked

abbrev pub IsTypedProgramOf : Text → Parsed → Type 0
IsTypedProgramOf s parsed = IsProgramOf s parsed × (faults (program_of parsed.program) ≡ [])

-- a record of either form

abbrev pub IsAcceptedRecord : Text → Type 0
IsAcceptedRecord s = (record_of s).fault ≡ None

abbrev pub HasRecordFault : Text → Fault → Type 0
HasRecordFault s f = (g : RecordFault) × (f ≡ F.Record g) × ((record_of s).fault ≡ Some g)

-- the lines of a record, read with these names
abbrev pub AreLinesOf : List Text → Text → List Line → Type 0
AreLinesOf names s ls = ((record_of s).fault ≡ None) × (ls ≡ lines_after names (record_of s).told)

-- the same, and the table of names after the record
abbrev pub AreNamedLinesOf : List Text → Text → NamedLines → Type 0
AreNamedLinesOf names s read = AreLinesOf names s read.lines × (read.names ≡ names_after names (record_of s).told)

-- The outcome of a check of a text: the meaning of the text; or the fault of a text that is not accepted; or out of
-- memory.
pub data Judges {A : Type 0} (input : Input) (Accepted : Text → Type 0) (Faulty : Text → Fault → Type 0) (Is : Text → A → Type 0) (s : Text) (result : Result A InputError) : Type 0 where
  fits : (a : A) → result ≡ Ok a → Is s a → Judges input Accepted Faulty Is s result
  fails : (f : Fault) → result ≡ Err (T.Refused input f) → Faulty s f → (Accepted s → ⊥) → Judges input Accepted Faulty Is s result
  forgets : result ≡ Err T.Memory → Judges input Accepted Faulty Is s result

-- The outcome of one input. It was read whole and has a meaning; or it stops the command for a fault; or a read failed;
-- or memory ran out.
pub data Reads {A : Type 0} (k : Reading) (input : Input) (name : Text) (Accepted : Text → Type 0) (Faulty : Text → Fault → Type 0) (Is : Text → A → Type 0) (result : Result A InputError) : Type 0 where
  read : (s : Text) (a : A) → result ≡ Ok a → WasRead k input name s → Is s a → AllRead k → Reads k input name Accepted Faulty Is result
  refused : (f : Fault) → result ≡ Err (T.Refused input f) → Stops k input name Accepted Faulty f → AllRead k → Reads k input name Accepted Faulty Is result
  unread : result ≡ Err (T.Unread input) → Rose k.faults k.failed → k.given ≤ limit_of input → Reads k input name Accepted Faulty Is result
  memory : result ≡ Err T.Memory → Reads k input name Accepted Faulty Is result

-- the effect of a call on files; what the files hold after it; and which names may be opened, before and after it
pub record Opening : Type 0 where
  pub effect : Reading
  pub holds : Told
  pub may : ℕ → Text → Bool
  pub may_after : ℕ → Text → Bool

-- the same, from the functions that tell it of files, and the files before and after the call
abbrev pub opening : {S : Type 0} → (S → Told) → (S → ℕ → Text → Bool) → (S → ℕ) → (S → ℕ) → (S → Bool) → (S → ℕ) → S → S → Opening
opening texts may opens given live count old new =
    record { effect = reading texts opens given live count old new; holds = texts new; may = may old; may_after = may new }

-- What a reader of an input does. Its result is one of the outcomes of `Reads`. The file was opened once, and has given at
-- most the limit of the input and one read. What the files hold, and which names may be opened, is as before.
pub record ReadsInput {A : Type 0} (o : Opening) (input : Input) (name : Text) (Accepted : Text → Type 0) (Faulty : Text → Fault → Type 0) (Is : Text → A → Type 0) (result : Result A InputError) : Type 0 where
  pub reads : Reads o.effect input name Accepted Faulty Is result
  pub opened_once : o.effect.opened ≡ o.effect.opens + 1
  pub unread_within : o.effect.given ≤ limit_of input + one_read
  pub same_texts : o.holds ≡ o.effect.told
  pub same_leave : o.may_after ≡ o.may
