-- The fault that the reader of records reports, and the table of names after it.
use Rattle.std.specs.Prelude.{◌≡◌, List, ◌++◌, Option, Some}
use Rattle.text_scan.specs.Text.{Text}
use Rattle.run_record.specs.declared.fault.RecordFault.{RecordFault}
use Rattle.run_record.specs.declared.fault.RecordFault.TheVariants as fault
use Rattle.record_parser.specs.Lines.{Told}
use Rattle.run_record.specs.Numbered.{names_after}

-- The fault is the reported one; of `Memory` nothing is said.
abbrev pub ReportsFault : RecordFault → Option RecordFault → Type 0
ReportsFault (fault.BadLine line) told = told ≡ Some (fault.BadLine line)
ReportsFault (fault.OutOfOrder line) told = told ≡ Some (fault.OutOfOrder line)
ReportsFault (fault.WrongAsk line) told = told ≡ Some (fault.WrongAsk line)
ReportsFault fault.Memory told = Unit {0}

-- The names of some first lines of these are in the table.
pub record HasFront (new old : List Text) (told : List Told) : Type 0 where
  pub before : List Told
  pub behind : List Told
  pub all : before ++ behind ≡ told
  pub table : new ≡ names_after old before

-- The names of these lines are in the table. If memory ran out, only those of some first lines may be.
abbrev pub IsTable : RecordFault → List Text → List Text → List Told → Type 0
IsTable (fault.BadLine line) new old told = new ≡ names_after old told
IsTable (fault.OutOfOrder line) new old told = new ≡ names_after old told
IsTable (fault.WrongAsk line) new old told = new ≡ names_after old told
IsTable fault.Memory new old told = HasFront new old told
