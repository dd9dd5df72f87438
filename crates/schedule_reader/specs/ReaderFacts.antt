-- The fault that the functions of the reader report.
use Rattle.std.specs.Prelude.{◌≡◌, Option, Some}
use Rattle.schedule_reader.specs.declared.fault.ScheduleFault.{ScheduleFault}
use Rattle.schedule_reader.specs.declared.fault.ScheduleFault.TheVariants as F

-- The fault is the reported one; of `Memory` nothing is said.
abbrev pub ReportsFault : ScheduleFault → Option ScheduleFault → Type 0
ReportsFault (F.BadLine line) told = told ≡ Some (F.BadLine line)
ReportsFault (F.NoSuchNode line) told = told ≡ Some (F.NoSuchNode line)
ReportsFault (F.NoSuchLink line) told = told ≡ Some (F.NoSuchLink line)
ReportsFault (F.OutOfRange line) told = told ≡ Some (F.OutOfRange line)
ReportsFault (F.TooManyEvents count) told = told ≡ Some (F.TooManyEvents count)
ReportsFault F.Memory told = Unit {0}
