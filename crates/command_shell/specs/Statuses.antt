-- The exit status of the process for each status of a call.
use Rattle.std.specs.Prelude.{ℕ}
use Rattle.command_shell.specs.declared.status.Status.{Status}
use Rattle.command_shell.specs.declared.status.Status.TheVariants as S

-- the exit status of each
abbrev pub code_of : Status → ℕ
code_of S.Done = 0
code_of S.DoneFaulted = 1
code_of S.Refused = 2
code_of S.ScheduleOver = 3
code_of S.Full = 4
code_of S.ReadFault = 5
code_of S.WriteFault = 6
code_of S.Memory = 7
code_of S.Usage = 64
