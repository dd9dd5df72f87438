-- The status with which a verdict on a record is written.
use Rattle.run_types.specs.declared.verdicts.Verdict.{Verdict}
use Rattle.run_types.specs.declared.verdicts.Verdict.TheVariants as V
use Rattle.command_shell.specs.declared.status.Status.{Status}
use Rattle.command_shell.specs.declared.status.Status.TheVariants as S

-- the status of a verdict: a run, or not
abbrev pub status_of_verdict : Verdict → Status
status_of_verdict V.Yes = S.Done
status_of_verdict (V.No number redex) = S.DoneFaulted
status_of_verdict (V.Moving o) = S.DoneFaulted
