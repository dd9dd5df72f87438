-- How a call ends whose arguments are not a command, or are one.
use Rattle.std.proofs.Common.{◌≡◌, List, Option, Some, None, refl, subst, sym}
use Rattle.text_scan.specs.Text.{Text}
use Rattle.command_shell.specs.declared.status.Status.{Status}
use Rattle.command_shell.specs.declared.status.Status.TheVariants as S
use Rattle.command_shell.specs.Ends.{no_memory}
use Rattle.command_shell.specs.Writing.{Delivers, IsIdle, Writing, nothing, written}
use Rattle.command_shell.proofs.Laws.{usage_ends}
use Rattle.pool_outside.specs.Reading.{AllRead, Reading}
use Rattle.explore_driver.specs.Ends.{Ends, EndsOf, program_saying}
use Rattle.explore_driver.specs.Unexpected.{usage_text}
use Rattle.explore_driver.specs.Words.{Request}

said : (ws : List Text) (k : Reading) (out err : Writing) (status : Status) → k.opened ≡ k.opens → AllRead k → Delivers err (usage_text ws) S.Usage status → IsIdle out → EndsOf ws None k out err status
said ws k out err status opened calm (written w) idle = usage_ends (program_saying (usage_text ws)) None k out err status refl opened calm w idle
said ws k out err status opened calm (nothing quiet memory) idle = no_memory idle quiet memory

pub says_usage : (ws : List Text) (words : Option Request) (k : Reading) (out err : Writing) (status : Status) → words ≡ None → k.opened ≡ k.opens → AllRead k → Delivers err (usage_text ws) S.Usage status → IsIdle out
    → EndsOf ws words k out err status
says_usage ws words k out err status none opened calm told idle = subst (λ (w : Option Request). EndsOf ws w k out err status) (sym none) (said ws k out err status opened calm told idle)

pub ends_as : (ws : List Text) (words : Option Request) (r : Request) (k : Reading) (out err : Writing) (status : Status) → Some r ≡ words → Ends (Some r) k out err status → EndsOf ws words k out err status
ends_as ws words r k out err status same ends = subst (λ (w : Option Request). EndsOf ws w k out err status) same ends
