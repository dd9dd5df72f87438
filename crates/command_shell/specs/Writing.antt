-- The possible results of writing a text to a sink, each with the status of the call.
use Rattle.std.specs.Prelude.{◌≡◌}
use Rattle.text_scan.specs.Text.{Text}
use Rattle.command_shell.specs.declared.status.Status.{Status}
use Rattle.command_shell.specs.declared.status.Status.TheVariants as S
pub use Rattle.pool_outside.specs.Writing.{Writing, AllWrote, IsIdle, Wrote, WroteFront, writing}

-- either the text was written whole, with the planned status, or a write failed after a prefix of it
pub data Writes (k : Writing) (text : Text) (planned status : Status) : Type 0 where
  whole : Wrote k text → status ≡ planned → Writes k text planned status
  cut : WroteFront k text → status ≡ S.WriteFault → Writes k text planned status

-- the same, or memory ran out and nothing was written
pub data Delivers (k : Writing) (text : Text) (planned status : Status) : Type 0 where
  written : Writes k text planned status → Delivers k text planned status
  nothing : IsIdle k → status ≡ S.Memory → Delivers k text planned status
