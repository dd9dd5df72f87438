-- How a call of `pool` ends, by the definition for programs.
use Rattle.std.specs.Prelude.{ℕ, Option}
use Rattle.text_scan.specs.Text.{Text}
use Rattle.command_inputs.specs.declared.fault.Input.{Input}
use Rattle.command_inputs.specs.declared.fault.Fault.{Fault}
use Rattle.command_inputs.specs.FaultText.{usage_line}
use Rattle.command_line.specs.Commands.{Request, of_ring}
use Rattle.command_shell.specs.declared.status.Status.{Status}
use Rattle.command_shell.specs.Programs.{Program}
use Rattle.command_shell.specs.Ends as Shell
use Rattle.pool_gen.specs.Ring.{ring_placement, ring_program, ring_schedule}
use Rattle.pool_outside.specs.Reading.{Reading}
pub use Rattle.pool_outside.specs.Reading.{reading}
use Rattle.pool_outside.specs.Writing.{Writing}
use Rattle.pool_driver.specs.Inputs.{inputs, IsAccepted, HasFault, StopAt}
use Rattle.pool_driver.specs.Outputs.{IsOutput}

-- of the generated texts of a ring this is the first that is not accepted, with its fault; no other command generates texts
abbrev pub IsUnfit : Request → Input → Fault → Type 0
IsUnfit (of_ring k) input fault = StopAt (ring_program k) ring_placement (ring_schedule k) input fault
IsUnfit _ input fault = ⊥

-- the program `pool`
abbrev pub pool_program : Program
pool_program = record {
  Request = Request;
  inputs = inputs;
  IsAccepted = IsAccepted;
  HasFault = HasFault;
  IsUnfit = IsUnfit;
  IsOutput = IsOutput;
  usage = usage_line;
}

abbrev pub Ends : Option Request → Reading → Writing → Writing → Status → Type 0
Ends words files out err status = Shell.Ends pool_program words files out err status
