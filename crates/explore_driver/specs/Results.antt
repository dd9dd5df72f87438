-- The possible results of making an output, below the top-level function.
use Rattle.std.specs.Prelude.{Result}
use Rattle.text_scan.specs.Text.{Text}
use Rattle.command_inputs.specs.declared.fault.InputError.{InputError}
use Rattle.command_shell.specs.declared.status.Status.{Status}
use Rattle.command_shell.specs.Results as Shell
use Rattle.pool_outside.specs.Reading.{Reading}
use Rattle.explore_driver.specs.declared.outputs.Output.{Output}
use Rattle.explore_driver.specs.Ends.{explore_program}
use Rattle.explore_driver.specs.Words.{Request}

-- the text of an output, and its status; each output can be written

abbrev pub text_of : Output → Text
text_of o = o.text.items

abbrev pub status_of : Output → Status
status_of o = o.status

abbrev pub IsWritable : Output → Type 0
IsWritable o = Unit {0}

-- the results for the inputs of a command
abbrev pub ResultsIn : Reading → Request → Result Output InputError → Type 0
ResultsIn k r result = Shell.ResultsIn explore_program text_of status_of IsWritable k r result
