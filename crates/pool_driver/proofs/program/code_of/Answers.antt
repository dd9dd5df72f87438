use Rattle.std.proofs.Common.{◌≡◌, ap, Err}
use Rattle.command_inputs.specs.declared.fault.InputError.TheVariants as T
use Rattle.pool_driver.proofs.program.code_of.Goals as goal

pub returns-in-Err-clause-refused : goal.returns-in-Err-clause-refused
returns-in-Err-clause-refused c i f e = let is : c.in-Err.stop ≡ T.Refused i f = cc in c.in-Err.ensures.refused i f (ap Err is)
