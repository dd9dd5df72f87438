use Rattle.std.proofs.Common.{refl}
use Rattle.command_inputs.specs.Readers as R
use Rattle.command_inputs.proofs.ReadLaws.{input_judged, input_passed_on}
use Rattle.command_inputs.proofs.record.read_lines.Goals as goal

pub returns-in-Ok : goal.returns-in-Ok
returns-in-Ok g c = input_judged _ _ _ _ _ _ _ _ _ c.in-Ok.read _ c.in-Ok.ensures (λ s is. R.fits _ refl is.0)

pub returns-in-Err : goal.returns-in-Err
returns-in-Err g c = input_passed_on _ _ _ _ _ _ _ _ _ c.in-Err.stop (λ s f h. h) (λ s q. q) c.in-Err.ensures
