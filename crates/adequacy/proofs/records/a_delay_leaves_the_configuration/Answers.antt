use Rattle.adequacy.proofs.SilentEvents.{delay_keeps}
use Rattle.adequacy.proofs.records.a_delay_leaves_the_configuration.Goals as goal

pub returns : goal.returns
returns s c = λ g l q e f d k ev what h n. delay_keeps g l q e d ev what f k h n
