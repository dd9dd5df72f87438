use Rattle.mesh_of_terms.proofs.StartAndEvents.{event_keeps}
use Rattle.mesh_of_terms.proofs.theorems.each_event_keeps_sound.Goals as goal

pub returns : goal.returns
returns c = λ p l q k d e none written fit s. event_keeps p none written l fit q k d e s
