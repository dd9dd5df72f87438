use Rattle.node_semantics.proofs.TurnsAnswer.{turn_steps, turn_idles}
use Rattle.node_semantics.proofs.theorems.a_node_answers_its_turn.Goals as goal

pub returns-clause-idle : goal.returns-clause-idle
returns-clause-idle g z = λ h l q leaving n fresh x none. turn_idles h n x l q leaving fresh none

pub returns-clause-step : goal.returns-clause-step
returns-clause-step g z = λ h l q leaving n fresh x can some. turn_steps h n x can l q leaving fresh some
