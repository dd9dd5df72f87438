use Rattle.mesh_semantics.proofs.Idle.{idle_turn, idle_link, idle_wire, turn_idles, link_idles, wire_idles}
use Rattle.mesh_semantics.proofs.theorems.idle_is_nothing.Goals as goal

pub returns-clause-turn : goal.returns-clause-turn
returns-clause-turn g c = λ h l q k e d f n i. idle_turn h l q k e d f n i

pub returns-clause-link : goal.returns-clause-link
returns-clause-link g c = λ h l q k e d f a b w i. idle_link h l q k e d f a b w i

pub returns-clause-idle_turn : goal.returns-clause-idle_turn
returns-clause-idle_turn g c = λ h l q k d n i. turn_idles h l q k d n i

pub returns-clause-idle_link : goal.returns-clause-idle_link
returns-clause-idle_link g c = λ h l q k d a b i. link_idles h l q k d a b i

pub returns-clause-wire : goal.returns-clause-wire
returns-clause-wire g c = λ h l q k e d f w a b i. idle_wire h l q k e d f w a b i

pub returns-clause-idle_wire : goal.returns-clause-idle_wire
returns-clause-idle_wire g c = λ h l q k d w a b i. wire_idles h l q k d w a b i
