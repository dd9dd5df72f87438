use Rattle.mesh_of_terms.specs.Terms.{terms}
use Rattle.mesh_semantics.proofs.Laws.{idle_turn, idle_link, idle_wire, turn_idles, link_idles, wire_idles}
use Rattle.mesh_of_terms.proofs.theorems.idle_is_nothing.Goals as goal

pub returns-clause-turn : goal.returns-clause-turn
returns-clause-turn c = λ p l q k e d f n i. idle_turn (terms p) l q k e d f n i

pub returns-clause-link : goal.returns-clause-link
returns-clause-link c = λ p l q k e d f a b s i. idle_link (terms p) l q k e d f a b s i

pub returns-clause-idle_turn : goal.returns-clause-idle_turn
returns-clause-idle_turn c = λ p l q k d n i. turn_idles (terms p) l q k d n i

pub returns-clause-idle_link : goal.returns-clause-idle_link
returns-clause-idle_link c = λ p l q k d a b i. link_idles (terms p) l q k d a b i

pub returns-clause-wire : goal.returns-clause-wire
returns-clause-wire c = λ p l q k e d f w a b i. idle_wire (terms p) l q k e d f w a b i

pub returns-clause-idle_wire : goal.returns-clause-idle_wire
returns-clause-idle_wire c = λ p l q k d w a b i. wire_idles (terms p) l q k d w a b i
