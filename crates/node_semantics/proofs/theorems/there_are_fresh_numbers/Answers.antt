use Rattle.node_semantics.proofs.FreshNumbers.{numbers_exist, numbers_exist_on_wires}
use Rattle.node_semantics.proofs.theorems.there_are_fresh_numbers.Goals as goal

pub returns-clause-numbers : goal.returns-clause-numbers
returns-clause-numbers g z = λ h l q es. numbers_exist h l q es

pub returns-clause-on_wires : goal.returns-clause-on_wires
returns-clause-on_wires g z = λ h l q es. numbers_exist_on_wires h l q es
