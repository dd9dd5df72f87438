use Rattle.pool_relation.specs.Typed.{scope}
use Rattle.watch_laws.proofs.LineOfEach.{has_line_of_each}
use Rattle.watch_laws.proofs.theorems.each_method_under_way_has_a_line.Goals as goal

pub returns : goal.returns
returns c = λ names p from o x typed at. has_line_of_each names o (scope p from x.class) x.term (typed.sound o x at)
