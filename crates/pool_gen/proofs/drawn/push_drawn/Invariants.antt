use Rattle.std.proofs.Common.{◌≡◌, ◌++◌, ◌-◌}
use Rattle.rand_core.specs.Steps.{first_words}
use Rattle.rand_pcg.specs.Pcg.{pcg32}
use Rattle.pool_gen.specs.Ring.{drawn_lines}
use Rattle.pool_gen.proofs.drawn.push_drawn.Given as goal

-- the lines so far and those of the words to come are all the lines
abbrev pub invariant-loop-done : goal.invariant-loop-done
invariant-loop-done l =
    l.text ++ drawn_lines (first_words pcg32 (l.count - l.done) l.generator)
    ≡ l.fn.text ++ drawn_lines (first_words pcg32 l.count l.fn.generator)
