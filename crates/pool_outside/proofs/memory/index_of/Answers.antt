use Rattle.std.proofs.Common.{arith, ℕ, List, ap, ◌∙◌}
use Rattle.pool_outside.proofs.FilesByName.{found_at}
use Rattle.pool_outside.proofs.memory.index_of.Goals as goal

pub returns-then-eq : goal.returns-then-eq
returns-then-eq c =
    let name = ap (λ (t : List ℕ × List ℕ). t.0) c.t.view_is in
    found_at c.args.texts.now c.index-texts-i.result c.loop-i.i c.args.name.now (omega arith) c.index-texts-i.is (cc) ∙ c.loop-i.invariant
