use Rattle.std.proofs.Common.{ℕ, ◌≤◌, sym, subst}
use Rattle.run_types.specs.Tables.{Each}
use Rattle.mesh_of_code.specs.Coded.{coded}
use Rattle.node_state.specs.NodeOf.{NodeOf}
use Rattle.node_state.specs.Views.{node_of}
use Rattle.node_acts.specs.ActOf.{act_of}
use Rattle.pool_node.proofs.MadeCounts.{counts_after}
use Rattle.pool_node.proofs.node.Node.turn_into.Goals as goal

pub returns-clause-counts : goal.returns-clause-counts
returns-clause-counts c = λ most h.
    counts_after (coded c.args.plan.now.unit.now) c.args.plan.now.placement.now c.args.quantum c.self.inside.parts.id c.args.plan.now.leaving c.turn_of.ensures.act.0 (act_of c.turn_of.result c.turn_of.new.room)
    (node_of c.self.inside.parts) (node_of c.turn_of.new.parts) c.turn_of.ensures.act.2 most (subst (λ (n : NodeOf). Each (λ (k : ℕ). k ≤ most) n.state.made) (sym c.self.view_is) h)
