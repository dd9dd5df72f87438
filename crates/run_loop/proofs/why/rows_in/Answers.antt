use Rattle.std.proofs.Common.{◌∙◌, ◌*◌, ◌≤◌, sym, ap, subst}
use Rattle.run_types.specs.declared.types.Placement.{Placement}
use Rattle.mesh_of_code.specs.Coded.{coded}
use Rattle.run_loop.specs.ReportRows.{rows_in}
use Rattle.run_loop.proofs.WhyLaws.{rows_all}
use Rattle.run_loop.proofs.RowLaws.{none_below}
use Rattle.run_loop.proofs.why.rows_in.Goals as goal

pub loop-node-init : goal.loop-node-init
loop-node-init c = λ c' d s. c.make-rows.ensures ∙ ap (rows_in (coded c.args.machine.now.unit) d) (sym (none_below c'.objects))

pub returns : goal.returns
returns c = λ c' d s.
    c.loop-node.invariant c' d s
    ∙ rows_all c.args.machine.now.unit c' d c.args.machine.now.placement s.sound c.loop-node.node
    (subst (λ (l : Placement). l.width * l.height ≤ c.loop-node.node) c.requires.same c.loop-node-test.false)
