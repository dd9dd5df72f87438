use Rattle.std.proofs.Common.{sym, ◌∙◌}
use Rattle.table_routing.specs.Tables.{size}
use Rattle.table_routing.proofs.MissingRoute.{broken_here, whole_here}
use Rattle.table_routing.proofs.routes.broken_to.Goals as goal

pub returns-then-is_broken : goal.returns-then-is_broken
returns-then-is_broken c =
    sym (broken_here c.args.placement.now c.args.from c.loop-to.to (size c.args.placement.now) c.loop-to-test.true (sym c.is_broken.ensures ∙ c.if-is_broken.true)) ∙ c.loop-to.invariant

pub loop-to-preserved : goal.loop-to-preserved
loop-to-preserved c =
    sym (whole_here c.args.placement.now c.args.from c.loop-to.to (size c.args.placement.now) c.loop-to-test.true (sym c.is_broken.ensures ∙ c.if-is_broken.false)) ∙ c.loop-to.invariant
