use Rattle.std.proofs.Common.{rules, ◌==◌, Bool}
use Rattle.cell_pool.proofs.Laws.{first_is_position}
use Rattle.slot_queues.specs.declared.lanes.Stamped.{Stamped}
use Rattle.slot_queues.proofs.lanes.Lanes.at.Goals as goal

pub returns : goal.returns
returns c = let p : Stamped → Bool = λ x. x.stamp == c.args.stamp in first_is_position p _ c.position.result c.position.ensures (λ x b told. search rules)
