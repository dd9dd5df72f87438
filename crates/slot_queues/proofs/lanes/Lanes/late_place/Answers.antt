use Rattle.std.proofs.Common.{rules, Bool, [], get_or, position, ap, ◌∙◌}
use Rattle.cell_pool.proofs.Laws.{first_is_position}
use Rattle.slot_queues.specs.declared.lanes.Stamped.{Stamped}
use Rattle.slot_queues.specs.Mail.{is_named}
use Rattle.slot_queues.proofs.lanes.Lanes.late_place.Goals as goal

pub returns : goal.returns
returns c = let p : Stamped → Bool = λ x. is_named c.args.names.now x.message.method in
    first_is_position p _ c.position.result c.position.ensures (λ x b told. search rules)
    ∙ ap (λ j. position p (get_or c.args.self.now.pool.lists j [])) c.late.ensures
