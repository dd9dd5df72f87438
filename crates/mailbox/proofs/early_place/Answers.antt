use Rattle.std.proofs.Common.{rules}
use Rattle.slot_queues.specs.Mail.{is_named}
use Rattle.slot_queues.specs.declared.Message.{Message}
use Rattle.std.proofs.Common.{Bool}
use Rattle.cell_pool.proofs.Laws.{first_is_position}
use Rattle.mailbox.proofs.early_place.Goals as goal

pub returns : goal.returns
returns c =
    let p : Message → Bool = λ m. is_named c.args.names.now m.method in first_is_position p _ c.position.result c.position.ensures (λ x b told. search rules)
