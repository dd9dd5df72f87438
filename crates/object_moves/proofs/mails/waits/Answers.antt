use Rattle.std.proofs.Common.{sym, ap, ◌∙◌}
use Rattle.std.specs.Option.{option_copied}
use Rattle.run_types.specs.Tables.{Pair}
use Rattle.pool_semantics.specs.Mails.{queued}
use Rattle.pool_semantics.proofs.Laws.{list_missing}
use Rattle.object_moves.proofs.WaitingMail.{is_missing}
use Rattle.object_moves.proofs.mails.waits.Goals as goal

pub returns : goal.returns
returns c = λ h.
    let k : Pair = (c.args.sender, c.args.receiver) in
    list_missing queued k c.args.messages.now.entries (sym c.get.ensures.value ∙ ap option_copied (is_missing c.get.result (sym c.is_some.ensures ∙ h)))
