use Rattle.std.proofs.Common.{◌∙◌}
use Rattle.command_shell.specs.Results as R
use Rattle.command_shell.proofs.EndLaws.{writes_as}
use Rattle.command_shell.proofs.output.say_stop.Goals as goal

pub returns-in-Ok : goal.returns-in-Ok
returns-in-Ok g c =
    R.refusal c.in-Refused.input c.in-Refused.fault c.in-Refused.is (writes_as _ _ _ _ c.say.result (c.deref.ensures.value ∙ c.in-Ok.ensures) c.say.ensures)

pub returns-in-Ok-line_of_unread : goal.returns-in-Ok-line_of_unread
returns-in-Ok-line_of_unread g c =
    R.unread c.in-Unread.input c.in-Unread.is
    (writes_as _ _ _ _ c.say-in-Ok-line_of_unread.result (c.deref-in-Ok-line_of_unread.ensures.value ∙ c.in-Ok-line_of_unread.ensures) c.say-in-Ok-line_of_unread.ensures)
