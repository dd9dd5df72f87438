use Rattle.std.proofs.Common.{◌≡◌, ◌∙◌, ap, length, arith}
use Rattle.message_queue.proofs.Parts.{no_early}
use Rattle.message_queue.proofs.MessageQueue.is_empty.Goals as goal

pub returns-else-is_empty : goal.returns-else-is_empty
returns-else-is_empty c =
    let b = c.if-is_empty.ensures in (
      λ e. absurd (grind (arith, e)),
      λ h. let l : c.self.inside.early.len ≡ 0 = c.self.inside.early.ok.0 ∙ ap length (no_early c.self.inside.early.items c.self.inside.behind (c.self.view_is ∙ h)) in grind (arith, l, b),
    )
