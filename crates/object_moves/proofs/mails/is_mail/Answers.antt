use Rattle.std.proofs.Common.{◌≡◌, ap, ap₂, ◌∙◌, true, arith}
use Rattle.run_types.specs.Message.{Message}
use Rattle.run_types.specs.Same.{are_same}
use Rattle.run_types.proofs.Laws.{values_itself}
use Rattle.object_moves.proofs.mails.is_mail.Goals as goal

pub returns-then-mail-act-clause-other : goal.returns-then-mail-act-clause-other
returns-then-mail-act-clause-other c = λ h e.
    let vs = c.args.act.now.args in
    let equal : c.args.mail.now.args ≡ vs = ap (λ (m : Message). m.args) e in
    let same : c.same_values.result ≡ true = c.same_values.ensures.is ∙ ap₂ are_same c.values.ensures c.values-then-mail-act.ensures ∙ ap (λ us. are_same us vs) equal ∙ values_itself vs in
    absurd (grind (arith, h, same))
