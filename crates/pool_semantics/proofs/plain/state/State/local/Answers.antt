use Rattle.std.proofs.Common.{◌∙◌, ap, refl, sym, Some}
use Rattle.pool_syntax.specs.TreeOf.{program_of}
use Rattle.pool_semantics.specs.Plains.{configuration}
use Rattle.pool_semantics.proofs.Labels.{local_made, local_refused}
use Rattle.pool_semantics.proofs.plain.state.State.local.Goals as goal

pub returns-in_ok-update-in-Local-clause-step : goal.returns-in_ok-update-in-Local-clause-step
returns-in_ok-update-in-Local-clause-step c =
    let s = c.args.self.now in
    let t = c.in-Some.field-0-0.now in
    let d = rw c.in-Local.is at c.in-Some.ensures.some in
    let ms = (configuration s).messages in
    (local_made (program_of s.program.now) s.objects ms c.args.object t c.in-Local.change d ∙ ap (λ os. Some (record { objects = os; messages = ms })) (sym (c.in_ok-update-in-Local.ensures.changed t d.found)), refl)

pub returns-in_default-clause-step : goal.returns-in_default-clause-step
returns-in_default-clause-step c =
    let s = c.args.self.now in
    (local_refused (program_of s.program.now) s.objects (configuration s).messages c.args.object c.in-Some.field-0-0.now c.in-Some.act c.in-Some.ensures.some c.in_default.not-Local, refl)
