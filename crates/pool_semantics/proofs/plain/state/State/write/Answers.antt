use Rattle.std.proofs.Common.{◌∙◌, ap, refl, sym, Some}
use Rattle.pool_syntax.specs.TreeOf.{program_of}
use Rattle.pool_semantics.specs.Plains.{configuration}
use Rattle.pool_semantics.proofs.Labels.{write_made, write_other, write_refused}
use Rattle.pool_semantics.proofs.plain.state.State.write.Goals as goal

pub returns-in_default-clause-step : goal.returns-in_default-clause-step
returns-in_default-clause-step c =
    let s = c.args.self.now in
    (write_refused (program_of s.program.now) s.objects (configuration s).messages c.args.object c.in-Some.field-0-0.now c.in-Some.act c.args.item c.in-Some.ensures.some c.in_default.not-Write, refl)

pub returns-then-not-same_item-clause-step : goal.returns-then-not-same_item-clause-step
returns-then-not-same_item-clause-step c =
    let s = c.args.self.now in
    let d = rw c.in-Write.is at c.in-Some.ensures.some in
    (write_other (program_of s.program.now) s.objects (configuration s).messages c.args.object c.in-Some.field-0-0.now c.in-Write.written c.args.item d (sym c.same_item.ensures ∙ c.if-not-same_item.true), refl)

pub returns-in_ok-update-in-Write-clause-step : goal.returns-in_ok-update-in-Write-clause-step
returns-in_ok-update-in-Write-clause-step c =
    let s = c.args.self.now in
    let t = c.in-Some.field-0-0.now in
    let d = rw c.in-Write.is at c.in-Some.ensures.some in
    let ms = (configuration s).messages in (
      write_made (program_of s.program.now) s.objects ms c.args.object t c.in-Write.written c.args.item d (sym c.same_item.ensures ∙ c.if-not-same_item.false)
          ∙ ap (λ os. Some (record { objects = os; messages = ms })) (sym (c.in_ok-update-in-Write.ensures.changed t d.found)),
      refl,
    )
