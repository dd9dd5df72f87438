use Rattle.std.proofs.Common.{◌∙◌, ap, refl, sym, Some}
use Rattle.pool_syntax.specs.TreeOf.{program_of}
use Rattle.pool_semantics.specs.Plains.{configuration}
use Rattle.pool_semantics.proofs.Labels.{fault_made, fault_other, fault_refused}
use Rattle.pool_semantics.proofs.plain.state.State.fault.Goals as goal

pub returns-in_default-clause-step : goal.returns-in_default-clause-step
returns-in_default-clause-step c =
    let s = c.args.self.now in
    (fault_refused (program_of s.program.now) s.objects (configuration s).messages c.args.object c.in-Some.field-0-0.now c.in-Some.act c.args.error c.in-Some.ensures.some c.in_default.not-Fault, refl)

pub returns-then-not-same_error-clause-step : goal.returns-then-not-same_error-clause-step
returns-then-not-same_error-clause-step c =
    let s = c.args.self.now in
    let d = rw c.in-Fault.is at c.in-Some.ensures.some in
    (fault_other (program_of s.program.now) s.objects (configuration s).messages c.args.object c.in-Some.field-0-0.now c.in-Fault.met c.args.error d (sym c.same_error.ensures ∙ c.if-not-same_error.true), refl)

pub returns-in_ok-update-in-Fault-clause-step : goal.returns-in_ok-update-in-Fault-clause-step
returns-in_ok-update-in-Fault-clause-step c =
    let s = c.args.self.now in
    let t = c.in-Some.field-0-0.now in
    let d = rw c.in-Fault.is at c.in-Some.ensures.some in
    let ms = (configuration s).messages in (
      fault_made (program_of s.program.now) s.objects ms c.args.object t c.in-Fault.met c.args.error d (sym c.same_error.ensures ∙ c.if-not-same_error.false)
          ∙ ap (λ os. Some (record { objects = os; messages = ms })) (sym (c.in_ok-update-in-Fault.ensures.changed t d.found)),
      refl,
    )
