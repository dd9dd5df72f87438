use Rattle.std.proofs.Common.{◌∙◌, ap, refl, sym, Some}
use Rattle.pool_syntax.specs.TreeOf.{program_of, statements_of}
use Rattle.stepper_objects.specs.Offers.{work_seen}
use Rattle.pool_semantics.specs.Plains.{configuration}
use Rattle.pool_semantics.proofs.Labels.{pick_made, pick_other, pick_refused}
use Rattle.pool_semantics.proofs.plain.state.State.pick.Goals as goal

pub returns-in_default-clause-step : goal.returns-in_default-clause-step
returns-in_default-clause-step c =
    let s = c.args.self.now in
    (pick_refused (program_of s.program.now) s.objects (configuration s).messages c.args.object c.in-Some.thing.now c.in-Some.act c.args.alt c.in-Some.ensures.some c.in_default.not-Select, refl)

pub returns-in-None-plain_alt-clause-step : goal.returns-in-None-plain_alt-clause-step
returns-in-None-plain_alt-clause-step c =
    let s = c.args.self.now in
    let d = rw c.in-Select.is at c.in-Some.ensures.some in
    (pick_other (program_of s.program.now) s.objects (configuration s).messages c.args.object c.in-Some.thing.now c.args.alt d (sym c.plain_alt.ensures ∙ ap work_seen c.in-None-plain_alt.is), refl)

pub returns-in_ok-update-in-Some-plain_alt-clause-step : goal.returns-in_ok-update-in-Some-plain_alt-clause-step
returns-in_ok-update-in-Some-plain_alt-clause-step c =
    let s = c.args.self.now in
    let t = c.in-Some.thing.now in
    let d = rw c.in-Select.is at c.in-Some.ensures.some in
    let ms = (configuration s).messages in (
      pick_made (program_of s.program.now) s.objects ms c.args.object t c.args.alt (statements_of c.in-Some-plain_alt.work.now) d (sym c.plain_alt.ensures ∙ ap work_seen c.in-Some-plain_alt.is)
          ∙ ap (λ os. Some (record { objects = os; messages = ms })) (sym (c.in_ok-update-in-Some-plain_alt.ensures.changed t d.found)),
      refl,
    )
