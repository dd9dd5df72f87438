use Rattle.std.proofs.Common.{◌∙◌, ap, refl, sym, Some}
use Rattle.std.specs.Ordering.{nat_cmp}
use Rattle.std.specs.FinMap.{put}
use Rattle.pool_syntax.specs.TreeOf.{program_of}
use Rattle.pool_semantics.specs.Plains.{configuration}
use Rattle.pool_semantics.proofs.Labels.{return_refused, return_unawaited, return_made, return_by_two}
use Rattle.pool_semantics.proofs.plain.state.State.give_back.Goals as goal

pub returns-then-not-returns-clause-step : goal.returns-then-not-returns-clause-step
returns-then-not-returns-clause-step c =
    let s = c.args.self.now in
    (return_refused (program_of s.program.now) s.objects (configuration s).messages c.args.receiver c.args.caller c.args.value c.in-Some.field-0-0.now c.in-Some.act c.in-Some.ensures.some (sym c.returns.ensures ∙ c.if-not-returns.true), refl)

pub returns-then-not-waits_for-clause-step : goal.returns-then-not-waits_for-clause-step
returns-then-not-waits_for-clause-step c =
    let s = c.args.self.now in (
      return_unawaited (program_of s.program.now) s.objects (configuration s).messages c.args.receiver c.args.caller c.args.value c.in-Some.field-0-0.now c.in-Some-acting.field-0-0.now c.in-Some.act c.in-Some-acting.waits
          c.in-Some.ensures.some c.in-Some-acting.ensures.some (sym c.waits_for.ensures ∙ c.if-not-waits_for.true),
      refl,
    )

pub returns-clause-step : goal.returns-clause-step
returns-clause-step c =
    let s = c.args.self.now in
    let p = program_of s.program.now in
    let ms = (configuration s).messages in
    let b = c.args.receiver in
    let o = c.args.caller in
    let v = c.args.value in
    let y = c.in-Some.field-0-0.now in
    let x = c.in-Some-acting.field-0-0.now in
    let d = c.in-Some.ensures.some in
    let g = c.in-Some-acting.ensures.some in
    let h = sym c.returns.ensures ∙ c.if-not-returns.false in
    let k = sym c.waits_for.ensures ∙ c.if-not-waits_for.false in
    let apart = return_by_two p s.objects b o v y x c.in-Some.act c.in-Some-acting.waits d g h k in (
      return_made p s.objects ms b o v y x c.in-Some.act c.in-Some-acting.waits d g h k
          ∙ ap (λ os. Some (record { objects = os; messages = ms }))
          (sym (c.in_ok-update-2.ensures.changed x (c.update.ensures.others o apart ∙ g.found) ∙ ap (put nat_cmp o _) (c.in_ok-update.ensures.changed y d.found))),
      refl,
    )
