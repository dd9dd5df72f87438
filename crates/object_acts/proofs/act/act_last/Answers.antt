use Rattle.std.proofs.Common.{◌≡◌, ◌∙◌, ap, sym, ◌-◌, length, slice_get, Some, arith}
use Rattle.std.proofs.lemmas.Grind.{common_steps}
use Rattle.pool_relation.specs.Action.{redex_action}
use Rattle.stepper_terms.specs.Reduced.{last_redex}
use Rattle.object_acts.proofs.EndActions.{last_acts}
use Rattle.object_acts.proofs.act.act_last.Goals as goal

pub returns-in-Some-clause-gives : goal.returns-in-Some-clause-gives
returns-in-Some-clause-gives c = λ p o x vs ns cs e.
    let xs = c.args.work.now.calls.items in
    let a = c.in-Some.call.now in
    let h : slice_get xs (length xs - 1) ≡ Some a = grind (arith, common_steps) in
    last_acts p o c.args.work.now a x c.requires h e
    ∙ ap (λ v. redex_action p o x a.temps.items (last_redex a v)) (sym c.end_value.ensures)
    ∙ c.act_end.ensures.gives p o x a.temps.items vs ns cs
