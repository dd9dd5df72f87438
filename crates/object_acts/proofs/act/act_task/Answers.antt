use Rattle.std.proofs.Common.{◌∙◌, ap, not}
use Rattle.stepper_terms.specs.Parts.{task}
use Rattle.stepper_terms.specs.Reduced.{assigns}
use Rattle.stepper_terms.specs.Changes.{assigning}
use Rattle.object_acts.specs.Acts.{object_with}
use Rattle.object_acts.proofs.act.act_task.Goals as goal

pub returns-in-Assign-clause-gives : goal.returns-in-Assign-clause-gives
returns-in-Assign-clause-gives c = λ p o tm f. rw c.in-Assign.is (c.act_assign.ensures.gives c.args.class tm f)

pub returns-in-Select-clause-gives : goal.returns-in-Select-clause-gives
returns-in-Select-clause-gives c = λ p o tm f. rw (c.in-Select.is, ← c.as_slice.ensures.value) (c.act_select.ensures.gives (object_with c.args.class c.args.vars.now tm f))

pub returns-in-Assign-clause-suits : goal.returns-in-Assign-clause-suits
returns-in-Assign-clause-suits c = λ xs n h k a. c.act_assign.ensures.suits xs n h (a ∙ ap assigning c.in-Assign.is)

pub returns-in-Select-clause-suits : goal.returns-in-Select-clause-suits
returns-in-Select-clause-suits c = λ xs n h k a. c.act_select.ensures.suits xs n h (k ∙ ap (λ j. not (assigns (task j))) c.in-Select.is)
