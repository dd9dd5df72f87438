use Rattle.std.proofs.Common.{◌≡◌, Some, refl, subst}
use Rattle.std.specs.Prelude.{IfNone}
use Rattle.pool_relation.specs.Transition.{run}
use Rattle.mesh_semantics.specs.Record.{labels_of}
use Rattle.pool_semantics.specs.PlainOf.{configuration_of, program_tree}
use Rattle.stream_check.specs.declared.judge.Lines.{Lines}
use Rattle.stream_check.proofs.NextLine.{after_step}
use Rattle.stream_check.proofs.judge.Lines.step.Goals as goal

pub returns-in-Ok-None-clause-verdict : goal.returns-in-Ok-None-clause-verdict
returns-in-Ok-None-clause-verdict c =
    let j = c.args.self.now in
    let l = c.args.line.now in
    let i : Lines = record { filling = record { plain = c.follow_line.new.plain; lines = j.filling.lines; last = j.filling.last }; begun = j.begun; last = c.next_number-self.result } in
    let leads : run (program_tree j.filling.plain) (configuration_of j.filling.plain) (labels_of l) ≡ Some (configuration_of i.filling.plain) =
    subst (λ o. IfNone o (run (program_tree j.filling.plain) (configuration_of j.filling.plain) (labels_of l) ≡ Some (configuration_of i.filling.plain))) c.in-Ok-None.field-0-is c.in-Ok-None.ensures.leads in
    λ p ls ready next event. (
      event,
      after_step p ls l j ready i next event c.follow_line.ensures.program c.in-Ok-None.ensures.going_on leads refl c.next_number-self.ensures,
    )
