use Rattle.std.proofs.Common.{ap, ◌∙◌}
use Rattle.run_types.specs.declared.types.Label.TheVariants as L
use Rattle.run_types.specs.declared.types.What.TheVariants as W
use Rattle.node_acts.proofs.StepFromChanges.{fault_made}
use Rattle.node_acts.proofs.acts.fault_turn.Goals as goal

pub returns : goal.returns
returns c = λ l q leaving set.
    fault_made c.args.unit.now l leaving c.args.parts.now set c.args.slot c.requires.slot q c.fault.new.self c.args.error c.step-room.result c.requires.kind c.fault.ensures
    (c.step-room.ensures ∙ ap (λ o. W.Step (L.Fault o c.args.error) 1) c.name_of-object.ensures)
