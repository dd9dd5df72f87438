use Rattle.std.proofs.Common.{ap, ◌∙◌}
use Rattle.run_types.specs.declared.types.Label.TheVariants as L
use Rattle.run_types.specs.declared.types.What.TheVariants as W
use Rattle.node_acts.proofs.StepFromChanges.{write_made}
use Rattle.node_acts.proofs.acts.write_turn.Goals as goal

pub returns : goal.returns
returns c = λ l q leaving set.
    write_made c.args.unit.now l leaving c.args.parts.now set c.args.slot c.requires.slot q c.go_on.new.self c.args.item c.step-room.result c.requires.kind c.go_on.ensures
    (c.step-room.ensures ∙ ap (λ o. W.Step (L.Write o c.args.item) 1) c.name_of-object.ensures)
