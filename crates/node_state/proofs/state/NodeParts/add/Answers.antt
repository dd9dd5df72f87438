use Rattle.std.proofs.Common.{get_or, sym, subst}
use Rattle.run_types.specs.declared.frames.CodeObject.{CodeObject}
use Rattle.code_semantics.specs.StepInstructions.{FitsUnit}
use Rattle.node_heap.specs.Heaps.{unbegun}
use Rattle.node_state.proofs.AddedObject.{class_there, placed_there, most_is, unbegun_fits, by_added}
use Rattle.node_state.proofs.state.NodeParts.add.Goals as goal

pub place-requires : goal.place-requires
place-requires c = rw (c.requires.unit.vars) (most_is c.args.unit.now.classes c.args.class (get_or c.items.result.now c.args.class c.index-items-class.result) (class_there c.args.unit.now.classes c.items.result.now c.args.class c.index-items-class.result c.requires.class c.items.ensures))

pub to_step-requires-clause-fits : goal.to_step-requires-clause-fits
to_step-requires-clause-fits c =
    subst (λ (x : CodeObject). FitsUnit c.args.unit.now x)
    (sym (placed_there c.args.self.now.heap c.place.new.self c.in-Ok.slot (unbegun c.args.class (get_or c.items.result.now c.args.class c.index-items-class.result).vars) c.in-Ok.ensures.ok))
    (unbegun_fits c.args.unit.now c.args.class (get_or c.items.result.now c.args.class c.index-items-class.result) (class_there c.args.unit.now.classes c.items.result.now c.args.class c.index-items-class.result c.requires.class c.items.ensures))

pub returns-in-Ok-clause-added : goal.returns-in-Ok-clause-added
returns-in-Ok-clause-added c =
    by_added c.args.unit.now c.args.class (get_or c.items.result.now c.args.class c.index-items-class.result) (class_there c.args.unit.now.classes c.items.result.now c.args.class c.index-items-class.result c.requires.class c.items.ensures) c.args.self.now c.place.new.self c.to_step.new.heap c.in-Ok.slot c.refresh.new.self c.requires.whole c.requires.unit
    (λ e. let w = c.place.ensures.objects.1 e in absurd (cc)) c.in-Ok.ensures.ok c.to_step.ensures.settled c.to_step.ensures.fits c.to_step.ensures.rests c.refresh.ensures
