use Rattle.std.proofs.Common.{◌∙◌, ap, sym}
use Rattle.std.specs.Option.{option_copied, option_map}
use Rattle.stepper_objects.specs.ObjectStates.{thing_object}
use Rattle.pool_semantics.proofs.MapAbstraction.{things_lookup}
use Rattle.pool_semantics.proofs.plain.state.State.next_of.Goals as goal

pub returns-in-None-clause-none : goal.returns-in-None-clause-none
returns-in-None-clause-none c = things_lookup c.args.object c.args.self.now.objects.entries ∙ ap (option_map thing_object) (sym c.get.ensures.value ∙ ap option_copied c.in-None.is)

pub returns-in-Some-clause-some : goal.returns-in-Some-clause-some
returns-in-Some-clause-some c = (things_lookup c.args.object c.args.self.now.objects.entries ∙ ap (option_map thing_object) (sym c.get.ensures.value ∙ ap option_copied c.in-Some.is), c.act.ensures.gives)
