use Rattle.pool_syntax.specs.TreeOf.{program_of}
use Rattle.pool_semantics.specs.Plains.{configuration}
use Rattle.pool_semantics.proofs.MoverSets.{all_movers, only_movers}
use Rattle.pool_semantics.proofs.SoundSteps.{sound_now}
use Rattle.pool_semantics.proofs.plain.Plain.movers.Goals as goal

pub returns-clause-all : goal.returns-clause-all
returns-clause-all c =
    let s = c.args.self.now.state in
    let p = program_of s.program.now in
    all_movers p (configuration s) c.new-movers.result c.add_by_objects.new.movers c.add_by_messages.new.movers c.in_ok-add_by_objects.ensures c.in_ok-add_by_messages.ensures

pub returns-clause-only : goal.returns-clause-only
returns-clause-only c =
    let s = c.args.self.now.state in
    let p = program_of s.program.now in
    only_movers p (configuration s) c.new-movers.result c.add_by_objects.new.movers c.add_by_messages.new.movers
    (sound_now c.args.self.now.spent p (configuration s) c.args.self.now.typed c.requires) c.new-movers.ensures.empty c.in_ok-add_by_objects.ensures c.in_ok-add_by_messages.ensures
