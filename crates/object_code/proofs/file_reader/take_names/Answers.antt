use Rattle.object_code.proofs.ReadLoops.{taken_all, taken_on}
use Rattle.object_code.proofs.file_reader.take_names.Goals as goal

pub loop-preserved : goal.loop-preserved
loop-preserved c =
    taken_on c.args.bytes.now c.loop.rest.now c.in-Ok-take_text.taken.1.now c.in-Ok-take_text.taken.0.now c.in-Ok.taken.0 c.loop.counter c.loop.names c.add_name.new.names c.loop.twice c.in-Ok-add_name.found
    c.loop-test.true c.in-Ok-take_text.ensures c.loop.invariant c.in-Ok-add_name.ensures.table c.in-Ok-add_name.ensures.size

pub returns-clause-given : goal.returns-clause-given
returns-clause-given c = taken_all c.args.bytes.now c.loop.rest.now c.in-Ok.taken.0 c.loop.counter c.loop.names c.loop.twice c.loop-test.false c.loop.invariant
