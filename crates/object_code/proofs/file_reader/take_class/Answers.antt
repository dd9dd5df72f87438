use Rattle.object_code.proofs.ReadLoops.{class_taken}
use Rattle.object_code.proofs.file_reader.take_class.Goals as goal

pub returns : goal.returns
returns c =
    class_taken c.args.bytes.now c.in-Ok.taken.1.now c.in-Ok-take_list.taken.1.now c.in-Ok-take_methods.taken.2.now c.in-Ok-take_code.taken.1.now c.in-Ok.taken.0 c.in-Ok-take_list.taken.0 c.items.result.now
    c.in-Ok-take_methods.taken.0 c.in-Ok-take_methods.taken.1 c.in-Ok-take_code.taken.0 c.in-Ok.ensures c.in-Ok-take_list.ensures.given c.in-Ok-take_methods.ensures.given c.in-Ok-take_methods.ensures.many c.in-Ok-take_code.ensures
    c.items.ensures
