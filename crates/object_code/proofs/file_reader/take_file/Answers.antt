use Rattle.object_code.proofs.ReadLoops.{file_taken}
use Rattle.object_code.proofs.file_reader.take_file.Goals as goal

pub returns-clause-given : goal.returns-clause-given
returns-clause-given c =
    let h = c.in-Ok-take_names.ensures.given in (
      h.0,
      file_taken c.args.bytes.now c.in-Ok.taken.now c.in-Ok-take_names.taken.1.now c.in-Ok-take_classes.taken.2.now h.0 c.in-Ok-take_classes.taken.0 c.in-Ok-take_classes.taken.1 c.in-Ok.ensures h.1
          c.in-Ok-take_classes.ensures.given c.in-Ok-take_classes.ensures.many,
      h.2,
    )
