use Rattle.std.proofs.Common.{◌<◌, length}
use Rattle.std.proofs.lemmas.Option.{slice_get_within}
use Rattle.slot_queues.specs.Mail.{box_of}
use Rattle.slot_queues.proofs.Counts.{counts_taken}
use Rattle.slot_queues.proofs.behind.Behind.take.Goals as goal

pub invariant_of-self : goal.invariant_of-self
invariant_of-self c =
    let i = c.self.inside in let q = i.queues in let l : c.args.place < length (box_of q c.args.to) = slice_get_within (box_of q c.args.to) c.args.place c.take-message.result c.take-message.ensures.message in counts_taken i.counts.items q c.args.to c.index_mut.result.now c.self.invariant c.args.self.now c.self.view_is c.requires.0 c.index_mut.ensures.value c.take-message.new.self c.args.place l c.take-message.ensures.boxes
