use Rattle.std.proofs.Common.{length, map, sym, ap, ◌∙◌}
use Rattle.slot_queues.specs.Mail.{Mail}
use Rattle.slot_queues.specs.declared.Message.{Message}
use Rattle.slot_queues.proofs.Counts.{counts_blank}
use Rattle.slot_queues.proofs.behind.Behind.make.Goals as goal

pub invariant_of-result : goal.invariant_of-result
invariant_of-result c =
    let q = c.in_ok-queues.ensures in let n = c.in_ok-counts.ensures.items_if_clones_equal (λ y e. e) in
    n ∙ counts_blank c.args.objects ∙ sym (ap (λ (z : Mail Message). map length z.boxes) q)
