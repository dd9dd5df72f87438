use Rattle.std.proofs.Common.{◌-◌, length, is_some}
use Rattle.stepper_terms.specs.Arguments.{now_names, now_choices}
use Rattle.stepper_objects.specs.Offers.{offer_act}
use Rattle.pool_semantics.proofs.EarliestMessage.{NoneSo}
use Rattle.pool_semantics.proofs.plain.mail.any_early.Given as goal

abbrev pub invariant-loop-at : goal.invariant-loop-at
invariant-loop-at l = NoneSo (λ n. is_some (offer_act l.act (now_names l.work.next) (now_choices l.work.next) n)) l.mails.items l.at

abbrev pub decreases-loop-at : goal.decreases-loop-at
decreases-loop-at l = length l.mails.items - l.at
