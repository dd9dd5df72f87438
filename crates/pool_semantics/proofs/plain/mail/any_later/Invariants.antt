use Rattle.std.proofs.Common.{◌≡◌, is_some, map}
use Rattle.std.specs.List.{list_any}
use Rattle.std.specs.BTreeMap.{values}
use Rattle.stepper_terms.specs.Arguments.{now_names, now_choices}
use Rattle.stepper_objects.specs.Offers.{offer_act}
use Rattle.message_queue.specs.Mails.{message_of}
use Rattle.pool_semantics.proofs.plain.mail.any_later.Given as goal

-- the rest has one if all have one
abbrev pub invariant-loop-mail : goal.invariant-loop-mail
invariant-loop-mail l =
    list_any (λ m. is_some (offer_act l.act (now_names l.work.next) (now_choices l.work.next) m.method)) (map message_of l.mail-iterator)
    ≡ list_any (λ m. is_some (offer_act l.act (now_names l.work.next) (now_choices l.work.next) m.method)) (map message_of (values l.mails))
