use Rattle.std.proofs.Common.{◌≡◌, ap, ◌∙◌, map, Some}
use Rattle.std.specs.List.{slice_get}
use Rattle.std.specs.Map.Iter.{deref_pair}
use Rattle.std.proofs.lemmas.Map.Iter.{rest_more}
use Rattle.run_types.specs.Tables.{pair_cmp}
use Rattle.pool_semantics.specs.Mails.{message_of, posts, queued}
use Rattle.visited_set.specs.declared.numbered.Queue.{Queue}
use Rattle.visited_set.proofs.NumberingSteps.{queues_step}
use Rattle.visited_set.proofs.SortedMaps.{in_order}
use Rattle.visited_set.proofs.made.queues_of.Goals as goal

pub returns-clause-sorted : goal.returns-clause-sorted
returns-clause-sorted c = in_order pair_cmp queued c.args.messages.now.entries c.iter-pair-items.ensures.ordered

pub returns-in-None-2-clause-sorted : goal.returns-in-None-2-clause-sorted
returns-in-None-2-clause-sorted c = in_order pair_cmp queued c.args.messages.now.entries c.iter-pair-items.ensures.ordered

pub loop-pair-preserved : goal.loop-pair-preserved
loop-pair-preserved c =
    let l = c.loop-pair in
    let q : Queue = record { sender = c.in-Some.pair.now.0; receiver = c.in-Some.pair.now.1; mails = c.in-Some-2.mails } in
    let more = rest_more deref_pair l.pair-iterator c.next.new.self c.next.result (c.in-Some.pair, c.in-Some.queue) c.in-Some.is c.next.ensures.steps in
    let found : slice_get c.number_of.new.self c.in-Some-2.mails ≡ Some (map message_of c.as_slice.result.now) = rw c.in-Some-2.is at c.in_ok-mails-2.ensures.found in
    rw c.in_ok-push-in-Some-2.ensures.items
    (queues_step c.args.table.now l.table c.number_of.new.self l.queues.items q c.in-Some.queue.now l.pair-iterator c.next.new.self (posts c.args.messages.now.entries) l.invariant.0 l.invariant.1 l.invariant.2 more
    c.number_of.ensures.grows (found ∙ ap Some (ap (map message_of) (c.as_slice.ensures.value ∙ c.in_ok-mails.ensures))))
