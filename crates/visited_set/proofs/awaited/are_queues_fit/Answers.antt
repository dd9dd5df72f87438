use Rattle.std.proofs.Common.{rules, ◌≡◌, ◌<◌, ◌≤◌, ap, sym, subst, List, map, length, true, arith}
use Rattle.std.proofs.lemmas.List.{drop_all, drop_more}
use Rattle.run_types.specs.Message.{Message}
use Rattle.run_types.specs.Tables.{Each, Pair}
use Rattle.known_names.specs.Awaited.{is_queue_fit}
use Rattle.object_moves.specs.Tables.{table_program}
use Rattle.visited_set.specs.declared.numbered.Queue.{Queue}
use Rattle.visited_set.specs.Numbers.{queue_messages}
use Rattle.visited_set.proofs.awaited.are_queues_fit.Goals as goal

pub loop-queue-preserved : goal.loop-queue-preserved
loop-queue-preserved c = λ k same rest.
    let qs = c.args.queues.now in
    let i = c.loop-queue.queue-index in
    let none : Queue = record { sender = 0; receiver = 0; mails = 0 } in
    let inside : i < length qs = omega arith in
    let left = ap (map (queue_messages c.args.lists.now)) (drop_more qs i none inside) in
    c.loop-queue.invariant k same (subst (Each (λ (e : Pair × List Message). is_queue_fit (table_program c.args.moves.now) c.args.others.next c.args.others.name k e.0.1 e.1 ≡ true)) (sym left)
    (c.is_queue_fit.ensures c.if-not-is_queue_fit.false k same, rest))

pub returns : goal.returns
returns c = λ told k same.
    let past : length c.args.queues.now ≤ c.loop-queue.queue-index = search rules in
    c.loop-queue.invariant k same (subst (Each (λ (e : Pair × List Message). is_queue_fit (table_program c.args.moves.now) c.args.others.next c.args.others.name k e.0.1 e.1 ≡ true))
    (sym (ap (map (queue_messages c.args.lists.now)) (drop_all c.loop-queue.queue-index c.args.queues.now past))) tt)
