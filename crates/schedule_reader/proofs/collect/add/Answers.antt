use Rattle.std.proofs.Common.{◌+◌, ◌*◌, ap, ◌∙◌, subst, sym, arith}
use Rattle.schedule_reader.specs.EventRuns.{AreEnds}
use Rattle.schedule_reader.proofs.EventRuns.{ends_push}
use Rattle.schedule_reader.proofs.collect.add.Goals as goal

pub returns-in_ok-push-clause-ends : goal.returns-in_ok-push-clause-ends
returns-in_ok-push-clause-ends c small =
    let total = c.args.gathered.now.total in
    let round = c.args.round.now in
    let old = c.args.gathered.now.stretches.items in
    let end = total + c.from.result * c.part_len.result in
    subst (λ ss. AreEnds round 0 ss end) (sym c.in_ok-push.ensures.items)
    (ends_push round 0 total old (record { count = c.args.line.count; end = end; part = c.args.line.part }) (c.requires.ends (omega arith))
    (ap (λ n. total + n * c.part_len.result) c.from.ensures ∙ ap (λ n. total + c.args.line.count * n) c.part_len.ensures))
