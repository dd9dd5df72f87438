use Rattle.std.proofs.Common.{List, subst}
use Rattle.run_types.specs.declared.types.Line.{Line}
use Rattle.pool_semantics.specs.PlainOf.{configuration_of, program_tree}
use Rattle.record_check.specs.RecordJudgement.{Judged, LeadsTo}
use Rattle.stream_check.proofs.GrownLines.{ends_line}
use Rattle.stream_check.proofs.filling.Filling.finish.Goals as goal

pub returns : goal.returns
returns c =
    let g = c.push.new.self in
    let v = c.judge_end.result in
    ends_line c.args.self.now c.settle.new.self g c.args.end v c.in_ok-settle.ensures c.in_ok-push.ensures.lines c.in_ok-push.ensures.plain
    (subst (λ (ls : List Line). LeadsTo (program_tree g.plain) ls (configuration_of g.plain) → Judged (program_tree g.plain) ls v) c.items.ensures c.judge_end.ensures)
