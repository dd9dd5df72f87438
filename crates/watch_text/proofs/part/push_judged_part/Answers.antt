use Rattle.std.proofs.Common.{◌≡◌, ◌++◌, List, sym, ap₂, subst, ◌∙◌}
use Rattle.std.specs.Prelude.{IfSome}
use Rattle.std.proofs.result.Match.{if_ok_then}
use Rattle.run_types.specs.declared.types.Line.{Line}
use Rattle.pool_relation.specs.Transition.{run}
use Rattle.mesh_semantics.specs.Record.{labels}
use Rattle.pool_semantics.specs.PlainOf.{configuration_of, program_tree}
use Rattle.record_check.specs.RecordJudgement.{Judged}
use Rattle.record_check.specs.VerdictText.{verdict_text}
use Rattle.record_check.specs.Verdicts.{StopsIn}
use Rattle.watch_text.specs.WatchedRun.{ending, lines_before, lines_between, part_text}
use Rattle.watch_text.proofs.JoinedLines.{none_in}
use Rattle.watch_text.proofs.WatchedEnds.{ends_before, stopped_judged}
use Rattle.watch_text.proofs.part.push_judged_part.Goals as goal

pub returns-in-Ok-Some-clause-judged : goal.returns-in-Ok-Some-clause-judged
returns-in-Ok-Some-clause-judged c =
    let p = program_tree c.args.plain.now in
    let ls = c.args.lines.now in
    let from = configuration_of c.args.plain.now in
    let to = configuration_of c.push_part.new.plain in
    let stop = c.in-Ok-Some.stop in
    let all = c.cut.result.0.now ++ (c.cut.result.1.now ++ c.cut.result.2.now) in
    let stops : StopsIn p from ls stop.number to stop.redex =
    subst (λ (xs : List Line). StopsIn p from xs stop.number to stop.redex) c.cut.ensures.whole
    (subst (λ o. IfSome o (λ s. StopsIn p from all s.number to s.redex)) c.in-Ok-Some.field-0-is c.in-Ok-Some.ensures.stops) in
    if_ok_then c.push_stop.result _ _
    (λ v h. subst (Judged p ls) (sym h) (stopped_judged c.args.names.now p from to ls stop.number stop.redex c.requires.starts stops))
    c.push_stop.ensures.verdict

pub returns-in-Ok-Some-clause-text : goal.returns-in-Ok-Some-clause-text
returns-in-Ok-Some-clause-text c =
    let names = c.args.names.now in
    let p = program_tree c.args.plain.now in
    let ls = c.args.lines.now in
    let from = configuration_of c.args.plain.now in
    let to = configuration_of c.push_part.new.plain in
    let base = c.args.text.now.items in
    let now = c.push_part.new.text.items in
    let stop = c.in-Ok-Some.stop in
    let all = c.cut.result.0.now ++ (c.cut.result.1.now ++ c.cut.result.2.now) in
    let stops : StopsIn p from ls stop.number to stop.redex =
    subst (λ (xs : List Line). StopsIn p from xs stop.number to stop.redex) c.cut.ensures.whole
    (subst (λ o. IfSome o (λ s. StopsIn p from all s.number to s.redex)) c.in-Ok-Some.field-0-is c.in-Ok-Some.ensures.stops) in
    let mid = part_text names p (run p from (labels (lines_before c.args.first ls))) (lines_between c.args.first c.args.last ls) in
    let first : now ≡ base ++ mid =
    c.in-Ok-Some.ensures.text ∙ ap₂ (λ (xs ys : List Line). base ++ part_text names p (run p from (labels xs)) ys) c.cut.ensures.before c.cut.ensures.between in
    let then = c.push_stop.new.text.items in
    if_ok_then c.push_stop.result (λ v. then ≡ now ++ verdict_text names v) (λ v. then ≡ base ++ (mid ++ ending names p (run p from (labels ls)) v))
    (λ v e. ends_before names p from to ls base mid now then v (none_in p from to ls stop.number stop.redex stops) first e)
    c.push_stop.ensures.text
