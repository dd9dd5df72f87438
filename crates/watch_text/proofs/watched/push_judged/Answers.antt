use Rattle.std.proofs.Common.{◌≡◌, ◌++◌, sym, subst}
use Rattle.std.specs.Prelude.{IfSome}
use Rattle.std.proofs.result.Match.{if_ok_then}
use Rattle.pool_relation.specs.Transition.{run}
use Rattle.mesh_semantics.specs.Record.{labels}
use Rattle.pool_semantics.specs.PlainOf.{configuration_of, program_tree}
use Rattle.record_check.specs.RecordJudgement.{Judged}
use Rattle.record_check.specs.VerdictText.{verdict_text}
use Rattle.record_check.specs.Verdicts.{StopsIn}
use Rattle.term_text.specs.Watched.{followed_text}
use Rattle.watch_text.specs.WatchedRun.{ending}
use Rattle.watch_text.proofs.JoinedLines.{none_in}
use Rattle.watch_text.proofs.WatchedEnds.{ends_before, stopped_judged}
use Rattle.watch_text.proofs.watched.push_judged.Goals as goal

pub returns-in-Ok-Some-clause-judged : goal.returns-in-Ok-Some-clause-judged
returns-in-Ok-Some-clause-judged c =
    let p = program_tree c.args.plain.now in
    let ls = c.args.lines.now in
    let from = configuration_of c.args.plain.now in
    let to = configuration_of c.push_followed.new.plain in
    let stop = c.in-Ok-Some.stop in
    let stops : StopsIn p from ls stop.number to stop.redex = subst (λ o. IfSome o (λ s. StopsIn p from ls s.number to s.redex)) c.in-Ok-Some.field-0-is c.in-Ok-Some.ensures.stops in
    if_ok_then c.push_stop.result _ _
    (λ v h. subst (Judged p ls) (sym h) (stopped_judged c.args.names.now p from to ls stop.number stop.redex c.requires.starts stops))
    c.push_stop.ensures.verdict

pub returns-in-Ok-Some-clause-text : goal.returns-in-Ok-Some-clause-text
returns-in-Ok-Some-clause-text c =
    let names = c.args.names.now in
    let p = program_tree c.args.plain.now in
    let ls = c.args.lines.now in
    let from = configuration_of c.args.plain.now in
    let to = configuration_of c.push_followed.new.plain in
    let base = c.args.text.now.items in
    let mid = followed_text names p from ls in
    let now = c.push_followed.new.text.items in
    let then = c.push_stop.new.text.items in
    let stop = c.in-Ok-Some.stop in
    let stops : StopsIn p from ls stop.number to stop.redex = subst (λ o. IfSome o (λ s. StopsIn p from ls s.number to s.redex)) c.in-Ok-Some.field-0-is c.in-Ok-Some.ensures.stops in
    if_ok_then c.push_stop.result (λ v. then ≡ now ++ verdict_text names v) (λ v. then ≡ base ++ (mid ++ ending names p (run p from (labels ls)) v))
    (λ v e. ends_before names p from to ls base mid now then v (none_in p from to ls stop.number stop.redex stops) c.in-Ok-Some.ensures.text e)
    c.push_stop.ensures.text
