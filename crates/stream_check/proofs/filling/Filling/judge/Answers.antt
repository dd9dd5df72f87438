use Rattle.std.proofs.Common.{◌+◌, List, Option, drop, subst}
use Rattle.std.specs.Prelude.{IfNone, IfSome}
use Rattle.std.proofs.result.Match.{if_ok_then}
use Rattle.run_types.specs.declared.types.Line.{Line}
use Rattle.run_types.specs.declared.verdicts.Redex.{Redex}
use Rattle.stream_check.specs.Filled.{without_local, without_local_of}
use Rattle.stream_check.specs.FillProgress.{Adds, Passes, Stops}
use Rattle.stream_check.proofs.FilledVerdict.{ended, stopped}
use Rattle.stream_check.proofs.LoopSteps.{follows_at, follows_end, follows_first, follows_more, rest_of}
use Rattle.stream_check.proofs.filling.Filling.judge.Goals as goal

pub returns-in-End : goal.returns-in-End
returns-in-End c =
    let l = c.loop-place in
    let f0 = c.args.self.now in
    let ls = c.args.lines.now in
    if_ok_then c.finish.result _ _
    (λ v e. ended ls f0 c.requires.begun l.self c.finish.new.self c.in-End.end v (follows_end ls l.place c.index-lines-place.result c.in-End.end f0 l.self c.loop-place-test.true c.index-lines-place.is c.in-End.is l.invariant) e)
    c.finish.ensures

pub returns-in-Some : goal.returns-in-Some
returns-in-Some c =
    let l = c.loop-place in
    let f0 = c.args.self.now in
    let ls = c.args.lines.now in
    let line = c.index-lines-place.result in
    let g = c.follow.new.self in
    let h = c.push_all.new.self in
    let a = c.in_ok-push_all.ensures.adds in
    stopped ls f0 c.requires.begun l.self g h line (drop (l.place + 1) ls) a.0 c.in-Some.redex (follows_at ls l.place line f0 l.self c.loop-place-test.true c.index-lines-place.is l.invariant)
    (subst (λ (r : Option Redex). IfSome r (λ redex. Stops l.self g line redex)) c.in-Some.is c.in_ok-redex.ensures.stops)
    (subst (λ (xs : List Line). Adds g h a.0 (without_local xs)) (rest_of ls (l.place + 1)) a.1) a.2

pub loop-place-preserved : goal.loop-place-preserved
loop-place-preserved c =
    let l = c.loop-place in
    let line = c.index-lines-place.result in
    let g = c.follow.new.self in
    follows_more c.args.lines.now l.place line c.args.self.now l.self g c.loop-place-test.true c.index-lines-place.is c.in_default.not-End l.invariant
    (subst (λ (r : Option Redex). IfNone r (Passes l.self g (without_local_of line))) c.in_default-2.is c.in_ok-redex.ensures.grows)

pub loop-place-init : goal.loop-place-init
loop-place-init c = follows_first c.args.lines.now c.args.self.now c.requires.ended
