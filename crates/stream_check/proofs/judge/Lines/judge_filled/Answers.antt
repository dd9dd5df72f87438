use Rattle.std.proofs.Common.{Option, refl, sym, ap, subst}
use Rattle.run_types.specs.declared.types.Line.{Line}
use Rattle.run_types.specs.declared.types.Line.TheVariants as R
use Rattle.run_types.specs.declared.types.End.{End}
use Rattle.run_types.specs.declared.verdicts.Verdict.{Verdict}
use Rattle.pool_syntax.specs.TreeOf.{program_of}
use Rattle.run_record.specs.Records.{is_end}
use Rattle.stream_check.specs.FillingLines.{IsFilledStop, IsFilledVerdict, stop_text}
use Rattle.stream_check.proofs.judge.Lines.judge_filled.Goals as goal

pub returns-in_ok-push_verdict-in-Some-clause-judged :
    goal.returns-in_ok-push_verdict-in-Some-clause-judged
returns-in_ok-push_verdict-in-Some-clause-judged c =
    let p = program_of c.args.program.now.program.now in
    let names = c.args.names.now in
    let l = c.args.line.now in
    let v = c.in-Some.verdict in
    λ ls a next.
    let gives = subst (λ (o : Option Verdict). IsFilledVerdict p ls l o c.fill_step.new.self) c.in-Some.is
    (c.in_ok-fill_step-in-Event.ensures.verdict ls a next (ap is_end c.in-Event.is)) in (
      stop_text names l v,
      c.in_ok-push_verdict-in-Some.ensures,
      (l, gives, refl),
    )

pub returns-in_ok-push_verdict-in-End-clause-judged :
    goal.returns-in_ok-push_verdict-in-End-clause-judged
returns-in_ok-push_verdict-in-End-clause-judged c =
    let p = program_of c.args.program.now.program.now in
    let names = c.args.names.now in
    let end = c.in-End.end in
    let shown = R.End c.with_done.result in
    let v = c.in_ok-verdict-in-End.verdict in
    λ ls a next.
    let here = subst (λ (e : End). IsFilledStop p ls (R.End end) (R.End e) v) (sym c.with_done.ensures) (c.in_ok-verdict-in-End.ensures.verdict p ls a) in (
      stop_text names shown v,
      c.in_ok-push_verdict-in-End.ensures,
      (shown, subst (λ (l : Line). IsFilledStop p ls l shown v) (sym c.in-End.is) here, refl),
    )
