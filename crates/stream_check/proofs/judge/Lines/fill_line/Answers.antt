use Rattle.stream_check.proofs.FillingSteps.{passes_silent}
use Rattle.stream_check.proofs.judge.Lines.fill_line.Goals as goal

pub returns-then-not-self-clause-passes : goal.returns-then-not-self-clause-passes
returns-then-not-self-clause-passes c =
    let pushed = c.in_ok-push.ensures in
    λ own none.
    let w = passes_silent c.args.self.now.filling c.push.new.self c.args.line.now own (none c.if-not-self.true) pushed.plain pushed.lines pushed.last in
    (w.0, λ _. w.1)
