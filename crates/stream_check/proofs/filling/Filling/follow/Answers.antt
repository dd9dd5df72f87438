use Rattle.std.proofs.Common.{◌∙◌, sym}
use Rattle.stream_check.proofs.GrownLines.{followed, halted, passes_local}
use Rattle.stream_check.proofs.filling.Filling.follow.Goals as goal

pub returns-clause-grows : goal.returns-clause-grows
returns-clause-grows c =
    let made = c.in_ok-stop.ensures in
    followed c.args.self.now c.fill_before.new.self c.make.new.self c.args.line.now c.in_ok-stop.stop (sym c.shows_local.ensures ∙ c.if-shows_local.false) c.in_ok-fill_before.ensures made.program made.going_on made.lines made.last made.leads

pub returns-clause-stops : goal.returns-clause-stops
returns-clause-stops c =
    let made = c.in_ok-stop.ensures in
    halted c.args.self.now c.fill_before.new.self c.make.new.self c.args.line.now c.in_ok-stop.stop (sym c.shows_local.ensures ∙ c.if-shows_local.false) c.in_ok-fill_before.ensures made.lines made.last made.program made.stops

pub returns-then-shows_local-clause-grows : goal.returns-then-shows_local-clause-grows
returns-then-shows_local-clause-grows c = passes_local c.args.self.now c.args.line.now (sym c.shows_local.ensures ∙ c.if-shows_local.true)
