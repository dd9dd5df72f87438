use Rattle.std.proofs.Common.{ap, refl}
use Rattle.run_types.specs.declared.types.Event.TheVariants as Ev
use Rattle.stream_check.proofs.GrownLines.{fills_none, fills_pushed, positive}
use Rattle.stream_check.proofs.filling.Filling.fill.Goals as goal

pub returns : goal.returns
returns c =
    let made = c.in_ok-made.ensures in
    let pushed = c.in_ok-push.ensures in
    fills_pushed c.args.self.now c.push.new.self c.make_local.new.plain c.args.object c.in_ok-made.made (Ev.Turn c.node_of.result) (record { turn = ap Ev.Turn c.node_of.ensures.node; some = positive c.in_ok-made.made c.if-made-eq0.false; most = made.most; name = c.ranges.object.fits }) pushed.plain made.program made.going_on pushed.lines pushed.last made.made made.most made.rests

pub returns-then-made-eq0 : goal.returns-then-made-eq0
returns-then-made-eq0 c =
    let f = c.args.self.now in
    let made = c.in_ok-made.ensures in
    fills_none f (record { plain = c.make_local.new.plain; lines = f.lines; last = f.last }) c.args.object c.in_ok-made.made refl refl made.program made.going_on made.made c.if-made-eq0.true made.rests
