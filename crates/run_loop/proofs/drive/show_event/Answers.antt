use Rattle.std.proofs.Common.{sym, subst, OnOk, OnErr}
use Rattle.run_types.specs.declared.types.Line.TheVariants as R
use Rattle.command_line.specs.declared.command.Show.{Show}
use Rattle.run_loop.specs.RunOutput.{shown_line}
use Rattle.command_shell.specs.Writing.{Wrote, WroteFront, writing}
use Rattle.run_loop.proofs.drive.show_event.Goals as goal

pub returns-in-Writes-clause-whole : goal.returns-in-Writes-clause-whole
returns-in-Writes-clause-whole g c =
    subst (λ (s : Show). OnOk c.show_writes.result (Wrote (writing g.K.Sink.written g.K.Sink.faults c.args.out.now c.show_writes.new.out) (shown_line s c.args.names.now c.args.ask (R.Event c.args.number c.args.event c.args.what.now))))
    (sym c.in-Writes.is) (c.show_writes.ensures.whole c.args.number c.args.event)

pub returns-in-Writes-clause-cut : goal.returns-in-Writes-clause-cut
returns-in-Writes-clause-cut g c =
    subst (λ (s : Show). OnErr c.show_writes.result (WroteFront (writing g.K.Sink.written g.K.Sink.faults c.args.out.now c.show_writes.new.out) (shown_line s c.args.names.now c.args.ask (R.Event c.args.number c.args.event c.args.what.now))))
    (sym c.in-Writes.is) (c.show_writes.ensures.cut c.args.number c.args.event)
