use Rattle.std.proofs.Common.{◌≡◌, ◌++◌, sym, subst}
use Rattle.std.specs.Prelude.{OnOk}
use Rattle.run_types.specs.declared.types.Line.{Line}
use Rattle.record_writer.specs.WrittenText.{writes_of}
use Rattle.stream_check.proofs.judge.push_writes.Goals as goal

pub returns-in-Event : goal.returns-in-Event
returns-in-Event c =
    subst (λ (l : Line). OnOk c.push_written.result (c.push_written.new.text.items ≡ c.args.text.now.items ++ writes_of c.args.names.now l)) (sym c.in-Event.is)
    (c.push_written.ensures c.in-Event.number c.in-Event.event)
