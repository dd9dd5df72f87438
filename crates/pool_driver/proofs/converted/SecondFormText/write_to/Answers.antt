use Rattle.std.proofs.Common.{◌∙◌, ℕ, List, length, ap, ap₂, refl, subst, sym}
use Rattle.record_writer.specs.SecondForm.{lines_text2}
use Rattle.command_shell.specs.Writing.{Writing, WroteFront}
use Rattle.pool_driver.proofs.ConvertLaws.{asks_long, first_front, form_front, on_err}
use Rattle.pool_driver.proofs.converted.SecondFormText.write_to.Goals as goal

pub write_lines-requires-clause-many : goal.write_lines-requires-clause-many
write_lines-requires-clause-many g c =
    let r = c.args.self.now.record.now in
    ap (λ (ns : List ℕ). length ns) c.items-in-Ok.ensures ∙ asks_long r.lines r.asks c.requires.asked ∙ sym (ap length c.items.ensures)

pub returns-in-Ok-clause-front : goal.returns-in-Ok-clause-front
returns-in-Ok-clause-front g c =
    let r = c.args.self.now.record.now in
    let j : Writing = record { before = g.S.Sink.written c.args.sink.now; after = g.S.Sink.written c.write_form.new.sink; faults = g.S.Sink.faults c.args.sink.now; failed = g.S.Sink.faults c.write_form.new.sink } in
    let k : Writing = record { before = g.S.Sink.written c.write_form.new.sink; after = g.S.Sink.written c.write_lines.new.out; faults = g.S.Sink.faults c.write_form.new.sink; failed = g.S.Sink.faults c.write_lines.new.out } in
    on_err c.write_lines.result c.write_lines.ensures.cut (λ w.
    (form_front r.names r.lines r.asks j k c.requires.asked (refl, refl) (c.in-Ok.ensures.whole, c.in-Ok.ensures.no_fault)
    (subst (WroteFront k) (ap₂ (lines_text2 r.names) c.items.ensures c.items-in-Ok.ensures) w)).front)

pub returns-in-Err-clause-front : goal.returns-in-Err-clause-front
returns-in-Err-clause-front g c =
    let r = c.args.self.now.record.now in
    let h = c.in-Err.ensures in
    let k : Writing = record { before = g.S.Sink.written c.args.sink.now; after = g.S.Sink.written c.write_form.new.sink; faults = g.S.Sink.faults c.args.sink.now; failed = g.S.Sink.faults c.write_form.new.sink } in
    (first_front r.names r.lines k (record { front = h.front; rose = h.failed })).front
