use Rattle.std.proofs.Common.{◌≡◌, ◌∙◌, ap, subst, sym}
use Rattle.object_code.proofs.Laws.{proper_known}
use Rattle.command_line.specs.declared.command.Show.{Show}
use Rattle.command_line.specs.declared.command.Show.TheVariants as Sh
use Rattle.pool_driver.specs.declared.outputs.Output.{Output}
use Rattle.pool_driver.specs.declared.outputs.Output.TheVariants as O
use Rattle.pool_driver.specs.Readers.{IsPrintable, status_of_output, text_of}
use Rattle.command_shell.specs.Writing.{Delivers, Writing, written}
use Rattle.command_shell.proofs.Laws.{writes_as}
use Rattle.pool_driver.proofs.top.write_output.Goals as goal

pub write_text-requires-in-Listing : goal.write_text-requires-in-Listing
write_text-requires-in-Listing g c = proper_known c.in-Listing.unit (subst IsPrintable c.in-Listing.is c.requires)

pub write_text-requires-in-File : goal.write_text-requires-in-File
write_text-requires-in-File g c = subst IsPrintable c.in-File.is c.requires

pub returns-in-Report : goal.returns-in-Report
returns-in-Report g c =
    let k : Writing = record { before = g.K.Sink.written c.args.out.now; after = g.K.Sink.written c.write_why.new.out; faults = g.K.Sink.faults c.args.out.now; failed = g.K.Sink.faults c.write_why.new.out } in
    let same : c.args.output.now ≡ O.Run Sh.Report c.in-Run.loaded = c.in-Run.is ∙ ap (λ (s : Show). O.Run s c.in-Run.loaded) c.in-Report.is in
    subst (λ (o : Output). Delivers k (text_of o) (status_of_output o) c.write_why.result) (sym same) c.write_why.ensures

pub returns-in-Verdict : goal.returns-in-Verdict
returns-in-Verdict g c =
    let k : Writing = record { before = g.K.Sink.written c.args.out.now; after = g.K.Sink.written c.say.new.sink; faults = g.K.Sink.faults c.args.out.now; failed = g.K.Sink.faults c.say.new.sink } in
    subst (λ (o : Output). Delivers k (text_of o) (status_of_output o) c.say.result) (sym c.in-Verdict.is) (written (writes_as k _ _ _ c.say.result c.deref.ensures.value c.say.ensures))
