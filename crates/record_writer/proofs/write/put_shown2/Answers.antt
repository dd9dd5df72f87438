use Rattle.std.proofs.Common.{◌≡◌, ℕ, Bool, List, ◌++◌, is_some, sym, ap₂, ◌∙◌}
use Rattle.run_types.specs.Asks.{asker_of}
use Rattle.run_types.specs.declared.types.Line.TheVariants as R
use Rattle.record_writer.specs.RecordText.{led}
use Rattle.record_writer.specs.SecondForm.{ask_words}
use Rattle.record_writer.proofs.AppendedWords.{joined_more}
use Rattle.record_writer.proofs.write.put_shown2.Goals as goal

pub returns-clause-items : goal.returns-clause-items
returns-clause-items c =
    let asked : c.is_some.result ≡ is_some (asker_of c.args.event c.args.what.now) = cc in
    c.put_ask.ensures.items ∙ ap₂ (λ (t : List ℕ) (b : Bool). t ++ led (ask_words b c.args.ask)) c.put_shown.ensures.items asked
    ∙ sym (joined_more c.args.names.now (R.Event c.args.number c.args.event c.args.what.now) (ask_words (is_some (asker_of c.args.event c.args.what.now)) c.args.ask))
