use Rattle.std.proofs.Common.{sym, ap, ap₂, ◌∙◌}
use Rattle.record_writer.specs.SecondForm.{text2}
use Rattle.run_record.specs.Numbered.{lines_after, names_after}
use Rattle.run_record.proofs.NameRoundTrip.{lines_back, names_back, record_placed}
use Rattle.run_record.proofs.LineRoundTrip.{text_read}
use Rattle.run_record.proofs.SecondFormRoundTrip.{text2_read}
use Rattle.run_record.proofs.theorems.a_record_is_carried_over.Goals as goal

pub returns-clause-text : goal.returns-clause-text
returns-clause-text c = λ names ls distinct h.
    ap₂ text2 (ap (λ r. names_after names r.told) (text_read names ls h) ∙ names_back names ls (record_placed names 0 ls h))
    (ap (λ r. lines_after names r.told) (text_read names ls h) ∙ lines_back names ls distinct (record_placed names 0 ls h))

pub returns-clause-lines : goal.returns-clause-lines
returns-clause-lines c = λ names ls h. ap (λ r. r.told) (text2_read names ls h) ∙ sym (ap (λ r. r.told) (text_read names ls h))
