-- The parsed lines are those of the record, and their names have their numbers again.
use Rattle.std.proofs.Common.{ap, ◌∙◌}
use Rattle.run_record.specs.Numbered.{lines_after, names_after}
use Rattle.run_record.proofs.NameRoundTrip.{lines_back, names_back, record_placed}
use Rattle.run_record.proofs.LineRoundTrip.{text_read}
use Rattle.run_record.proofs.theorems.the_text_of_a_record_is_read_as_its_lines.Goals as goal

pub returns-clause-faultless : goal.returns-clause-faultless
returns-clause-faultless c = λ names ls distinct h. ap (λ r. r.fault) (text_read names ls h)

pub returns-clause-lines : goal.returns-clause-lines
returns-clause-lines c = λ names ls distinct h. ap (λ r. lines_after names r.told) (text_read names ls h) ∙ lines_back names ls distinct (record_placed names 0 ls h)

pub returns-clause-names : goal.returns-clause-names
returns-clause-names c = λ names ls distinct h. ap (λ r. names_after names r.told) (text_read names ls h) ∙ names_back names ls (record_placed names 0 ls h)
