use Rattle.class_check.proofs.GrammaticalIsWritten.{grammatical_written}
use Rattle.class_check.proofs.theorems.grammatical_is_written.Goals as goal

pub returns : goal.returns
returns c = grammatical_written
