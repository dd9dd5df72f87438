use Rattle.search_laws.proofs.Unused.{no_run_uses}
use Rattle.search_laws.proofs.theorems.what_no_tried_label_does_no_run_does.Goals as goal

pub returns : goal.returns
returns c = λ p free es root s d ls less none whole starts leads. no_run_uses p free es less none whole root s d ls starts leads
