use Rattle.search_laws.proofs.AllLabels.{all_labels}
use Rattle.search_laws.proofs.theorems.no_other_label_is_possible.Goals as goal

pub returns : goal.returns
returns c = all_labels
