use Rattle.search_laws.proofs.Nameless.{nameless}
use Rattle.search_laws.proofs.theorems.no_text_names_an_object.Goals as goal

pub returns : goal.returns
returns c = nameless
