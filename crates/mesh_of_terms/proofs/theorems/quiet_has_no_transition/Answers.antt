use Rattle.std.proofs.Common.{sym, ap, ◌∙◌}
use Rattle.mesh_of_terms.specs.Terms.{terms}
use Rattle.mesh_of_terms.specs.OneEvent.{as_plain}
use Rattle.mesh_of_terms.specs.RunOf.{TypedTerms}
use Rattle.mesh_semantics.proofs.Laws.{no_transition}
use Rattle.mesh_of_terms.proofs.Instance.{move_is}
use Rattle.mesh_of_terms.proofs.theorems.quiet_has_no_transition.Goals as goal

pub returns : goal.returns
returns c = λ p l k d lab s quiet. sym (move_is p k lab) ∙ ap as_plain (no_transition (terms p) (TypedTerms p) l k d s quiet lab)
