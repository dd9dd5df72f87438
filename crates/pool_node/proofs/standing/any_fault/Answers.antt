use Rattle.std.proofs.Common.{ap, ◌∙◌, List, Option, is_some}
use Rattle.std.specs.List.{list_any}
use Rattle.run_types.specs.declared.types.Error.{Error}
use Rattle.pool_node.proofs.NodeReport.{any_is}
use Rattle.pool_node.proofs.standing.any_fault.Goals as goal

pub returns : goal.returns
returns c = c.any_some.ensures ∙ (ap (λ (fs : List (Option Error)). list_any (λ (f : Option Error). is_some f) fs) c.items.ensures ∙ any_is c.args.parts.now c.requires.whole)
