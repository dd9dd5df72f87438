use Rattle.std.proofs.Common.{sym, ◌∙◌}
use Rattle.type_check.proofs.IndexLaws.{before_there, before_nowhere}
use Rattle.type_check.proofs.index.Index.is_before.Goals as goal

pub returns-in-Some : goal.returns-in-Some
returns-in-Some g c = sym (before_there g.T.HasName.name c.args.self.now.list.now c.args.name.0 c.in-Some.first c.args.place (sym c.place.ensures ∙ c.in-Some.is))

pub returns-in-None : goal.returns-in-None
returns-in-None g c = sym (before_nowhere g.T.HasName.name c.args.self.now.list.now c.args.name.0 c.args.place (sym c.place.ensures ∙ c.in-None.is))
