use Rattle.std.proofs.Common.{sym, ◌∙◌}
use Rattle.pool_semantics.specs.PlainOf.{configuration_of}
use Rattle.pool_search.proofs.ConfigurationClass.{faulty_by, not_faulty_by}
use Rattle.pool_search.proofs.classifier.is_faulty.Goals as goal

pub returns-clause-yes : goal.returns-clause-yes
returns-clause-yes c = λ i. faulty_by (configuration_of c.args.plain.now) c.met_error.result c.met_error.ensures.some (sym c.is_some.ensures ∙ i)

pub returns-clause-no : goal.returns-clause-no
returns-clause-no c = λ i. not_faulty_by (configuration_of c.args.plain.now) c.met_error.result c.met_error.ensures.none (sym c.is_some.ensures ∙ i)
