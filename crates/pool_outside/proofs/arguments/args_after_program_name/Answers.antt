-- The collected arguments are those after the first.
use Rattle.std.proofs.Common.{◌∙◌, ap}
use Rattle.std.proofs.lemmas.Iterator.{items_from_collect}
use Rattle.std.proofs.lemmas.Iterator.Adapters.{YieldsList-from_vec, YieldsList-from_skip}
use Rattle.std.specs.Vec.Iter.{into_iter_items, into_iter_len}
use Rattle.pool_outside.proofs.arguments.args_after_program_name.Goals as goal

pub returns-in-Ok-clause-words : goal.returns-in-Ok-clause-words
returns-in-Ok-clause-words c =
    rw c.in-Ok.is
    (items_from_collect _ c.collect.ensures.ran
    (YieldsList-from_skip 1
    (YieldsList-from_vec (into_iter_items c.in-Ok.args) (ap into_iter_items c.skip.ensures.source) (ap into_iter_len c.skip.ensures.source ∙ c.in-Ok.args.rest.ok.0))
    c.skip.ensures.count))
