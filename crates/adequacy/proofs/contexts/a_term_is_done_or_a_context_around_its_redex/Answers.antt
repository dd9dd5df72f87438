use Rattle.std.proofs.Common.{[]}
use Rattle.pool_relation.proofs.Laws.{done_is}
use Rattle.adequacy.proofs.ContextDecomposition.{split_of}
use Rattle.adequacy.proofs.contexts.a_term_is_done_or_a_context_around_its_redex.Goals as goal

pub returns-clause-done : goal.returns-clause-done
returns-clause-done c = λ ss h. done_is [] ss tt h

pub returns-clause-split : goal.returns-clause-split
returns-clause-split c = split_of
