use Rattle.std.proofs.Common.{arith}
use Rattle.expression_parser.proofs.Laws.{seen_ended}
use Rattle.pool_parser.proofs.TokenPrefix.{nested_front, once_front}
use Rattle.pool_parser.proofs.parser.program_of_front.Goals as goal

pub invariant_of-program-clause-ended : goal.invariant_of-program-clause-ended
invariant_of-program-clause-ended c = seen_ended _

pub invariant_of-program-clause-nested : goal.invariant_of-program-clause-nested
invariant_of-program-clause-nested c = nested_front _ _ (omega (arith, c.requires.within)) c.requires.nested

pub program-requires : goal.program-requires
program-requires c = record { once = once_front _ _ c.requires.within c.requires.ended }
