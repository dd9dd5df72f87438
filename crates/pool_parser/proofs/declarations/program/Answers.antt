use Rattle.expression_parser.proofs.Laws.{passed_on, unexpected}
use Rattle.pool_parser.proofs.DeclarationRules.{program_refused, program_refused_later, program_more, program_read}
use Rattle.pool_parser.proofs.declarations.program.Goals as goal

pub returns-in-Err : goal.returns-in-Err
returns-in-Err c = passed_on (λ u. program_refused) _ c.in-Err.ensures.parses

pub returns-in-Err-further_classes : goal.returns-in-Err-further_classes
returns-in-Err-further_classes c = passed_on (λ u R. program_refused_later c.in-Ok.ensures.parses (rw (c.in-Ok-pushed.ensures.ok, c.make-classes.ensures) at R)) _ c.in-Err-further_classes.ensures.parses

pub returns-in-Err-expect : goal.returns-in-Err-expect
returns-in-Err-expect c = unexpected _ _ _ _ _ _ c.in-Err-expect.ensures.err.0 (program_more c.in-Ok.ensures.parses (rw (c.in-Ok-pushed.ensures.ok, c.make-classes.ensures) at c.in-Ok-further_classes.ensures.parses) c.in-Err-expect.ensures.err.1)

pub returns : goal.returns
returns c = let e = c.requires.once _ c.in-Ok-expect.ensures.ok in rw (← e)
    (program_read c.in-Ok.ensures.parses (rw (c.in-Ok-pushed.ensures.ok, c.make-classes.ensures) at c.in-Ok-further_classes.ensures.parses) c.in-Ok-expect.ensures.ok)
