use Rattle.watch_laws.proofs.CanonicalWords.{expression_is_canonical, statements_are_canonical}
use Rattle.watch_laws.proofs.theorems.program_text_is_its_canonical_tokens.Goals as goal

pub returns-clause-expressions : goal.returns-clause-expressions
returns-clause-expressions c = λ names e. expression_is_canonical names e

pub returns-clause-statements : goal.returns-clause-statements
returns-clause-statements c = λ names ss. statements_are_canonical names ss
