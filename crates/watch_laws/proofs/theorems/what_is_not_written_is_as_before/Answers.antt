use Rattle.std.proofs.Common.{ap}
use Rattle.std.specs.Prelude.{option_map}
use Rattle.term_text.specs.StateText.{block, mail_line}
use Rattle.watch_laws.proofs.Kept.{objects_kept_by, messages_kept_by}
use Rattle.watch_laws.proofs.theorems.what_is_not_written_is_as_before.Goals as goal

pub returns-clause-objects : goal.returns-clause-objects
returns-clause-objects c = λ names p from d l q e n. ap (option_map (block names p q)) (objects_kept_by p from d l q e n)

pub returns-clause-messages : goal.returns-clause-messages
returns-clause-messages c = λ names p from d l s r e n. ap (mail_line names s r) (messages_kept_by p from d l s r e n)
