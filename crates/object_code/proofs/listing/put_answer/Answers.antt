use Rattle.std.proofs.Common.{sym, ap, ◌∙◌}
use Rattle.object_code.specs.Listing.{answer_text, joined_text}
use Rattle.object_code.proofs.SequentialWrites.{same}
use Rattle.object_code.proofs.listing.put_answer.Goals as goal

pub returns-in-Some : goal.returns-in-Some
returns-in-Some g c = same _ _ _ _ (ap (joined_text c.args.names.now) c.items.ensures ∙ ap (answer_text c.args.names.now) (sym c.in-Some.is)) c.put_joined.ensures
