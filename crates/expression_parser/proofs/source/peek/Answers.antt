use Rattle.std.proofs.Common.{refl}
use Rattle.std.proofs.lemmas.Option.{slice_get_read, slice_get_past}
use Rattle.expression_parser.proofs.ParserTokens.{seen_inside, seen_end}
use Rattle.expression_parser.proofs.source.peek.Goals as goal

pub returns-in-Some : goal.returns-in-Some
returns-in-Some c = let h = c.in-Some.ensures.lookup in seen_inside _ _ _ (slice_get_read _ _ _ _ refl h.3.0 h.1)

pub returns-in-None : goal.returns-in-None
returns-in-None c = let h = c.in-None.ensures.lookup in seen_end _ _ (slice_get_past _ _ h.3) c.requires
