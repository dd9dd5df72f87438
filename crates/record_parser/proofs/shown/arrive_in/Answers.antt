use Rattle.record_parser.specs.Fields.{fields}
use Rattle.record_parser.proofs.LeadingBytes.{not_three}
use Rattle.record_parser.proofs.shown.arrive_in.Goals as goal

pub returns-in_default : goal.returns-in_default
returns-in_default c = not_three (fields c.args.words.now) c.first_fields.result _ c.first_fields.ensures c.in_default.not-Three
