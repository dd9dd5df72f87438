use Rattle.std.proofs.Common.{sym, arith}
use Rattle.record_parser.proofs.LeadingBytes.{behind_nothing}
use Rattle.record_parser.proofs.fields.cut.Goals as goal

pub loop-at-init : goal.loop-at-init
loop-at-init c = record { within = omega arith; parts = sym (behind_nothing c.args.separator c.args.text.now) }
