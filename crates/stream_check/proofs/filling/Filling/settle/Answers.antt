use Rattle.std.proofs.Common.{◌∙◌, sym}
use Rattle.stream_check.proofs.GrownLines.{quiets_all, quiets_none}
use Rattle.stream_check.proofs.filling.Filling.settle.Goals as goal

pub returns-in_ok-fill_all : goal.returns-in_ok-fill_all
returns-in_ok-fill_all c = quiets_all c.args.self.now c.fill_all.new.self c.args.end (sym c.is_quiet.ensures ∙ c.if-is_quiet.true) c.in_ok-fill_all.ensures

pub returns-else-is_quiet : goal.returns-else-is_quiet
returns-else-is_quiet c = quiets_none c.args.self.now c.args.end (sym c.is_quiet.ensures ∙ c.if-is_quiet.false)
