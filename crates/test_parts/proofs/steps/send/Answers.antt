use Rattle.std.proofs.Common.{◌∙◌, sym, rules}
use Rattle.test_parts.proofs.WantedNumbers.{wanted_with}
use Rattle.test_parts.proofs.steps.send.Goals as goal

pub send-requires-clause-wanted : goal.send-requires-clause-wanted
send-requires-clause-wanted c =
    wanted_with c.args.wire.now c.wants.ensures.carries.0 c.wants.ensures.carries.1 c.args.entered c.in-Some.number c.packet.result (search rules) (search rules)
    (sym c.wants.ensures.wanted ∙ c.in-Some.is) c.fresh-fresh.result c.fresh-fresh.ensures
