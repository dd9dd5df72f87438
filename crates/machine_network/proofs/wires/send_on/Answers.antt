use Rattle.std.proofs.Common.{◌+◌, ◌∙◌, sym, ap, ap₂}
use Rattle.mesh_semantics.specs.KeptWire.{kept_wanted}
use Rattle.run_types.specs.Tables.{list_at, pair_cmp}
use Rattle.wire_link.proofs.Laws.{link_wanted}
use Rattle.machine_network.proofs.wires.send_on.Goals as goal

pub send-requires-clause-wanted : goal.send-requires-clause-wanted
send-requires-clause-wanted c =
    let link = list_at pair_cmp (c.args.from, c.args.to) c.args.links.now.links in
    link_wanted c.args.wire.now c.wants.ensures.carries.0 c.wants.ensures.carries.1 link c.requires.sent c.in-Some.number
    (ap (kept_wanted c.args.wire.now) (sym (ap₂ (λ a b. a + b) c.handed.ensures c.length.ensures)) ∙ sym c.wants.ensures.wanted ∙ c.in-Some.is)
    c.fresh_on-fresh.result c.fresh_on-fresh.ensures
