use Rattle.std.proofs.Common.{sym, subst}
use Rattle.run_types.specs.Tables.{list_at, pair_cmp}
use Rattle.mesh_semantics.specs.KeptWire.{kept_act}
use Rattle.machine_network.specs.WireReports.{WireReports}
use Rattle.machine_network.proofs.wires.act_on.Goals as goal

pub send_on-requires : goal.send_on-requires
send_on-requires c = record { link = c.requires.link; handed = c.requires.handed; sent = c.requires.sent; few = c.requires.few }

pub returns-in-Send : goal.returns-in-Send
returns-in-Send c =
    subst (λ a. WireReports c.args.wire.now (kept_act a (list_at pair_cmp (c.args.from, c.args.to) c.args.links.now.links) c.args.wire.now) c.send_on.result c.send_on.new.wire) (sym c.in-Send.is) c.send_on.ensures

pub returns-in-Ack : goal.returns-in-Ack
returns-in-Ack c =
    subst (λ a. WireReports c.args.wire.now (kept_act a (list_at pair_cmp (c.args.from, c.args.to) c.args.links.now.links) c.args.wire.now) c.ack_on.result c.ack_on.new.wire) (sym c.in-Ack.is) c.ack_on.ensures

pub returns-in-Lose : goal.returns-in-Lose
returns-in-Lose c =
    subst (λ a. WireReports c.args.wire.now (kept_act a (list_at pair_cmp (c.args.from, c.args.to) c.args.links.now.links) c.args.wire.now) c.lose_on.result c.lose_on.new.wire) (sym c.in-Lose.is) c.lose_on.ensures

pub returns-in-Twice : goal.returns-in-Twice
returns-in-Twice c =
    subst (λ a. WireReports c.args.wire.now (kept_act a (list_at pair_cmp (c.args.from, c.args.to) c.args.links.now.links) c.args.wire.now) c.twice_on.result c.twice_on.new.wire) (sym c.in-Twice.is) c.twice_on.ensures

pub returns-in-Late : goal.returns-in-Late
returns-in-Late c =
    subst (λ a. WireReports c.args.wire.now (kept_act a (list_at pair_cmp (c.args.from, c.args.to) c.args.links.now.links) c.args.wire.now) c.late_on.result c.late_on.new.wire) (sym c.in-Late.is) c.late_on.ensures

pub returns-in-LoseAck : goal.returns-in-LoseAck
returns-in-LoseAck c =
    subst (λ a. WireReports c.args.wire.now (kept_act a (list_at pair_cmp (c.args.from, c.args.to) c.args.links.now.links) c.args.wire.now) c.lose_on-in-LoseAck.result c.lose_on-in-LoseAck.new.wire) (sym c.in-LoseAck.is) c.lose_on-in-LoseAck.ensures

pub returns-in-TwiceAck : goal.returns-in-TwiceAck
returns-in-TwiceAck c =
    subst (λ a. WireReports c.args.wire.now (kept_act a (list_at pair_cmp (c.args.from, c.args.to) c.args.links.now.links) c.args.wire.now) c.twice_on-in-TwiceAck.result c.twice_on-in-TwiceAck.new.wire) (sym c.in-TwiceAck.is) c.twice_on-in-TwiceAck.ensures

pub returns-in-LateAck : goal.returns-in-LateAck
returns-in-LateAck c =
    subst (λ a. WireReports c.args.wire.now (kept_act a (list_at pair_cmp (c.args.from, c.args.to) c.args.links.now.links) c.args.wire.now) c.late_on-in-LateAck.result c.late_on-in-LateAck.new.wire) (sym c.in-LateAck.is) c.late_on-in-LateAck.ensures
