use Rattle.std.proofs.Common.{◌≡◌, sym, ap, ◌∙◌, false, arith}
use Rattle.std.specs.Prelude.{Some, None, slice_get}
use Rattle.std.specs.Option.{option_copied}
use Rattle.run_types.specs.Tables.{list_at, pair_cmp}
use Rattle.node_semantics.specs.Standings.{brings}
use Rattle.rendezvous_protocol.specs.declared.packet.Packet.{Packet}
use Rattle.rendezvous_protocol.specs.Packets.{numbered}
use Rattle.machine_network.proofs.Laws.{list_within, one_further}
use Rattle.pool_machine.proofs.Searches.{ends_at, found_one, none_before}
use Rattle.pool_machine.proofs.report.link_brings.Goals as goal

pub returns-in_default : goal.returns-in_default
returns-in_default c =
    let end : slice_get (list_at pair_cmp (c.args.from, c.args.to) c.args.links.now.links) c.loop-place.place ≡ None = sym c.at.ensures ∙ ap option_copied c.in_default.is in
    sym (none_before (λ (x : Packet). brings c.args.name (numbered x).packet) (list_at pair_cmp (c.args.from, c.args.to) c.args.links.now.links) c.loop-place.place (ends_at _ c.loop-place.place end) c.loop-place.invariant)

pub returns-then-brings_to : goal.returns-then-brings_to
returns-then-brings_to c =
    let at : slice_get (list_at pair_cmp (c.args.from, c.args.to) c.args.links.now.links) c.loop-place.place ≡ Some c.in-Some.packet.now = sym c.at.ensures ∙ ap option_copied c.in-Some.is in
    sym (found_one (λ (x : Packet). brings c.args.name (numbered x).packet) (list_at pair_cmp (c.args.from, c.args.to) c.args.links.now.links) c.loop-place.place c.in-Some.packet.now at
    (sym c.brings_to.ensures ∙ c.if-brings_to.true))

pub loop-place-preserved : goal.loop-place-preserved
loop-place-preserved c =
    let at : slice_get (list_at pair_cmp (c.args.from, c.args.to) c.args.links.now.links) c.loop-place.place ≡ Some c.in-Some.packet.now = sym c.at.ensures ∙ ap option_copied c.in-Some.is in
    one_further (λ (x : Packet). brings c.args.name (numbered x).packet ≡ false) (list_at pair_cmp (c.args.from, c.args.to) c.args.links.now.links) c.loop-place.place c.in-Some.packet.now at
    (sym c.brings_to.ensures ∙ c.if-brings_to.false) c.loop-place.invariant

pub returns : goal.returns
returns c =
    let few = list_within (c.args.from, c.args.to) c.args.links.now.links in
    let count = c.leaving-place-end.ensures.count in
    let past = c.loop-place-test.false in
    sym (none_before (λ (x : Packet). brings c.args.name (numbered x).packet) (list_at pair_cmp (c.args.from, c.args.to) c.args.links.now.links) c.loop-place.place (omega (arith, few, count, past)) c.loop-place.invariant)
