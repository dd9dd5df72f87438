use Rattle.std.proofs.Common.{◌≡◌, ◌∙◌, ◌+◌, ◌<◌, ◌≤◌, length, sym, ap, subst, Some}
use Rattle.std.specs.Option.{option_copied_mut}
use Rattle.std.specs.Map.{lookup}
use Rattle.std.specs.BTreeMap.{is_at}
use Rattle.mesh_semantics.specs.KeptWire.{KeptWire, kept_act}
use Rattle.run_types.specs.Tables.{Pair, list_at, pair_cmp}
use Rattle.rendezvous_protocol.specs.declared.packet.Packet.{Packet}
use Rattle.machine_network.specs.LinkWires.{LinkWires}
use Rattle.machine_network.specs.WireReports.{LinkWireReports}
use Rattle.machine_network.proofs.WireMap.{never_lost, told_at, wire_found}
use Rattle.machine_network.proofs.wires.act_at.Goals as goal

pub act_on-requires : goal.act_on-requires
act_on-requires c =
    let es : LinkWires = c.args.wires.now.entries in
    let k : Pair = (c.args.from, c.args.to) in
    let found = wire_found es k c.in-Some.wire.now (sym c.get_mut.ensures.value ∙ ap option_copied_mut c.in-Some.is) in
    record {
      link = c.requires.link;
      handed = subst (λ (v : KeptWire Packet). v.handed ≤ v.sent) found c.requires.handed;
      sent = subst (λ (v : KeptWire Packet). v.sent ≤ v.handed + length (list_at pair_cmp k c.args.links.now.links)) found c.requires.sent;
      few = subst (λ (v : KeptWire Packet). v.handed + length (list_at pair_cmp k c.args.links.now.links) < 4294967295) found c.requires.few;
    }

pub returns-in-None : goal.returns-in-None
returns-in-None c = absurd (never_lost c.args.wires.now.entries (c.args.from, c.args.to) c.requires.there (sym c.get_mut.ensures.value ∙ ap option_copied_mut c.in-None.is))

pub returns-in-Some : goal.returns-in-Some
returns-in-Some c =
    let es : LinkWires = c.args.wires.now.entries in
    let k : Pair = (c.args.from, c.args.to) in
    let h : lookup (is_at (pair_cmp k)) es ≡ Some c.in-Some.wire.now = sym c.get_mut.ensures.value ∙ ap option_copied_mut c.in-Some.is in
    subst (λ (v : KeptWire Packet). LinkWireReports es k (kept_act c.args.act (list_at pair_cmp k c.args.links.now.links) v) c.act_on.result (c.get_mut.follows.lender c.act_on.new.wire).entries)
    (sym (wire_found es k c.in-Some.wire.now h))
    (told_at es k c.in-Some.wire.now h c.get_mut.ensures.ordered c.act_on.new.wire (c.get_mut.follows.lender c.act_on.new.wire).entries (c.get_mut.follows.holds c.act_on.new.wire).0 _ _ c.act_on.ensures)
