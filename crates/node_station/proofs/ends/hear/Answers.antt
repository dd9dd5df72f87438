use Rattle.std.proofs.Common.{◌≡◌, ◌-◌, ◌<◌, ◌≤◌, length, get_or, sym, ap, subst, ◌∙◌, arith}
use Rattle.std.specs.Prelude.{slice_set}
use Rattle.run_types.specs.Tables.{list_at, pair_cmp}
use Rattle.rendezvous_protocol.specs.declared.packet.Packet.{Packet}
use Rattle.mesh_routing.specs.Links.{LinksOf}
use Rattle.node_station.specs.Parts.{view_of}
use Rattle.node_station.specs.StationOf.{counts_from, station_of}
use Rattle.node_station.proofs.ForgottenPackets.{forgotten, heard_high, heard_low, heard_next}
use Rattle.node_station.proofs.Heard.{heard_entered, heard_room, heard_sorted, set_length}
use Rattle.node_station.proofs.ReadCounts.{item_is}
use Rattle.node_station.proofs.ends.hear.Goals as goal

pub returns-then-number-acked-clause-heard : goal.returns-then-number-acked-clause-heard
returns-then-number-acked-clause-heard c =
    let p = c.args.parts.now in
    let acked : get_or p.acked.items c.args.to 0 ≡ c.index-acked.result.now = item_is p.acked.items c.args.to c.index-acked.result.now (subst (λ n. c.args.to < n) (sym c.requires.whole.acked) c.requires.link.to) c.index-acked.ensures in
    let low = c.if-number-acked.true in
    sym (heard_low p.id c.args.to c.args.number p.node.state p.links.links p.acked.items (counts_from 0 p.handed.items) (omega (arith, acked, low)))

pub returns-then-more-from-clause-heard : goal.returns-then-more-from-clause-heard
returns-then-more-from-clause-heard c =
    let p = c.args.parts.now in
    let acked : get_or p.acked.items c.args.to 0 ≡ c.index-acked.result.now = item_is p.acked.items c.args.to c.index-acked.result.now (subst (λ n. c.args.to < n) (sym c.requires.whole.acked) c.requires.link.to) c.index-acked.ensures in
    let past = c.if-more-from.true in
    let long : c.from.result ≡ length (list_at pair_cmp (p.id, c.args.to) p.links.links) = c.from.ensures ∙ c.length.ensures in
    sym (heard_high p.id c.args.to c.args.number p.node.state p.links.links p.acked.items (counts_from 0 p.handed.items) (omega (arith, acked, past, long)))

pub returns-clause-whole : goal.returns-clause-whole
returns-clause-whole c =
    let p = c.args.parts.now in
    let ok = c.requires.whole in
    let inside : c.args.to < length p.acked.items = subst (λ n. c.args.to < n) (sym ok.acked) c.requires.link.to in
    let was : get_or p.acked.items c.args.to 0 ≡ c.index-acked.result.now = item_is p.acked.items c.args.to c.index-acked.result.now inside c.index-acked.ensures in
    let above = c.if-number-acked.false in
    let few = c.if-more-from.false in
    let long : c.from.result ≡ length (list_at pair_cmp (p.id, c.args.to) p.links.links) = c.from.ensures ∙ c.length.ensures in
    let there : c.args.number - c.index-acked.result.now ≤ length (list_at pair_cmp (p.id, c.args.to) p.links.links) = omega (arith, few, long) in
    record {
      of_unit = ok.of_unit;
      of_placement = ok.of_placement;
      id = ok.id;
      quantum = ok.quantum;
      width = ap (λ (k : LinksOf Packet). k.width) c.forget.ensures ∙ ok.width;
      height = ap (λ (k : LinksOf Packet). k.height) c.forget.ensures ∙ ok.height;
      cells = ap (λ (k : LinksOf Packet). k.cells) c.forget.ensures ∙ ok.cells;
      sorted = heard_sorted p ok c.args.to c.args.number c.index-acked.result.now was above inside there c.forget.new.links c.forget.ensures;
      acked = set_length p.acked.items c.args.to c.args.number ∙ ok.acked;
      handed = ok.handed;
      room = heard_room p ok c.args.to c.args.number c.index-acked.result.now was above inside there c.forget.new.links c.forget.ensures;
      made = ok.made;
      entered = heard_entered p ok c.args.to c.args.number c.index-acked.result.now was above inside there c.forget.new.links c.forget.ensures;
      came = ok.came;
      few = ok.few;
    }

pub returns-clause-heard : goal.returns-clause-heard
returns-clause-heard c =
    let p = c.args.parts.now in
    let ok = c.requires.whole in
    let inside : c.args.to < length p.acked.items = subst (λ n. c.args.to < n) (sym ok.acked) c.requires.link.to in
    let was : get_or p.acked.items c.args.to 0 ≡ c.index-acked.result.now = item_is p.acked.items c.args.to c.index-acked.result.now inside c.index-acked.ensures in
    let above = c.if-number-acked.false in
    let few = c.if-more-from.false in
    let long : c.from.result ≡ length (list_at pair_cmp (p.id, c.args.to) p.links.links) = c.from.ensures ∙ c.length.ensures in
    ap (λ (k : LinksOf Packet). station_of (record (view_of p) { links = k.links; acked = slice_set p.acked.items c.args.to c.args.number })) c.forget.ensures
    ∙ ap (λ a. station_of (record (view_of p) { links = (forgotten p.id c.args.to (c.args.number - a) p.links).links; acked = slice_set p.acked.items c.args.to c.args.number })) (sym was)
    ∙ sym (heard_next p.id c.args.to c.args.number p.node.state p.links.links p.acked.items (counts_from 0 p.handed.items) (omega (arith, was, above)) (omega (arith, was, few, long)) inside)
