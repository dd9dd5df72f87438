use Rattle.std.proofs.Common.{◌≡◌, ◌<◌, ◌-◌, length, get_or, sym, ap, subst, ◌∙◌, arith}
use Rattle.std.specs.Prelude.{slice_get}
use Rattle.std.proofs.lemmas.Option.{slice_get_past}
use Rattle.run_types.specs.Tables.{list_at, pair_cmp}
use Rattle.node_station.specs.Outcomes.{frame_with}
use Rattle.node_station.specs.StationOf.{counts_from}
use Rattle.node_station.proofs.ForgottenPackets.{again_low, again_there}
use Rattle.node_station.proofs.ReadCounts.{item_is}
use Rattle.node_station.proofs.ends.packet_in.Goals as goal

pub returns-then-number-acked : goal.returns-then-number-acked
returns-then-number-acked c =
    let p = c.args.parts.now in
    let acked : get_or p.acked.items c.args.to 0 ≡ c.index-acked.result.now = item_is p.acked.items c.args.to c.index-acked.result.now (subst (λ n. c.args.to < n) (sym c.requires.whole.acked) c.requires.link.to) c.index-acked.ensures in
    let low = c.if-number-acked.true in
    again_low p.id c.args.to c.args.number p.node.state p.links.links p.acked.items (counts_from 0 p.handed.items) (omega (arith, acked, low))

pub returns-then-place-from : goal.returns-then-place-from
returns-then-place-from c =
    let p = c.args.parts.now in
    let acked : get_or p.acked.items c.args.to 0 ≡ c.index-acked.result.now = item_is p.acked.items c.args.to c.index-acked.result.now (subst (λ n. c.args.to < n) (sym c.requires.whole.acked) c.requires.link.to) c.index-acked.ensures in
    let there = c.if-number-acked.false in
    let past = c.if-place-from.true in
    let long : c.from.result ≡ length (list_at pair_cmp (p.id, c.args.to) p.links.links) = c.from.ensures ∙ c.length.ensures in
    again_there p.id c.args.to c.args.number p.node.state p.links.links p.acked.items (counts_from 0 p.handed.items) (omega (arith, acked, there))
    ∙ ap (frame_with c.args.to c.args.number) (slice_get_past (list_at pair_cmp (p.id, c.args.to) p.links.links) (c.args.number - get_or p.acked.items c.args.to 0) (omega (arith, acked, past, long)))

pub returns-in-Some : goal.returns-in-Some
returns-in-Some c =
    let p = c.args.parts.now in
    let acked : get_or p.acked.items c.args.to 0 ≡ c.index-acked.result.now = item_is p.acked.items c.args.to c.index-acked.result.now (subst (λ n. c.args.to < n) (sym c.requires.whole.acked) c.requires.link.to) c.index-acked.ensures in
    let there = c.if-number-acked.false in
    again_there p.id c.args.to c.args.number p.node.state p.links.links p.acked.items (counts_from 0 p.handed.items) (omega (arith, acked, there))
    ∙ ap (λ a. frame_with c.args.to c.args.number (slice_get (list_at pair_cmp (p.id, c.args.to) p.links.links) (c.args.number - a))) acked ∙ ap (frame_with c.args.to c.args.number) (sym c.in-Some.ensures)

pub returns-in-None : goal.returns-in-None
returns-in-None c =
    let p = c.args.parts.now in
    let acked : get_or p.acked.items c.args.to 0 ≡ c.index-acked.result.now = item_is p.acked.items c.args.to c.index-acked.result.now (subst (λ n. c.args.to < n) (sym c.requires.whole.acked) c.requires.link.to) c.index-acked.ensures in
    let there = c.if-number-acked.false in
    again_there p.id c.args.to c.args.number p.node.state p.links.links p.acked.items (counts_from 0 p.handed.items) (omega (arith, acked, there))
    ∙ ap (λ a. frame_with c.args.to c.args.number (slice_get (list_at pair_cmp (p.id, c.args.to) p.links.links) (c.args.number - a))) acked ∙ ap (frame_with c.args.to c.args.number) (sym c.in-None.ensures)
