use Rattle.std.proofs.Common.{◌≡◌, ◌≤◌, ◌<◌, ◌*◌, ℕ, List, refl, ◌∙◌, sym, ap, subst, length, get_or, arith}
use Rattle.run_types.specs.Tables.{Each}
use Rattle.station_semantics.specs.Station.{count_at}
use Rattle.node_station.specs.Outcomes.{Comes}
use Rattle.node_station.specs.Parts.{IsStation, counted_in, view_of}
use Rattle.node_station.specs.StationOf.{StationOf, counts_from}
use Rattle.node_station.specs.declared.parts.StationParts.{StationParts}
use Rattle.node_station.proofs.Arrived.{arrived_id, arrived_whole, came_after, comes_gives, counted_length, dropped_comes, whole_counted}
use Rattle.node_station.proofs.Counts.{count_is}
use Rattle.node_station.proofs.ReadCounts.{item_is}
use Rattle.node_station.proofs.arrival.data_of.Goals as goal

-- the count of a neighbour, as the code reads it
count_read : (p : StationParts) → IsStation p → (from r : ℕ) → from < p.table.width * p.table.height → r ≡ get_or p.handed.items from r → count_at from (counts_from 0 p.handed.items) ≡ r
count_read p ok from r inside e = count_is 0 from from p.handed.items (omega arith) ∙ item_is p.handed.items from r (subst (λ n. from < n) (sym ok.handed) inside) e

pub returns-then-number-index-clause-comes : goal.returns-then-number-index-clause-comes
returns-then-number-index-clause-comes c =
    let count = count_read c.args.parts.now c.requires.whole c.args.from c.index.result.now c.requires.link.from c.index.ensures in
    dropped_comes c.args.parts.now c.args.from c.args.number c.args.packet c.args.room.now (λ e. c.if-number-index.true (e ∙ count))

pub returns-then-not-is_fit-clause-comes : goal.returns-then-not-is_fit-clause-comes
returns-then-not-is_fit-clause-comes c =
    let count = count_read c.args.parts.now c.requires.whole c.args.from c.index.result.now c.requires.link.from c.index.ensures in
    (c.if-number-index.false ∙ sym count, λ fit. c.is_fit.ensures.no c.if-not-is_fit.true fit.goal (λ e. fit.here (e ∙ sym c.requires.whole.id)))

inside : (c : goal.After-count_in) → c.args.from < length c.has_numbers.new.parts.handed.items
inside c = subst (λ (z : StationParts). c.args.from < length z.handed.items) (sym c.has_numbers.ensures.rest) (subst (λ n. c.args.from < n) (sym c.requires.whole.handed) c.requires.link.from)

counts : (c : goal.After-count_in) → c.count_in.new.handed.items ≡ counted_in c.has_numbers.new.parts.handed.items c.args.from c.settle-outcome.result
counts c = c.count_in.ensures ∙ ap (λ (z : StationParts). counted_in z.handed.items c.args.from c.settle-outcome.result) c.settle-outcome.ensures.rest

pub returns-clause-whole : goal.returns-clause-whole
returns-clause-whole c =
    whole_counted c.settle-outcome.new.parts (record c.settle-outcome.new.parts { handed = c.count_in.new.handed })
    (subst IsStation (sym c.settle-outcome.ensures.rest)
    (arrived_whole c.has_numbers.new.parts c.has_numbers.ensures.whole c.placement.result.now c.placement.ensures c.leaving.result c.leaving.ensures.count c.arrive-told.new.node c.arrive-told.new.room c.args.from c.args.number c.args.packet
    c.arrive-told.result c.arrive-told.ensures.act c.settle-outcome.result c.settle-outcome.new.parts.links c.settle-outcome.new.parts.steps c.settle-outcome.ensures.settled c.arrive-told.ensures.unit
    (subst (λ (ks : List ℕ). Each (λ k. k ≤ c.has_numbers.new.parts.made) ks) (sym c.arrive-told.ensures.made) c.has_numbers.ensures.whole.made) (c.has_numbers.ensures.yes c.if-not-has_numbers.false).1))
    refl (ap length c.count_in.ensures ∙ counted_length c.settle-outcome.new.parts.handed.items c.args.from c.settle-outcome.result)
    (λ b. subst (λ (ks : List ℕ). get_or ks b 0 ≤ c.settle-outcome.new.parts.steps) (sym (counts c))
    (came_after c.has_numbers.new.parts c.has_numbers.ensures.whole c.placement.result.now c.placement.ensures c.leaving.result c.leaving.ensures.count c.arrive-told.new.node c.arrive-told.new.room c.args.from c.args.number c.args.packet
    c.arrive-told.result c.arrive-told.ensures.act c.settle-outcome.result c.settle-outcome.new.parts.links c.settle-outcome.new.parts.steps c.settle-outcome.ensures.settled (inside c) b))

pub returns-clause-run : goal.returns-clause-run
returns-clause-run c = record {
  unit = ap (λ (z : StationParts). z.unit.now) c.settle-outcome.ensures.rest ∙ ap (λ (z : StationParts). z.unit.now) c.has_numbers.ensures.rest;
  placement = ap (λ (z : StationParts). z.table) c.settle-outcome.ensures.rest ∙ ap (λ (z : StationParts). z.table) c.has_numbers.ensures.rest;
  quantum = ap (λ (z : StationParts). z.quantum) c.settle-outcome.ensures.rest ∙ ap (λ (z : StationParts). z.quantum) c.has_numbers.ensures.rest;
  id = ap (λ (z : StationParts). z.node.id) c.settle-outcome.ensures.rest
      ∙ arrived_id c.has_numbers.new.parts c.has_numbers.ensures.whole c.placement.result.now c.placement.ensures c.leaving.result c.leaving.ensures.count c.arrive-told.new.node c.arrive-told.new.room c.args.from c.args.number c.args.packet
      c.arrive-told.result c.arrive-told.ensures.act c.settle-outcome.result c.settle-outcome.new.parts.links c.settle-outcome.new.parts.steps c.settle-outcome.ensures.settled
      ∙ ap (λ (z : StationParts). z.node.id) c.has_numbers.ensures.rest;
}

pub returns-clause-comes : goal.returns-clause-comes
returns-clause-comes c =
    let count = count_read c.args.parts.now c.requires.whole c.args.from c.index.result.now c.requires.link.from c.index.ensures in
    let next : c.args.number ≡ count_at c.args.from (counts_from 0 c.has_numbers.new.parts.handed.items) =
    c.if-number-index.false ∙ sym count ∙ ap (λ (z : StationParts). count_at c.args.from (counts_from 0 z.handed.items)) (sym c.has_numbers.ensures.rest) in
    subst (λ (z : StationOf). Comes c.settle-outcome.result c.arrive-told.new.room z (record (view_of c.settle-outcome.new.parts) { handed = c.count_in.new.handed.items }) c.args.from c.args.number c.args.packet) (ap view_of c.has_numbers.ensures.rest)
    (subst (λ (z : StationOf). Comes c.settle-outcome.result c.arrive-told.new.room (view_of c.has_numbers.new.parts) z c.args.from c.args.number c.args.packet)
    (sym (ap (λ (z : StationParts). record (view_of z) { handed = c.count_in.new.handed.items }) c.settle-outcome.ensures.rest))
    (comes_gives c.has_numbers.new.parts c.has_numbers.ensures.whole c.placement.result.now c.placement.ensures c.leaving.result c.leaving.ensures.count c.arrive-told.new.node c.arrive-told.new.room c.args.from c.args.number c.args.packet
    c.arrive-told.result c.arrive-told.ensures.act c.settle-outcome.result c.settle-outcome.new.parts.links c.settle-outcome.new.parts.steps c.settle-outcome.ensures.settled c.count_in.new.handed.items (counts c) (inside c) next))
