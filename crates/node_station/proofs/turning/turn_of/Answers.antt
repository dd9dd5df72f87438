use Rattle.std.proofs.Common.{sym, ap, subst, ◌∙◌}
use Rattle.node_station.specs.Outcomes.{Turns}
use Rattle.node_station.specs.Parts.{IsStation, view_of}
use Rattle.node_station.specs.StationOf.{StationOf}
use Rattle.node_station.specs.declared.parts.StationParts.{StationParts}
use Rattle.node_station.proofs.Turned.{turn_gives, turned_id, turned_whole}
use Rattle.node_station.proofs.turning.turn_of.Goals as goal

pub returns-clause-whole : goal.returns-clause-whole
returns-clause-whole c =
    let act = c.turn_into-told.ensures.act in
    subst IsStation (sym c.settle.ensures.rest)
    (turned_whole c.has_numbers.new.parts c.has_numbers.ensures.whole c.placement.result.now c.placement.ensures c.leaving.result c.leaving.ensures.count c.turn_into-told.new.self c.turn_into-told.new.room act.0 act.1 c.turn_into-told.result act.2
    c.settle.result c.settle.new.parts.links c.settle.new.parts.steps c.settle.ensures.settled c.turn_into-told.ensures.unit _ (c.turn_into-told.ensures.counts c.has_numbers.new.parts.made c.has_numbers.ensures.whole.made)
    (c.has_numbers.ensures.yes c.if-not-has_numbers.false).1)

pub returns-clause-run : goal.returns-clause-run
returns-clause-run c =
    let act = c.turn_into-told.ensures.act in
    record {
      unit = ap (λ (z : StationParts). z.unit.now) c.settle.ensures.rest ∙ ap (λ (z : StationParts). z.unit.now) c.has_numbers.ensures.rest;
      placement = ap (λ (z : StationParts). z.table) c.settle.ensures.rest ∙ ap (λ (z : StationParts). z.table) c.has_numbers.ensures.rest;
      quantum = ap (λ (z : StationParts). z.quantum) c.settle.ensures.rest ∙ ap (λ (z : StationParts). z.quantum) c.has_numbers.ensures.rest;
      id = ap (λ (z : StationParts). z.node.id) c.settle.ensures.rest
          ∙ turned_id c.has_numbers.new.parts c.has_numbers.ensures.whole c.placement.result.now c.placement.ensures c.leaving.result c.leaving.ensures.count c.turn_into-told.new.self c.turn_into-told.new.room act.0 act.1 c.turn_into-told.result act.2
          c.settle.result c.settle.new.parts.links c.settle.new.parts.steps c.settle.ensures.settled
          ∙ ap (λ (z : StationParts). z.node.id) c.has_numbers.ensures.rest;
    }

pub returns-clause-turns : goal.returns-clause-turns
returns-clause-turns c =
    let act = c.turn_into-told.ensures.act in
    subst (λ (z : StationOf). Turns c.settle.result c.turn_into-told.new.room z (view_of c.settle.new.parts)) (ap view_of c.has_numbers.ensures.rest)
    (subst (λ (z : StationOf). Turns c.settle.result c.turn_into-told.new.room (view_of c.has_numbers.new.parts) z) (sym (ap view_of c.settle.ensures.rest))
    (turn_gives c.has_numbers.new.parts c.has_numbers.ensures.whole c.placement.result.now c.placement.ensures c.leaving.result c.leaving.ensures.count c.turn_into-told.new.self c.turn_into-told.new.room act.0 act.1 c.turn_into-told.result act.2
    c.settle.result c.settle.new.parts.links c.settle.new.parts.steps c.settle.ensures.settled))
