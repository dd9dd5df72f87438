use Rattle.std.proofs.Common.{◌∙◌, arith}
use Rattle.node_station.proofs.ReadCounts.{entered_seen, entered_small}
use Rattle.node_station.proofs.station.Station.entered.Goals as goal

pub overflow_add-result : goal.overflow_add-result
overflow_add-result c =
    let a = entered_small c.self.inside.parts c.args.self.now c.self.view_is c.self.invariant c.args.to c.index.result.now c.requires.to c.from.result c.index.ensures (c.from.ensures ∙ c.length.ensures) in
    let b = c.self.invariant.few in omega (arith, a, b)

pub returns : goal.returns
returns c = entered_seen c.self.inside.parts c.args.self.now c.self.view_is c.self.invariant c.args.to c.index.result.now c.requires.to c.from.result c.index.ensures (c.from.ensures ∙ c.length.ensures)
