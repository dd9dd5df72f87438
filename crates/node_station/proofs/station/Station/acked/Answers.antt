use Rattle.node_station.proofs.ReadCounts.{acked_seen}
use Rattle.node_station.proofs.station.Station.acked.Goals as goal

pub returns : goal.returns
returns c = acked_seen c.self.inside.parts c.args.self.now c.self.view_is c.self.invariant c.args.to c.index.result.now c.requires c.index.ensures
