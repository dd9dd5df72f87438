use Rattle.node_station.proofs.ReadCounts.{handed_seen}
use Rattle.node_station.proofs.station.Station.handed.Goals as goal

pub returns : goal.returns
returns c = handed_seen c.self.inside.parts c.args.self.now c.self.view_is c.self.invariant c.args.from c.index.result.now c.requires c.index.ensures
