use Rattle.run_types.specs.GivenProperties.{IsGiven, AreGiven}
use Rattle.mesh_semantics.proofs.SameStandings.{standing_same, cycles_same}
use Rattle.mesh_semantics.proofs.theorems.standings_agree.Goals as goal

pub returns-clause-standings : goal.returns-clause-standings
returns-clause-standings r c = λ g h kept same d o x y sim z. (sim.class o x y z, standing_same g h (IsGiven kept) (AreGiven same) sim d o x y z)

pub returns-clause-cycles : goal.returns-clause-cycles
returns-clause-cycles r c = λ g h kept same k e d sim z. cycles_same g h (IsGiven kept) (AreGiven same) sim k e d z
