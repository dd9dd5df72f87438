use Rattle.std.proofs.Common.{refl}
use Rattle.run_types.proofs.Texts.{name_of-missing}
use Rattle.run_types.proofs.names.Names.add.Goals as goal

-- src/names.rt:44:5
pub returns-in_ok-to_vec-in-None-clause-place : goal.returns-in_ok-to_vec-in-None-clause-place
returns-in_ok-to_vec-in-None-clause-place c = rw (name_of-missing c.args.self.now c.args.text.now (c.in-None.ensures.none.0 refl)) c.put.ensures.place
