use Rattle.std.proofs.Common.{sym, ◌∙◌}
use Rattle.placement_reader.proofs.RoutedPlacement.{fine_of}
use Rattle.placement_reader.proofs.judge.judge.Goals as goal

pub returns-in-None-clause-fine : goal.returns-in-None-clause-fine
returns-in-None-clause-fine c = fine_of c.args.width c.args.nodes c.args.number c.args.earlier.now c.in-Some.form (sym c.fault_of.ensures ∙ c.in-None.is)
