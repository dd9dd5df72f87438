use Rattle.placement_reader.specs.declared.form.Count.TheVariants.{Objects, Frames, Cells}
use Rattle.placement_reader.proofs.FaultlessForms.{number_fine}
use Rattle.placement_reader.proofs.read.placement_in.Goals as goal

pub number_or-objects-requires-clause-fine : goal.number_or-objects-requires-clause-fine
number_or-objects-requires-clause-fine c = number_fine _ Objects c.args.forms.now c.requires.fine

pub number_or-frames-requires-clause-fine : goal.number_or-frames-requires-clause-fine
number_or-frames-requires-clause-fine c = number_fine _ Frames c.args.forms.now c.requires.fine

pub number_or-cells-requires-clause-fine : goal.number_or-cells-requires-clause-fine
number_or-cells-requires-clause-fine c = number_fine _ Cells c.args.forms.now c.requires.fine
