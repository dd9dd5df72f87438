use Rattle.std.proofs.Common.{subst, arith}
use Rattle.placement_reader.specs.ReaderFacts.{IsWellFormed}
use Rattle.placement_reader.proofs.RoutedPlacement.{fine_at}
use Rattle.placement_reader.proofs.read.cuts_in.Goals as goal

pub overflow_cast-from : goal.overflow_cast-from
overflow_cast-from c =
    let fine = subst (IsWellFormed c.args.nodes) c.in-Cut.is (fine_at c.args.nodes c.loop-form.form-index c.args.forms.now c.requires.fine) in
    let from = fine.0 in
    let small = c.requires.small in
    omega (arith, from, small)

pub overflow_cast-to : goal.overflow_cast-to
overflow_cast-to c =
    let fine = subst (IsWellFormed c.args.nodes) c.in-Cut.is (fine_at c.args.nodes c.loop-form.form-index c.args.forms.now c.requires.fine) in
    let to = fine.1 in
    let small = c.requires.small in
    omega (arith, to, small)
