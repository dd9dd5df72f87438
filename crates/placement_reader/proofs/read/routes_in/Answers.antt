use Rattle.std.proofs.Common.{subst, arith}
use Rattle.placement_reader.specs.ReaderFacts.{IsWellFormed}
use Rattle.placement_reader.proofs.RoutedPlacement.{fine_at}
use Rattle.placement_reader.proofs.read.routes_in.Goals as goal

pub overflow_cast-at : goal.overflow_cast-at
overflow_cast-at c =
    let fine = subst (IsWellFormed c.args.nodes) c.in-Routed.is (fine_at c.args.nodes c.loop-form.form-index c.args.forms.now c.requires.fine) in
    let at = fine.0 in
    let small = c.requires.small in
    omega (arith, at, small)

pub overflow_cast-goal : goal.overflow_cast-goal
overflow_cast-goal c =
    let fine = subst (IsWellFormed c.args.nodes) c.in-Routed.is (fine_at c.args.nodes c.loop-form.form-index c.args.forms.now c.requires.fine) in
    let goal = fine.1 in
    let small = c.requires.small in
    omega (arith, goal, small)

pub overflow_cast-next : goal.overflow_cast-next
overflow_cast-next c =
    let fine = subst (IsWellFormed c.args.nodes) c.in-Routed.is (fine_at c.args.nodes c.loop-form.form-index c.args.forms.now c.requires.fine) in
    let next = fine.2 in
    let small = c.requires.small in
    omega (arith, next, small)
