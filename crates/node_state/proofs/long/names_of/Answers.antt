use Rattle.std.proofs.Common.{sym, ap, ◌∙◌, subst}
use Rattle.node_heap.specs.Heaps.{object_at}
use Rattle.node_state.specs.LongAnswers.{names_at, AreLongOf}
use Rattle.node_state.proofs.LongAnswers.{at_place}
use Rattle.node_state.proofs.long.names_of.Goals as goal

pub each_once-requires-clause-answer : goal.each_once-requires-clause-answer
each_once-requires-clause-answer c =
    let u = c.args.unit.now in
    (u, subst (AreLongOf u) (sym c.items-in-Some.ensures) c.requires.long, ap (names_at u) c.place_of-place.ensures ∙ at_place c.in-Some.names.now u (object_at c.args.heap.now c.args.slot) c.args.alt (sym c.in-Some.ensures))
