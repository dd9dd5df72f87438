use Rattle.std.proofs.Common.{◌≡◌, ◌+◌, ◌∷◌, ◌++◌, ◌∙◌, sym, ap, subst, length, Some, Ok, arith}
use Rattle.std.specs.List.{slice_get}
use Rattle.std.specs.Map.Iter.{deref_pair}
use Rattle.std.specs.Ordering.{nat_cmp}
use Rattle.std.proofs.lemmas.Grind.{common_steps}
use Rattle.std.proofs.lemmas.Map.Iter.{rest_more}
use Rattle.object_moves.specs.Tables.{known_states, table_program}
use Rattle.stepper_objects.specs.ObjectStates.{thing_object, things}
use Rattle.visited_set.proofs.SortedMaps.{in_order}
use Rattle.object_moves.specs.Rows.{objects_from}
use Rattle.visited_set.specs.Numbers.{AreNamedFrom}
use Rattle.object_moves.proofs.Laws.{no_shorter}
use Rattle.visited_set.proofs.ObjectNumbers.{next_in_order}
use Rattle.visited_set.proofs.NumberingSteps.{numbers_step}
use Rattle.visited_set.proofs.made.numbers_of.Goals as goal

pub returns-then-name-len-clause-sorted : goal.returns-then-name-len-clause-sorted
returns-then-name-len-clause-sorted c = in_order nat_cmp thing_object c.args.objects.now.entries c.iter-name-items.ensures.ordered

pub returns-in-None-2-clause-sorted : goal.returns-in-None-2-clause-sorted
returns-in-None-2-clause-sorted c = in_order nat_cmp thing_object c.args.objects.now.entries c.iter-name-items.ensures.ordered

pub returns-clause-sorted : goal.returns-clause-sorted
returns-clause-sorted c = in_order nat_cmp thing_object c.args.objects.now.entries c.iter-name-items.ensures.ordered

pub loop-name-preserved : goal.loop-name-preserved
loop-name-preserved c =
    let l = c.loop-name in
    let more = rest_more deref_pair l.name-iterator c.next.new.self c.next.result (c.in-Some.name, c.in-Some.thing) c.in-Some.is c.next.ensures.steps in
    let named : c.in-Some.name.now ≡ length l.numbers.items = grind (arith, common_steps) in
    let found : slice_get (known_states c.number_of.new.self) c.in-Some-2.number ≡ Some (thing_object c.in-Some.thing.now) = rw c.in-Some-2.is at c.in_ok-number.ensures.found in
    let same : table_program c.number_of.new.self ≡ table_program c.args.table.now = cc in
    rw c.in_ok-push-in-Some-2.ensures.items (
      same,
      numbers_step (known_states c.args.table.now) (known_states l.table) (known_states c.number_of.new.self) l.numbers.items c.in-Some-2.number c.in-Some.name.now c.in-Some.thing.now l.name-iterator c.next.new.self
          (things c.args.objects.now.entries) l.invariant.1.0 l.invariant.1.1.0 l.invariant.1.1.1 more named c.number_of.ensures.grows found,
    )

pub returns-then-name-len-clause-full : goal.returns-then-name-len-clause-full
returns-then-name-len-clause-full c = λ none named.
    let l = c.loop-name in
    let xs = known_states l.table in
    let more = rest_more deref_pair l.name-iterator c.next.new.self c.next.result (c.in-Some.name, c.in-Some.thing) c.in-Some.is c.next.ensures.steps in
    let all : AreNamedFrom 0 (objects_from 0 xs l.numbers.items ++ (c.in-Some.name.now, thing_object c.in-Some.thing.now) ∷ things c.next.new.self) =
    subst (AreNamedFrom 0) (sym l.invariant.1.1.1 ∙ ap (λ es. objects_from 0 xs l.numbers.items ++ things es) more) named in
    let next : c.in-Some.name.now ≡ 0 + length l.numbers.items = next_in_order 0 xs l.numbers.items c.in-Some.name.now (thing_object c.in-Some.thing.now) (things c.next.new.self) all in
    absurd (grind (arith, common_steps))

pub returns-in-None-2-clause-full : goal.returns-in-None-2-clause-full
returns-in-None-2-clause-full c = λ none named.
    let longer = no_shorter (known_states c.loop-name.table) (known_states c.number_of.new.self) c.number_of.ensures.grows in
    let full = c.in_ok-number.ensures.full (ap Ok c.in-None-2.is) in
    omega arith
