use Rattle.std.proofs.Common.{◌≡◌, ◌∙◌, Option, None, Some, rules}
use Rattle.std.specs.Ordering.{nat_cmp}
use Rattle.std.specs.Option.{UnwrapsOrElse}
use Rattle.std.specs.BTreeMap.{insert_entry}
use Rattle.std.specs.BTreeMap.Entry.{entry_value, map_with_value}
use Rattle.pool_syntax.specs.TreeOf.{class_tree}
use Rattle.pool_relation.specs.Transition.{new_object}
use Rattle.stepper_objects.specs.ObjectStates.{thing_object}
use Rattle.pool_semantics.proofs.AddedObject.{things_added}
use Rattle.pool_semantics.proofs.plain.objects.add.Goals as goal

made_by : {X : Type 0} (o : Option X) (P : X → Type 0) (x : X) → UnwrapsOrElse o P x → o ≡ None → P x
made_by None P x h e = h
made_by (Some y) P x h e = absurd (cc)

pub returns-in-Ok-or_try_insert_with-clause-added : goal.returns-in-Ok-or_try_insert_with-clause-added
returns-in-Ok-or_try_insert_with-clause-added c =
    let e = c.in-Ok.place in
    let t = c.in-Ok-or_try_insert_with._added.now in
    let none : entry_value e ≡ None = c.in-Ok.ensures.value ∙ c.requires in
    let by = made_by (entry_value e) _ t c.in-Ok-or_try_insert_with.ensures.value none in
    let made : thing_object t ≡ new_object (class_tree c.args.class.now) = search rules in
    let put_in : (map_with_value e t).entries ≡ insert_entry nat_cmp c.args.objects.now.entries c.args.name t = search rules in
    things_added _ c.args.objects.now.entries c.args.name t (new_object (class_tree c.args.class.now)) (search rules) made
