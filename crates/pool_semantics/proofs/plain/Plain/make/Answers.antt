use Rattle.std.proofs.Common.{◌≡◌, ◌∙◌, refl, ap, [], length, map, ◌-◌, slice_get, Some, None, arith}
use Rattle.std.proofs.lemmas.Grind.{common_steps}
use Rattle.std.proofs.Math.Logic.{∥∥₁_elim, ∥∥₁_map}
use Rattle.std.specs.Ordering.{nat_cmp}
use Rattle.std.specs.FinMap.{put}
use Rattle.pool_syntax.specs.TreeOf.{class_tree, program_of}
use Rattle.pool_relation.specs.Configuration.{Configuration}
use Rattle.pool_relation.specs.Transition.{new_object}
use Rattle.stepper_objects.specs.ObjectStates.{things}
use Rattle.pool_semantics.specs.Mails.{posts}
use Rattle.class_check.proofs.Laws.{grammatical_written, has_a_class}
use Rattle.pool_semantics.proofs.RootClass.{none_last, started}
use Rattle.pool_semantics.proofs.TypedFacts.{start_is_sound}
use Rattle.pool_semantics.proofs.plain.Plain.make.Goals as goal

pub unreachable-requires : goal.unreachable-requires
unreachable-requires c =
    let cs = c.args.program.now.program.now.classes in
    let h : slice_get cs (length cs - 1) ≡ None = grind (arith, common_steps) in
    ∥∥₁_elim c.args.program.now.grammatical (λ x y. absurd x) (λ g. has_a_class (program_of c.args.program.now.program.now) g (ap (map class_tree) (none_last cs h)))

pub returns-in-Ok-clause-start : goal.returns-in-Ok-clause-start
returns-in-Ok-clause-start c =
    let cs = c.args.program.now.program.now.classes in
    let k = c.in-Some.class.now in
    let h : slice_get cs (length cs - 1) ≡ Some k = grind (arith, common_steps) in
    let none : c.new-objects.result.entries ≡ [] = grind (arith, common_steps) in
    let quiet : c.new.result.entries ≡ [] = grind (arith, common_steps) in
    let st = started cs k c.args.root (new_object (class_tree k)) (things c.add.new.objects.entries) (posts c.new.result.entries) h refl
    (c.in-Ok.ensures.added ∙ ap (λ es. put nat_cmp c.args.root (new_object (class_tree k)) (things es)) none) (ap posts quiet) in
    st

pub invariant_of-result : goal.invariant_of-result
invariant_of-result c =
    let cs = c.args.program.now.program.now.classes in
    let k = c.in-Some.class.now in
    let h : slice_get cs (length cs - 1) ≡ Some k = grind (arith, common_steps) in
    let none : c.new-objects.result.entries ≡ [] = grind (arith, common_steps) in
    let quiet : c.new.result.entries ≡ [] = grind (arith, common_steps) in
    let st = started cs k c.args.root (new_object (class_tree k)) (things c.add.new.objects.entries) (posts c.new.result.entries) h refl
    (c.in-Ok.ensures.added ∙ ap (λ es. put nat_cmp c.args.root (new_object (class_tree k)) (things es)) none) (ap posts quiet) in
    let p = program_of c.args.program.now.program.now in
    let d : Configuration = record { objects = things c.add.new.objects.entries; messages = posts c.new.result.entries } in
    record { typed = ∥∥₁_map c.args.program.now.grammatical (λ g _. start_is_sound p c.args.root d c.args.program.now.typed (grammatical_written p g) st) }
