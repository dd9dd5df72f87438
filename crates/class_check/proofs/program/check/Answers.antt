use Rattle.std.proofs.Common.{◌≡◌, sym, ap, subst, ◌∙◌, map, Some, None}
use Rattle.pool_syntax.specs.TreeOf.{class_tree, program_of}
use Rattle.pool_syntax.specs.Typing.{faults}
use Rattle.class_check.specs.Least.{IsLeastFault}
use Rattle.type_check.specs.NotedFaults.{noted, found_of}
use Rattle.type_check.specs.PairOf.{pair_of}
use Rattle.class_check.proofs.LeastLaws.{least_noted, none_noted}
use Rattle.class_check.proofs.program.check.Goals as goal

pub invariant_of-result : goal.invariant_of-result
invariant_of-result c =
    let tree : map class_tree c.items.result.now ≡ program_of c.args.program.now = ap (map class_tree) c.items.ensures in
    let none : noted None (faults (program_of c.args.program.now)) ≡ None = ap (λ p. noted None (faults p)) (sym tree) ∙ sym c.in-Ok.ensures ∙ ap found_of c.in-None.is in
    record { typed = none_noted (faults (program_of c.args.program.now)) none; grammatical = ∣ c.requires.grammatical ∣₁; spelled = c.requires.spelled }

pub returns-in-Some-clause-fault : goal.returns-in-Some-clause-fault
returns-in-Some-clause-fault c = λ f e n.
    let tree : map class_tree c.items.result.now ≡ program_of c.args.program.now = ap (map class_tree) c.items.ensures in
    let some : noted None (faults (program_of c.args.program.now)) ≡ Some (pair_of c.in-Some.fault) = ap (λ p. noted None (faults p)) (sym tree) ∙ sym c.in-Ok.ensures ∙ ap found_of c.in-Some.is in
    let same : c.in-Some.fault ≡ f = cc in
    subst (λ x. IsLeastFault (faults (program_of c.args.program.now)) (pair_of x)) same (least_noted (faults (program_of c.args.program.now)) (pair_of c.in-Some.fault) some)
