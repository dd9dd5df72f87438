use Rattle.std.proofs.Common.{◌≡◌, rules, arith, Some}
use Rattle.code_typing.specs.Sorts.{declared_at}
use Rattle.code_verifier.specs.Scopes.{declared_of}
use Rattle.code_verifier.proofs.VerdictSteps.{classes_bound, methods_bound}
use Rattle.code_verifier.proofs.codes.check_class_at.Goals as goal

pub overflow_cast-place : goal.overflow_cast-place
overflow_cast-place c =
    let f = c.args.classes.now.file.now in
    let b = classes_bound f c.args.place c.requires.shaped c.requires.headings c.requires.there in
    omega (arith, b)

pub check_class-requires : goal.check_class-requires
check_class-requires c =
    let f = c.args.classes.now.file.now in
    let at : declared_at f c.args.place ≡ Some (declared_of c.in-Some.class) = search rules in
    methods_bound f c.args.place (declared_of c.in-Some.class) c.requires.headings c.requires.there at
