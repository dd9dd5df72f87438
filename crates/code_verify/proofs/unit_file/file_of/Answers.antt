use Rattle.std.proofs.Common.{◌≡◌, subst, sym, rules}
use Rattle.code_semantics.specs.declared.file.UnitFile.{UnitFile}
use Rattle.code_semantics.specs.Proper.{IsProper}
use Rattle.code_semantics.specs.Shaped.{IsShaped, IsShort}
use Rattle.pool_compile.specs.Code.{code}
use Rattle.pool_compile.specs.Small.{AreShort}
use Rattle.pool_syntax.specs.TreeOf.{program_of}
use Rattle.code_verify.proofs.ShortCode.{file_is_short}
use Rattle.compiler_correctness.specs.DeclaredKinds.{file_of}
use Rattle.code_typing.specs.Verdict.{Good, verdict}
use Rattle.code_typing.proofs.Laws.{verified_is_good}
use Rattle.compiler_correctness.proofs.Laws.{file_is_shaped, grammatical_verified}
use Rattle.code_verify.proofs.unit_file.file_of.Goals as goal

pub returns-clause-shaped : goal.returns-clause-shaped
returns-clause-shaped c =
    let p = program_of c.args.program.now.program.now in
    let names = c.args.program.now.names.now in
    let f : UnitFile = record { unit = c.in-Ok.unit; kinds = record { classes = c.in_ok-classes.classes } } in
    let e : f ≡ file_of names p = search rules in
    subst IsShaped (sym e) (file_is_shaped names p)

pub returns-clause-short : goal.returns-clause-short
returns-clause-short c few =
    let a = c.args.program.now in
    let p = program_of a.program.now in
    let names = a.names.now in
    let f : UnitFile = record { unit = c.in-Ok.unit; kinds = record { classes = c.in_ok-classes.classes } } in
    let e : f ≡ file_of names p = search rules in
    let short : AreShort (code p) = search rules in
    let proper : IsProper f.unit = search rules in
    subst IsShort (sym e) (file_is_short names p a.grammatical a.typed (subst (λ (g : UnitFile). IsProper g.unit) e proper) short few)

pub returns-clause-good : goal.returns-clause-good
returns-clause-good c =
    let a = c.args.program.now in
    let p = program_of a.program.now in
    let names = a.names.now in
    let f : UnitFile = record { unit = c.in-Ok.unit; kinds = record { classes = c.in_ok-classes.classes } } in
    let e : f ≡ file_of names p = search rules in
    let short : AreShort (code p) = search rules in
    subst (λ g. verdict g ≡ Good) (sym e) (verified_is_good (file_of names p) (grammatical_verified names p a.grammatical a.typed a.spelled short))
