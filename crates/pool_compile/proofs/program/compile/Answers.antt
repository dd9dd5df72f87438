use Rattle.std.proofs.Common.{subst, sym, ap, ◌∙◌, map}
use Rattle.pool_syntax.specs.TreeOf.{class_tree, program_of}
use Rattle.pool_syntax.specs.Spelled.{is_spelled}
use Rattle.code_semantics.specs.declared.unit.Unit.{Unit as Code}
use Rattle.pool_compile.specs.Code.{code}
use Rattle.pool_compile.specs.Small.{FramesAreSmall, IsSmall}
use Rattle.pool_compile.proofs.Limits.{frames_small, program_small, some_class, written}
use Rattle.pool_compile.proofs.ProgramProper.{program_proper}
use Rattle.pool_compile.proofs.program.compile.Goals as goal

pub compile_classes-requires : goal.compile_classes-requires
compile_classes-requires c =
    let p = program_of c.args.program.now.program.now in
    record { small = subst (λ ks. IsSmall (map class_tree ks)) (sym c.items.ensures) (program_small p c.args.program.now.typed (written p c.args.program.now.grammatical)) }

pub returns-clause-proper : goal.returns-clause-proper
returns-clause-proper c =
    let p = program_of c.args.program.now.program.now in
    let u : Code = record { names = c.in_ok-names.names; classes = c.in_ok-classes.classes } in
    program_proper p u (c.in_ok-classes.ensures.code ∙ ap (λ ks. code (map class_tree ks)) c.items.ensures) c.args.program.now.typed (written p c.args.program.now.grammatical)
    (some_class p c.args.program.now.grammatical)
    (ap (λ n. is_spelled n p) c.in_ok-names.ensures ∙ c.args.program.now.spelled)
    c.in_ok-classes.ensures.short

pub returns-clause-frames : goal.returns-clause-frames
returns-clause-frames c =
    let p = program_of c.args.program.now.program.now in
    subst FramesAreSmall (sym (c.in_ok-classes.ensures.code ∙ ap (λ ks. code (map class_tree ks)) c.items.ensures))
    (frames_small p (program_small p c.args.program.now.typed (written p c.args.program.now.grammatical)))
