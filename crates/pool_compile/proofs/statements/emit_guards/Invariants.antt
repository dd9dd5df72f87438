use Rattle.std.proofs.Common.{◌≡◌, ◌++◌, drop}
use Rattle.class_check.specs.Stands.{alternatives_of}
use Rattle.pool_compile.specs.Code.{guards_code}
use Rattle.pool_compile.specs.Numberings.{numbering}
use Rattle.pool_compile.proofs.statements.emit_guards.Given as goal

-- the rest behind what is there is all behind what was there
abbrev pub invariant-loop-alt : goal.invariant-loop-alt
invariant-loop-alt l =
    l.code.code ++ guards_code (numbering l.numbers) (alternatives_of (drop l.alt-index l.alts))
    ≡ l.initial.code.code ++ guards_code (numbering l.numbers) (alternatives_of l.alts)
