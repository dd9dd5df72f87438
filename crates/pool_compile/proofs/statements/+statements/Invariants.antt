use Rattle.std.proofs.Common.{◌≡◌, ◌++◌, length, drop}
use Rattle.pool_syntax.specs.TreeOf.{statements_of, alternatives_of}
use Rattle.pool_compile.specs.Code.{alternatives_at, alternatives_code, statements_code}
use Rattle.pool_compile.specs.Jumps.{jumps_at}
use Rattle.pool_compile.specs.Numberings.{numbering}
use Rattle.pool_compile.proofs.statements.+statements.Given as goal

-- the rest behind what is there is all behind what was there
abbrev pub invariant-emit_statements-loop-stmt : goal.invariant-emit_statements-loop-stmt
invariant-emit_statements-loop-stmt l =
    l.code.code ++ statements_code (numbering l.numbers) (length l.code.code) (statements_of (drop l.stmt-index l.stmts))
    ≡ l.initial.code.code ++ statements_code (numbering l.numbers) (length l.initial.code.code) (statements_of l.stmts)

abbrev pub invariant-emit_works-loop-alt : goal.invariant-emit_works-loop-alt
invariant-emit_works-loop-alt l =
    let g = numbering l.numbers in
    let left = alternatives_of (drop l.alt-index l.alts) in
    let all = alternatives_of l.alts in
    let now = length l.code.code in
    let at = length l.initial.code.code in
    (l.code.code ++ alternatives_code g now 0 left ≡ l.initial.code.code ++ alternatives_code g at 0 all)
    × (l.targets ++ alternatives_at g now left ≡ l.initial.targets ++ alternatives_at g at all)
    × (l.jumps.items ++ jumps_at g now left ≡ l.initial.jumps.items ++ jumps_at g at all)
