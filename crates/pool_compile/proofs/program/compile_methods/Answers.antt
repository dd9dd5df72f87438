use Rattle.std.proofs.Common.{◌≡◌, subst, sym, [], ◌∷◌, ◌++◌, arith, rules}
use Rattle.std.proofs.lemmas.Grind.{common_steps}
use Rattle.pool_syntax.specs.TreeOf.{method_tree}
use Rattle.pool_compile.specs.Small.{AreShortMethods, IsSmallMethod}
use Rattle.pool_compile.proofs.Parts.{short_method, small_method}
use Rattle.pool_compile.proofs.program.compile_methods.Goals as goal

pub compile_method-requires-clause-small : goal.compile_method-requires-clause-small
compile_method-requires-clause-small c =
    subst (λ m. IsSmallMethod (method_tree m)) (sym c.method-item.is)
    (small_method c.args.methods.now c.loop-method.method-index c.method-item.result (omega arith) c.requires.small)

pub loop-method-preserved : goal.loop-method-preserved
loop-method-preserved c =
    let e : c.push.new.self ≡ c.loop-method.list ++ c.in_ok-code.code ∷ [] = search rules in
    (grind (arith, common_steps), subst AreShortMethods (sym e) (short_method c.loop-method.list c.in_ok-code.code c.loop-method.invariant.1 c.in_ok-code.ensures.short))
