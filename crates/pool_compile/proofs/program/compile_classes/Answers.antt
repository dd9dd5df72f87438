use Rattle.std.proofs.Common.{◌≡◌, subst, sym, [], ◌∷◌, ◌++◌, arith, rules}
use Rattle.std.proofs.lemmas.Grind.{common_steps}
use Rattle.pool_syntax.specs.TreeOf.{class_tree}
use Rattle.pool_compile.specs.Small.{AreShort, IsSmallClass}
use Rattle.pool_compile.proofs.Parts.{short_class, small_class}
use Rattle.pool_compile.proofs.program.compile_classes.Goals as goal

pub compile_class-requires : goal.compile_class-requires
compile_class-requires c =
    let s = subst (λ k. IsSmallClass (class_tree k)) (sym c.class-item.is)
    (small_class c.args.classes.now c.loop-class.class-index c.class-item.result (omega arith) c.requires.small) in
    record { small = s }

pub loop-class-preserved : goal.loop-class-preserved
loop-class-preserved c =
    let e : c.push.new.self ≡ c.loop-class.list ++ c.in_ok-code.code ∷ [] = search rules in
    (grind (arith, common_steps), subst AreShort (sym e) (short_class c.loop-class.list c.in_ok-code.code c.loop-class.invariant.1 c.in_ok-code.ensures.short))
