use Rattle.std.proofs.Common.{◌∙◌, arith, get_or, map}
use Rattle.std.proofs.lemmas.List.{get_or_default}
use Rattle.pool_syntax.specs.declared.tree.Var.{Var}
use Rattle.run_types.specs.declared.types.Kind.TheVariants as K
use Rattle.pool_syntax.specs.TreeOf.{class_tree}
use Rattle.declaration_check.specs.TwiceNumber.{twice_number}
use Rattle.declaration_check.proofs.DeclarationParts.{variable_noted}
use Rattle.declaration_check.proofs.declarations.variables.Goals as goal

pub loop-i-preserved : goal.loop-i-preserved
loop-i-preserved c =
    let vs = c.args.vars.now.list.now in
    let v : Var = get_or vs c.loop-i.i (record { name = record { 0 = 0 }; kind = K.Int; pos = 0; kind_pos = 0 }) in
    variable_noted (map class_tree c.args.classes.now.list.now) (twice_number c.args.owner) c.args.before.now.list.now vs c.loop-i.i v c.is_twice-again.result c.loop-i.first c.variable.new.first
    (omega arith) (get_or_default vs c.loop-i.i _ v (omega arith)) c.is_twice-again.ensures c.variable.ensures
    ∙ c.loop-i.invariant
