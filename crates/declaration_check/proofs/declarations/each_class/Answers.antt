use Rattle.std.proofs.Common.{ap, ◌∙◌, ◌==◌, map, take, arith}
use Rattle.std.specs.List.{list_any}
use Rattle.pool_syntax.specs.declared.tree.ClassDecl.{ClassDecl}
use Rattle.pool_syntax.specs.TreeOf.{class_tree}
use Rattle.declaration_check.proofs.DeclarationParts.{class_noted}
use Rattle.declaration_check.proofs.declarations.each_class.Goals as goal

pub loop-i-preserved : goal.loop-i-preserved
loop-i-preserved c =
    let i = c.loop-i.i in
    let k = c.next-item.result in
    let ks = c.args.classes.now.list.now in
    class_noted (map class_tree ks) ks i k c.is_before-again.result c.loop-i.first c.next_class.new.first
    (omega arith)
    c.next-item.is
    (c.is_before-again.ensures ∙ ap (λ xs. list_any (λ (x : ClassDecl). x.name.name.0 == k.name.name.0) (take i xs)) c.index-index.ensures)
    c.in_ok-next_class.ensures
    ∙ c.loop-i.invariant
