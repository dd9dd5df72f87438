use Rattle.std.proofs.Common.{◌≡◌, ap, ◌∙◌, ◌==◌, length, take, get_or, arith}
use Rattle.std.specs.List.{list_any}
use Rattle.pool_syntax.specs.declared.tree.Method.{Method}
use Rattle.type_check.specs.CheckerScopes.{scope_of}
use Rattle.declaration_check.proofs.DeclarationParts.{method_noted}
use Rattle.declaration_check.proofs.declarations.methods.Goals as goal

pub loop-i-preserved : goal.loop-i-preserved
loop-i-preserved c =
    let i = c.loop-i.i in
    let m = c.next-item.result in
    let same : c.own_methods-index.result.list.now ≡ c.args.scope.now.own.now.methods = c.own_methods-index.ensures in
    method_noted (scope_of c.args.scope.now) c.args.scope.now.own.now.methods i m c.is_before-again.result c.loop-i.first c.next_method.new.first
    (omega (arith, ap length same))
    (c.next-item.is ∙ ap (λ ms. get_or ms i m) same)
    (c.is_before-again.ensures ∙ ap (λ ms. list_any (λ (x : Method). x.name.name.0 == m.name.name.0) (take i ms)) same)
    c.in_ok-next_method.ensures
    ∙ c.loop-i.invariant
