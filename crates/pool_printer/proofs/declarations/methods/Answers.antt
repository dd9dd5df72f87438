use Rattle.std.proofs.Common.{sym, ap, ◌∙◌, ◌+◌, drop, map, arith}
use Rattle.std.proofs.lemmas.List.{at_drop_all}
use Rattle.pool_syntax.specs.TreeOf.{method_tree}
use Rattle.pool_printer.specs.Canonical.{method_tokens, methods_tokens}
use Rattle.pool_printer.specs.Known.{are_known}
use Rattle.pool_printer.proofs.DeclarationParts.{methods_more}
use Rattle.pool_printer.proofs.SeparatedParts.{known_left, rests_end, rests_step}
use Rattle.pool_printer.proofs.declarations.methods.Goals as goal

pub method-requires : goal.method-requires
method-requires g c =
    let i = c.loop-next.next-index in
    known_left c.args.names.now (method_tokens (method_tree c.next-item.result)) (methods_tokens (map method_tree (drop (i + 1) c.args.methods.now)))
    (ap (are_known c.args.names.now) (sym (methods_more c.args.methods.now i c.next-item.result (omega arith) c.next-item.is)) ∙ c.loop-next.invariant.known)

pub loop-next-preserved : goal.loop-next-preserved
loop-next-preserved g c =
    rests_step _ _ _ _ _ _ _ _ c.loop-next.invariant (methods_more c.args.methods.now c.loop-next.next-index c.next-item.result (omega arith) c.next-item.is) c.method.ensures

pub returns : goal.returns
returns g c = rests_end _ _ _ _ _ c.loop-next.invariant (at_drop_all (λ ms. methods_tokens (map method_tree ms)) c.args.methods.now c.loop-next.next-index (omega arith))
