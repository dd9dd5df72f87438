use Rattle.std.proofs.Common.{sym, ap, ◌∙◌, ◌+◌, drop, map, arith}
use Rattle.std.proofs.lemmas.List.{at_drop_all}
use Rattle.pool_syntax.specs.TreeOf.{class_tree}
use Rattle.pool_printer.specs.Canonical.{class_tokens, program_tokens}
use Rattle.pool_printer.specs.Known.{are_known}
use Rattle.pool_printer.proofs.DeclarationParts.{classes_more}
use Rattle.pool_printer.proofs.SeparatedParts.{known_left, rests_end, rests_step}
use Rattle.pool_printer.proofs.declarations.classes.Goals as goal

pub class-requires : goal.class-requires
class-requires g c =
    let i = c.loop-next.next-index in
    known_left c.args.names.now (class_tokens (class_tree c.next-item.result)) (program_tokens (map class_tree (drop (i + 1) c.args.classes.now)))
    (ap (are_known c.args.names.now) (sym (classes_more c.args.classes.now i c.next-item.result (omega arith) c.next-item.is)) ∙ c.loop-next.invariant.known)

pub loop-next-preserved : goal.loop-next-preserved
loop-next-preserved g c =
    rests_step _ _ _ _ _ _ _ _ c.loop-next.invariant (classes_more c.args.classes.now c.loop-next.next-index c.next-item.result (omega arith) c.next-item.is) c.class.ensures

pub returns : goal.returns
returns g c = rests_end _ _ _ _ _ c.loop-next.invariant (at_drop_all (λ ks. program_tokens (map class_tree ks)) c.args.classes.now c.loop-next.next-index (omega arith))
