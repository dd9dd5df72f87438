use Rattle.std.proofs.Common.{refl, map, [], ◌∷◌, arith}
use Rattle.pool_syntax.specs.declared.token.Tok.TheVariants.{Name, Sign}
use Rattle.pool_syntax.specs.declared.token.Sign.TheVariants as sign
use Rattle.pool_syntax.specs.declared.tree.Named.{Named}
use Rattle.pool_printer.specs.Canonical.{separated_by}
use Rattle.pool_printer.proofs.SeparatedParts.{known_left, no_more, parts_at, rests_begin, rests_end, rests_step}
use Rattle.pool_printer.proofs.SequentialOutput.{prints_append, prints_more}
use Rattle.pool_printer.proofs.statements.list.Goals as goal

pub loop-i-init : goal.loop-i-init
loop-i-init g c =
    rests_begin _ _ _ (known_left c.args.names.now (separated_by (Sign sign.Comma) (map (λ (n : Named). Name n.name ∷ []) c.args.list.now)) (Sign sign.RightParen ∷ []) c.requires)

pub loop-i-preserved : goal.loop-i-preserved
loop-i-preserved g c =
    rests_step _ _ _ _ _ _ _ _
    (rests_step _ _ _ _ _ _ _ _ c.loop-i.invariant
    (parts_at (Sign sign.Comma) (map (λ (n : Named). Name n.name ∷ [])) (λ n. Name n.name ∷ []) c.args.list.now c.loop-i.i _ (omega arith) (λ ys y. refl)) c.separate.ensures)
    refl c.say-in-loop-i.ensures

pub returns : goal.returns
returns g c =
    prints_more _ _ _ _ _ _ c.say.ensures
    (prints_append _ _ _ _ _ _
    (rests_end _ _ _ _ _ c.loop-i.invariant (no_more _ c.loop-i.i (map (λ (n : Named). Name n.name ∷ [])) c.args.list.now (omega arith) refl)) c.say-2.ensures)
