use Rattle.std.proofs.Common.{refl, ◌+◌, drop, get_or, map, arith}
use Rattle.pool_syntax.specs.declared.token.Tok.TheVariants.{Sign}
use Rattle.pool_syntax.specs.declared.token.Sign.TheVariants as sign
use Rattle.run_types.specs.declared.types.Kind.TheVariants as kind
use Rattle.pool_syntax.specs.declared.tree.Var.{Var}
use Rattle.pool_printer.specs.Canonical.{variable_tokens}
use Rattle.pool_printer.specs.SinkState.{separator_at}
use Rattle.pool_printer.proofs.PartsFrom.{from_place}
use Rattle.pool_printer.proofs.ExpressionInPlace.{known_part}
use Rattle.pool_printer.proofs.SeparatedParts.{no_more, parts_at, rests_end, rests_step}
use Rattle.pool_printer.proofs.declarations.params.Goals as goal

pub variable-requires : goal.variable-requires
variable-requires g c =
    let none : Var = record { name = record { 0 = 0 }; kind = kind.Int; pos = 0; kind_pos = 0 } in
    known_part c.args.names.now (separator_at (Sign sign.Comma) c.loop-i.i) (variable_tokens (get_or c.args.params.now c.loop-i.i none))
    (from_place (Sign sign.Comma) (c.loop-i.i + 1) (map variable_tokens (drop (c.loop-i.i + 1) c.args.params.now))) _
    (parts_at (Sign sign.Comma) (map variable_tokens) variable_tokens c.args.params.now c.loop-i.i none (omega arith) (λ ys y. refl)) c.loop-i.invariant.known

pub loop-i-preserved : goal.loop-i-preserved
loop-i-preserved g c =
    rests_step _ _ _ _ _ _ _ _
    (rests_step _ _ _ _ _ _ _ _ c.loop-i.invariant (parts_at (Sign sign.Comma) (map variable_tokens) variable_tokens c.args.params.now c.loop-i.i _ (omega arith) (λ ys y. refl)) c.separate.ensures)
    refl c.variable.ensures

pub returns : goal.returns
returns g c = rests_end _ _ _ _ _ c.loop-i.invariant (no_more _ c.loop-i.i (map variable_tokens) c.args.params.now (omega arith) refl)
