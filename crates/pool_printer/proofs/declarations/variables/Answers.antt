use Rattle.std.proofs.Common.{sym, ap, ◌∙◌, ◌+◌, drop, get_or, arith}
use Rattle.std.proofs.lemmas.List.{at_drop_all}
use Rattle.run_types.specs.declared.types.Kind.TheVariants as kind
use Rattle.pool_syntax.specs.declared.tree.Var.{Var}
use Rattle.pool_printer.specs.Canonical.{declarations_tokens, variable_tokens}
use Rattle.pool_printer.specs.Known.{are_known}
use Rattle.pool_printer.proofs.DeclarationParts.{variables_more}
use Rattle.pool_printer.proofs.SeparatedParts.{known_left, rests_end, rests_step}
use Rattle.pool_printer.proofs.SequentialOutput.{prints_more}
use Rattle.pool_printer.proofs.declarations.variables.Goals as goal

pub variable-requires : goal.variable-requires
variable-requires g c =
    let none : Var = record { name = record { 0 = 0 }; kind = kind.Int; pos = 0; kind_pos = 0 } in
    let i = c.loop-var.var-index in
    known_left c.args.names.now (variable_tokens (get_or c.args.vars.now i none)) (declarations_tokens c.args.word (drop (i + 1) c.args.vars.now))
    (ap (are_known c.args.names.now) (sym (variables_more c.args.word c.args.vars.now i none (omega arith))) ∙ c.loop-var.invariant.known)

pub loop-var-preserved : goal.loop-var-preserved
loop-var-preserved g c =
    rests_step _ _ _ _ _ _ _ _ c.loop-var.invariant (variables_more c.args.word c.args.vars.now c.loop-var.var-index _ (omega arith)) (prints_more _ _ _ _ _ _ c.say.ensures c.variable.ensures)

pub returns : goal.returns
returns g c = rests_end _ _ _ _ _ c.loop-var.invariant (at_drop_all (declarations_tokens c.args.word) c.args.vars.now c.loop-var.var-index (omega arith))
