use Rattle.std.proofs.Common.{◌∙◌, arith, get_or}
use Rattle.pool_syntax.specs.declared.tree.Named.{Named}
use Rattle.type_check.specs.CheckerScopes.{scope_of}
use Rattle.std.proofs.lemmas.List.{get_or_default}
use Rattle.type_check.proofs.StatementParts.{name_noted}
use Rattle.type_check.proofs.statements.each_answer_name.Goals as goal

pub loop-i-preserved : goal.loop-i-preserved
loop-i-preserved c =
    let ns = c.args.names.now.list.now in
    let n : Named = get_or ns c.loop-i.i (record { name = record { 0 = 0 }; pos = 0 }) in
    name_noted (scope_of c.args.scope.now) ns c.loop-i.i n c.is_before-again.result c.loop-i.first c.answer_name.new.first (omega arith) (get_or_default ns c.loop-i.i _ n (omega arith)) c.is_before-again.ensures c.answer_name.ensures
    ∙ c.loop-i.invariant
