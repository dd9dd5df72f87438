use Rattle.std.proofs.Common.{sym, ap, ◌∙◌, arith}
use Rattle.run_types.proofs.Laws.{differ}
use Rattle.run_types.specs.declared.types.Label.TheVariants as L
use Rattle.run_types.specs.declared.types.What.TheVariants as W
use Rattle.node_acts.proofs.ReturnStep.{return_here, return_away, return_full}
use Rattle.node_acts.proofs.acts.return_turn.Goals as goal

pub end_method-requires-clause-returns : goal.end_method-requires-clause-returns
end_method-requires-clause-returns c = (c.args.returning.caller, c.args.returning.number, c.args.returning.value, c.requires.kind)

pub end_method-requires-2-clause-returns : goal.end_method-requires-2-clause-returns
end_method-requires-2-clause-returns c = (c.args.returning.caller, c.args.returning.number, c.args.returning.value, c.requires.kind)

pub returns-then-node_of-parts : goal.returns-then-node_of-parts
returns-then-node_of-parts c = λ q.
    return_here c.args.plan.now.unit.now c.args.plan.now.placement.now c.args.plan.now.leaving c.args.parts.now c.requires.set c.args.slot c.requires.slot c.args.returning.caller c.args.returning.number c.args.returning.value c.requires.kind q c.end_method.new.self c.settle_if_out.new.parts c.step-room.result (omega arith) c.end_method.ensures c.settle_if_out.ensures
    (c.step-room.ensures ∙ ap (λ o. W.Step (L.Return o c.args.returning.caller c.args.returning.value) 1) c.name_of-receiver.ensures)

pub returns-then-no_cell : goal.returns-then-no_cell
returns-then-no_cell c = λ q. return_full c.args.plan.now.unit.now c.args.plan.now.placement.now c.args.plan.now.leaving c.args.parts.now c.requires.set c.args.slot c.requires.slot c.args.returning.caller c.args.returning.number c.args.returning.value c.requires.kind q (differ _ _ (λ e. c.if-node_of-parts.false (c.node_of.ensures.node ∙ e))) (sym c.if-no_cell.true ∙ c.no_cell.ensures)

pub returns : goal.returns
returns c = λ q.
    return_away c.args.plan.now.unit.now c.args.plan.now.placement.now c.args.plan.now.leaving c.args.parts.now c.requires.set c.args.slot c.requires.slot c.args.returning.caller c.args.returning.number c.args.returning.value c.requires.kind q c.end_method-2.new.self c.step-room-2.result (differ _ _ (λ e. c.if-node_of-parts.false (c.node_of.ensures.node ∙ e))) c.end_method-2.ensures (sym c.if-no_cell.false ∙ c.no_cell.ensures)
    (c.step-room-2.ensures ∙ ap (λ o. W.Step (L.Return o c.args.returning.caller c.args.returning.value) 1) c.name_of-receiver.ensures)
