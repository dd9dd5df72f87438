use Rattle.std.proofs.Common.{◌≡◌, ◌+◌, false, length, get_or, take, sym, ap, ◌∙◌, subst}
use Rattle.run_types.specs.declared.types.NameId.{NameId}
use Rattle.slot_queues.specs.Mail.{is_named}
use Rattle.node_state.specs.LongAnswers.{AreEachOnce}
use Rattle.node_state.proofs.FewNames.{appended, too_many}
use Rattle.node_state.proofs.long.different.Goals as goal

pub returns-then-items-eq-FEW : goal.returns-then-items-eq-FEW
returns-then-items-eq-FEW c =
    let i = c.loop-name.invariant in let names = c.args.names.now in let k = c.loop-name.name-index in let d : NameId = record { 0 = 0 } in
    let new : is_named c.loop-name.once (get_or names k d) ≡ false = ap (λ (ns : _). is_named ns (get_or names k d)) (sym c.items.ensures) ∙ sym c.contains.ensures.value ∙ c.if-contains.false in
    too_many c.loop-name.once names k d c.loop-name-test.true i.same i.each new (ap length (sym c.items-in-loop-name.ensures) ∙ c.if-items-eq-FEW.true)

pub loop-name-preserved : goal.loop-name-preserved
loop-name-preserved c =
    let i = c.loop-name.invariant in let names = c.args.names.now in let k = c.loop-name.name-index in let d : NameId = record { 0 = 0 } in
    let new : is_named c.loop-name.once (get_or names k d) ≡ false = ap (λ (ns : _). is_named ns (get_or names k d)) (sym c.items.ensures) ∙ sym c.contains.ensures.value ∙ c.if-contains.false in
    subst (λ ns. AreEachOnce ns (take (k + 1) names)) (sym c.in-Ok.ensures.ok)
    (appended c.loop-name.once names k d c.loop-name-test.true i.same i.each new i.few (λ full. c.if-items-eq-FEW.false (ap length c.items-in-loop-name.ensures ∙ full)))
