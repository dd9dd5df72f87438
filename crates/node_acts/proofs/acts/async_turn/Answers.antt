use Rattle.std.proofs.Common.{refl, sym, subst, ap, ◌∙◌}
use Rattle.run_types.specs.declared.types.Label.TheVariants as L
use Rattle.run_types.specs.declared.types.What.TheVariants as W
use Rattle.node_acts.specs.ActOf.{Act}
use Rattle.node_acts.specs.NodeSteps.{IsTurned}
use Rattle.node_acts.proofs.PostStep.{async_made, async_full, room_kept, cells_kept, lacks_kept}
use Rattle.node_acts.proofs.acts.async_turn.Goals as goal

pub returns-then-lacks : goal.returns-then-lacks
returns-then-lacks c = λ q. async_full c.args.plan.now.unit.now c.args.plan.now.placement.now c.args.plan.now.leaving c.args.parts.now c.requires.set c.args.slot c.requires.slot c.args.sending.to c.args.sending.method c.args.sending.args q c.requires.kind (sym c.lacks.ensures ∙ c.if-lacks.true)

pub post-requires-clause-room : goal.post-requires-clause-room
post-requires-clause-room c = room_kept c.args.plan.now.unit.now c.args.plan.now.placement.now c.args.plan.now.leaving c.args.parts.now c.requires.set c.args.slot c.requires.slot _ refl c.go_on.new.self c.go_on.ensures c.args.sending.to (sym c.lacks.ensures ∙ c.if-lacks.false)

pub returns : goal.returns
returns c = λ q.
    let cells = cells_kept c.args.plan.now.unit.now c.args.plan.now.placement.now c.args.plan.now.leaving c.args.parts.now c.requires.set c.args.slot c.requires.slot _ refl c.go_on.new.self c.go_on.ensures in
    let lacks = lacks_kept c.args.plan.now.unit.now c.args.plan.now.placement.now c.args.plan.now.leaving c.args.parts.now c.requires.set c.args.slot c.requires.slot _ refl c.go_on.new.self c.go_on.ensures c.args.sending.to (sym c.lacks.ensures ∙ c.if-lacks.false) in
    let m = c.post.ensures c.args.plan.now.placement.now c.args.plan.now.leaving cells lacks in
    subst (λ (act : Act). IsTurned c.args.plan.now.unit.now c.args.plan.now.placement.now q c.args.plan.now.leaving act c.args.parts.now c.post.new.parts c.args.slot) (sym m.1)
    (async_made c.args.plan.now.unit.now c.args.plan.now.placement.now c.args.plan.now.leaving c.args.parts.now c.requires.set c.args.slot c.requires.slot c.args.sending.to c.args.sending.method c.args.sending.args q c.go_on.new.self c.post.new.parts c.step-room.result m.0 c.name_of-from.result c.requires.kind c.go_on.ensures
    (c.step-room.ensures ∙ ap (λ o. W.Step (L.Send o c.args.sending.to c.args.sending.method c.args.sending.args) 1) c.name_of-from.ensures) c.name_of-from.ensures m.2)
