use Rattle.std.proofs.Common.{refl, sym, subst, ap, ◌∙◌, get_or, ℕ, List}
use Rattle.run_types.specs.declared.types.What.TheVariants as W
use Rattle.code_semantics.specs.Kinds.{Kind}
use Rattle.mesh_semantics.specs.Requests.{posts_request}
use Rattle.mesh_of_code.specs.Coded.{kind_of}
use Rattle.node_acts.specs.ActOf.{Act}
use Rattle.node_acts.specs.NodeSteps.{IsTurned}
use Rattle.node_acts.proofs.PostStep.{call_made, call_full, room_kept, cells_kept, lacks_kept}
use Rattle.node_acts.proofs.acts.call_turn.Goals as goal

pub returns-then-lacks : goal.returns-then-lacks
returns-then-lacks c = λ q. call_full c.args.plan.now.unit.now c.args.plan.now.placement.now c.args.plan.now.leaving c.args.parts.now c.requires.set c.args.slot c.requires.slot c.args.sending.to c.args.sending.method c.args.sending.args q c.requires.kind (sym c.lacks.ensures ∙ c.if-lacks.true)

pub ask-number-requires-clause-asks : goal.ask-number-requires-clause-asks
ask-number-requires-clause-asks c = ap (λ (k : Kind). posts_request (kind_of k)) c.requires.kind

pub post-requires-clause-room : goal.post-requires-clause-room
post-requires-clause-room c = room_kept c.args.plan.now.unit.now c.args.plan.now.placement.now c.args.plan.now.leaving c.args.parts.now c.requires.set c.args.slot c.requires.slot _ refl c.ask-number.new.self c.ask-number.ensures.changed c.args.sending.to (sym c.lacks.ensures ∙ c.if-lacks.false)

pub returns : goal.returns
returns c = λ q.
    let cells = cells_kept c.args.plan.now.unit.now c.args.plan.now.placement.now c.args.plan.now.leaving c.args.parts.now c.requires.set c.args.slot c.requires.slot _ refl c.ask-number.new.self c.ask-number.ensures.changed in
    let lacks = lacks_kept c.args.plan.now.unit.now c.args.plan.now.placement.now c.args.plan.now.leaving c.args.parts.now c.requires.set c.args.slot c.requires.slot _ refl c.ask-number.new.self c.ask-number.ensures.changed c.args.sending.to (sym c.lacks.ensures ∙ c.if-lacks.false) in
    let m = c.post.ensures c.args.plan.now.placement.now c.args.plan.now.leaving cells lacks in
    subst (λ (act : Act). IsTurned c.args.plan.now.unit.now c.args.plan.now.placement.now q c.args.plan.now.leaving act c.args.parts.now c.post.new.parts c.args.slot) (sym m.1)
    (call_made c.args.plan.now.unit.now c.args.plan.now.placement.now c.args.plan.now.leaving c.args.parts.now c.requires.set c.args.slot c.requires.slot c.args.sending.to c.args.sending.method c.args.sending.args q c.ask-number.new.self c.post.new.parts (W.PostCall c.name_of-from.result c.args.sending.to c.args.sending.method c.args.sending.args) m.0 c.name_of-from.result c.ask-number.result _ c.requires.kind
    c.ask-number.ensures.unused (ap (λ (gs : List ℕ). get_or gs c.args.slot 0) c.items.ensures) c.ask-number.ensures.changed (ap (λ o. W.PostCall o c.args.sending.to c.args.sending.method c.args.sending.args) c.name_of-from.ensures) c.name_of-from.ensures m.2)
