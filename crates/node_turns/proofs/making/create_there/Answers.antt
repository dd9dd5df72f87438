use Rattle.std.proofs.Common.{sym, subst, refl, ap, ◌∙◌, ◌<◌, ◌^◌, ◌-◌, ℕ, List, get_or}
use Rattle.code_semantics.specs.Kinds.{Kind}
use Rattle.mesh_semantics.specs.Requests.{posts_request}
use Rattle.mesh_of_code.specs.Coded.{kind_of}
use Rattle.node_state.specs.NodeOf.{NodeOf}
use Rattle.node_turns.proofs.CreateStep.{there_full, there_made, class_name}
use Rattle.node_turns.proofs.making.create_there.Goals as goal

pub returns-then-no_cell : goal.returns-then-no_cell
returns-then-no_cell c = λ q. there_full c.args.plan.now.unit.now c.args.plan.now.placement.now c.args.plan.now.leaving c.args.parts.now c.requires.set c.args.slot c.requires.slot c.requires.kind.0 c.args.class c.requires.kind.1 c.requires.kind.2 c.args.goal c.requires.goal c.requires.other q (sym c.if-no_cell.true ∙ c.no_cell.ensures)

pub ask-number-requires-clause-asks : goal.ask-number-requires-clause-asks
ask-number-requires-clause-asks c = ap (λ (k : Kind). posts_request (kind_of k)) c.requires.kind.1

pub count_in-requires-clause-class : goal.count_in-requires-clause-class
count_in-requires-clause-class c = subst (λ (n : ℕ). c.args.class < n) (sym c.ask-number.ensures.changed.unit.made) c.requires.class

pub count_in-requires-clause-few : goal.count_in-requires-clause-few
count_in-requires-clause-few c =
    subst (λ (ks : List ℕ). get_or ks c.args.class 0 < 2 ^ 32 - 1) (sym (ap (λ (n : NodeOf). n.state.made) c.ask-number.ensures.changed.is)) c.requires.few

pub returns : goal.returns
returns c = λ q.
    there_made c.args.plan.now.unit.now c.args.plan.now.placement.now c.args.plan.now.leaving c.args.parts.now c.requires.set c.args.slot c.requires.slot c.requires.kind.0 c.args.class c.requires.kind.1 c.requires.kind.2 c.args.goal c.requires.goal c.requires.other q c.ask-number.new.self c.count_in.new.parts c.ask-number.result c.name_of-object.result _
    c.ask-number.ensures.unused c.ask-number.ensures.changed _ c.count_in.ensures refl c.name_of-object.ensures (class_name c.args.plan.now.unit.now.classes c.items.result.now c.requires.kind.0 c.args.class _ c.requires.kind.2 c.items.ensures)
    (sym c.if-no_cell.false ∙ c.no_cell.ensures)
