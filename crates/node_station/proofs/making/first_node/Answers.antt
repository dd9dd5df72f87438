use Rattle.std.proofs.Common.{◌≡◌, List, sym, ap, subst, ◌∙◌}
use Rattle.run_types.specs.declared.types.Place.{Place}
use Rattle.run_types.specs.declared.types.Placement.{Placement}
use Rattle.mesh_semantics.specs.Record.{last_place, root_node}
use Rattle.node_state.specs.NodeOf.{NodeOf}
use Rattle.node_state.specs.OfUnit.{IsOfPlacement}
use Rattle.node_station.specs.Parts.{IsFirst}
use Rattle.node_station.proofs.FirstNodes.{empty_first, root_first}
use Rattle.node_station.proofs.making.first_node.Goals as goal
use Rattle.node_station.proofs.making.first_node.Goals.{then-root-id, else-root-id}

pub returns : goal.returns
returns c =
    let l = c.args.table.now in
    let root : root_node (last_place l.places) ≡ c.root_of-root.result =
    sym (c.root_of-root.ensures ∙ ap (λ (ps : List Place). root_node (last_place ps)) (c.items.ensures ∙ ap (λ (p : Placement). p.places) c.placement-placement.ensures)) in
    let placed : IsOfPlacement c.args.unit.now l c.in_ok-node.node = subst (λ (p : Placement). IsOfPlacement c.args.unit.now p c.in_ok-node.node) c.placement-placement.ensures c.in_ok-node.ensures.placement in
    let id = ap (λ (n : NodeOf). n.id) c.in_ok-node.ensures.empty in
    let state = ap (λ (n : NodeOf). n.state) c.in_ok-node.ensures.empty in
    elim c.if-root-id.branch [
      | then-root-id w ↦ subst (IsFirst c.args.unit.now l c.args.id) (sym w.node-is)
          (root_first c.args.unit.now l c.args.id c.requires.id c.in_ok-node.node w.start_root.new.self w.start_root.ensures.root.0 id w.start_root.ensures.unit placed state w.start_root.ensures.root.1 w.start_root.ensures.root.2 (root ∙ w.if-root-id.true))
      | else-root-id w ↦ subst (IsFirst c.args.unit.now l c.args.id) (sym w.node-is)
          (empty_first c.args.unit.now l c.args.id c.requires.id c.in_ok-node.node id c.in_ok-node.ensures.unit placed state (λ e. w.if-root-id.false (sym root ∙ e)))
    ]
