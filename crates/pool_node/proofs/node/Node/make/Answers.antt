use Rattle.std.proofs.Common.{ℕ, ◌≤◌, arith, ◌∙◌, ap, refl, sym, subst, List, [], None, replicate, length}
use Rattle.mesh_of_code.specs.Coded.{coded}
use Rattle.node_semantics.specs.Machine.{empty_node}
use Rattle.code_semantics.specs.declared.unit.ClassCode.{ClassCode}
use Rattle.pool_node.proofs.NewNode.{fresh_view, fresh_whole}
use Rattle.pool_node.proofs.NodeReport.{most_small}
use Rattle.pool_node.proofs.node.Node.make.Goals as goal
use Rattle.node_heap.specs.Heaps.{HeapOf}
use Rattle.node_state.specs.declared.state.NodeParts.{NodeParts}

pub make-requires-clause-vars : goal.make-requires-clause-vars
make-requires-clause-vars c =
    let m = most_small c.args.unit.now.classes (λ j k e. (c.requires.proper.each j k e).limits.0) in
    let e = c.most_vars_of-vars.ensures in omega (arith, m, e)

pub returns-clause-empty : goal.returns-clause-empty
returns-clause-empty c =
    let made = c.in_ok-made.ensures ∙ ap (λ (ks : List ClassCode). replicate (length ks) 0) c.items.ensures in
    let p : NodeParts = record {
      id = c.args.id;
      cells = c.args.placement.now.cells;
      heap = c.in_ok-heap.heap;
      mailbox = c.in_ok-mailbox.mailbox;
      outstanding = c.in_ok-tables.tables.outstanding;
      faults = c.in_ok-tables.tables.faults;
      goals = c.in_ok-tables.tables.goals;
      ready = c.in_ok-tables.tables.ready;
      last = None;
      made = c.in_ok-made.made;
      long = c.in_ok-long.long;
    } in
    let fresh = fresh_view c.args.unit.now p c.args.id c.args.placement.now.objects c.args.placement.now.frames _ c.in_ok-heap.ensures refl made in
    fresh ∙ (λ i. record {
      id = c.args.id;
      most_objects = c.args.placement.now.objects;
      most_frames = c.args.placement.now.frames;
      most_cells = (c.in_ok-mailbox.ensures i).cells;
      most_vars = c.most_vars_of-vars.ensures i;
      state = empty_node (coded c.args.unit.now);
      ready = [];
      long = c.in_ok-long.long;
    })

pub invariant_of-result : goal.invariant_of-result
invariant_of-result c =
    fresh_whole _ c.args.placement.now.objects (ap (λ (h : HeapOf). h.node) c.in_ok-heap.ensures) (ap (λ (h : HeapOf). h.most_objects) c.in_ok-heap.ensures)
    (ap (λ (h : HeapOf). h.objects) c.in_ok-heap.ensures) c.requires.suits.objects.1 c.requires.suits.objects.0
    (subst (λ (n : ℕ). 1 ≤ n) (sym (ap (λ (h : HeapOf). h.most_frames) c.in_ok-heap.ensures)) c.requires.suits.frames.0) c.in_ok-mailbox.ensures c.in_ok-tables.ensures.outstanding c.in_ok-tables.ensures.faults c.in_ok-tables.ensures.goals
    c.in_ok-tables.ensures.ready
