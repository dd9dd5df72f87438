use Rattle.std.proofs.Common.{refl, ap, ◌∙◌, set}
use Rattle.cell_pool.specs.Lists.{list_of, with_list}
use Rattle.node_heap.proofs.HeapAbstraction.{over_front}
use Rattle.node_heap.proofs.heap.begin_frame.Goals as goal

pub returns-clause-begun : goal.returns-clause-begun
returns-clause-begun c _ =
    let p = c.args.frames.now in let q = c.args.queue in let new = c.begin.new.self in let u = c.if-not-push_front_reusing.ensures.pushed refl in
    (new, c.begin.ensures, ap (λ f. with_list f q (set (list_of f q) 0 new)) u.1 ∙ over_front p q u.0 new c.requires.queue)
