use Rattle.std.proofs.Common.{sym, subst}
use Rattle.cell_pool.specs.Lists.{Pool}
use Rattle.node_heap.specs.declared.cells.FrameCell.{FrameCell}
use Rattle.node_heap.specs.Parts.{IsHeap}
use Rattle.node_heap.proofs.HeapAbstraction.{in_queues, full, none_free, pushed_kept, pushed_put}
use Rattle.node_heap.proofs.heap.Heap.push_frame.Goals as goal
use Rattle.node_heap.proofs.heap.Heap.push_frame.Goals.{then-begin_frame, else-begin_frame}

pub begin_frame-requires-clause-queue : goal.begin_frame-requires-clause-queue
begin_frame-requires-clause-queue c = (in_queues c.self.inside c.self.invariant c.args.self.now c.self.view_is c.args.slot c.requires.slot).0

pub invariant_of-self : goal.invariant_of-self
invariant_of-self c =
    let h = c.self.inside in
    let P : Pool FrameCell → Type 0 = λ q. IsHeap (record h { frames = q }) in
    elim c.if-begin_frame.branch [
      | then-begin_frame w ↦
          let begun = c.begin_frame.ensures.begun w.if-begin_frame.true in pushed_kept h c.self.invariant c.args.self.now c.self.view_is c.args.slot c.requires.slot c.begin_frame.new.frames begun.0 begun.2
      | else-begin_frame w ↦ subst P (sym (c.begin_frame.ensures.same w.if-begin_frame.false)) c.self.invariant
    ]

pub returns-clause-ok : goal.returns-clause-ok
returns-clause-ok c =
    let h = c.self.inside in
    elim c.if-begin_frame.branch [
      | then-begin_frame w ↦
          let begun = c.begin_frame.ensures.begun w.if-begin_frame.true in
          rw w.result-is (pushed_put h c.self.invariant c.args.self.now c.self.view_is c.args.slot c.requires.slot c.begin_frame.new.frames begun.0 _ begun.2 begun.1)
      | else-begin_frame w ↦ rw w.result-is tt
    ]

pub returns-clause-full : goal.returns-clause-full
returns-clause-full c =
    let h = c.self.inside in
    elim c.if-begin_frame.branch [
      | then-begin_frame w ↦
          (λ err. absurd (cc (err, w.result-is)), λ all. absurd (cc (c.begin_frame.ensures.full.1 (none_free h c.self.invariant c.args.self.now c.self.view_is all), w.if-begin_frame.true)))
      | else-begin_frame w ↦
          (λ _. full h c.self.invariant c.args.self.now c.self.view_is c.begin_frame.ensures.within (c.begin_frame.ensures.full.0 w.if-begin_frame.false), λ _. w.result-is)
    ]
