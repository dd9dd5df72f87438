use Rattle.std.proofs.Common.{◌≡◌, ◌+◌, [], replicate, sym, ap, ◌∙◌, subst}
use Rattle.cell_pool.specs.Lists.{Pool}
use Rattle.slot_queues.specs.declared.lanes.Stamped.{Stamped}
use Rattle.slot_queues.specs.Lanes.{shared, boxes_in, IsKept}
use Rattle.slot_queues.specs.Mail.{mail}
use Rattle.slot_queues.proofs.Empty.{blanks, boxes_blank, kept_blank}
use Rattle.slot_queues.proofs.queues.Queues.make.Goals as goal

pub invariant_of-result : goal.invariant_of-result
invariant_of-result c =
    let l = c.in_ok-lanes.lanes in let e = c.in_ok-lanes.ensures.empty in let lists : l.pool.lists ≡ blanks (shared c.args.cells + c.args.objects) = ap (λ (p : Pool Stamped). p.lists) e.0 in (
      (ap (λ (p : Pool Stamped). p.cells) e.0 ∙ sym e.1, c.in_ok-lanes.ensures.listed),
      subst (λ z. IsKept z l.cells l.next c.args.objects) (sym lists)
          (subst (λ z. IsKept (blanks (shared c.args.cells + c.args.objects)) z l.next c.args.objects) (sym e.1)
          (subst (λ z. IsKept (blanks (shared c.args.cells + c.args.objects)) c.args.cells z c.args.objects) (sym e.2) (kept_blank c.args.cells c.args.objects))),
    )

pub returns : goal.returns
returns c =
    let l = c.in_ok-lanes.lanes in let e = c.in_ok-lanes.ensures.empty in let lists : l.pool.lists ≡ blanks (shared c.args.cells + c.args.objects) = ap (λ (p : Pool Stamped). p.lists) e.0 in
    ap (λ z. mail (boxes_in z (shared l.cells) c.args.objects) l.pool.cells) lists
    ∙ ap (λ z. mail z l.pool.cells) (boxes_blank (shared l.cells) (shared c.args.cells + c.args.objects) c.args.objects)
    ∙ ap (λ z. mail (replicate c.args.objects []) z) (ap (λ (p : Pool Stamped). p.cells) e.0)
