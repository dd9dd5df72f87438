use Rattle.std.proofs.Common.{◌≡◌, ◌+◌, [], replicate, sym, ap, ◌∙◌, subst}
use Rattle.cell_pool.specs.Lists.{pool}
use Rattle.slot_queues.specs.Lanes.{shared}
use Rattle.slot_queues.specs.Waiting.{IsListed}
use Rattle.slot_queues.proofs.Waiting.{listed_none}
use Rattle.slot_queues.proofs.lanes.Lanes.make.Goals as goal

pub returns-clause-listed : goal.returns-clause-listed
returns-clause-listed c =
    let n = shared c.args.cells in let same = c.shared_count-queues.ensures in
    let queues : c.in_ok-pool.pool ≡ pool (replicate (n + c.args.objects) []) c.args.cells = c.in_ok-pool.ensures ∙ ap (λ z. pool (replicate (z + c.args.objects) []) c.args.cells) same in
    let waiting : c.in_ok-waiting.waiting ≡ pool (replicate c.args.objects []) n = c.in_ok-waiting.ensures ∙ ap (λ z. pool (replicate c.args.objects []) z) same in
    subst (λ z. IsListed n z.lists c.in_ok-waiting.waiting) (sym queues) (subst (λ z. IsListed n (replicate (n + c.args.objects) []) z) (sym waiting) (listed_none n c.args.objects))
