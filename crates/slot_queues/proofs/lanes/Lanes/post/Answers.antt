use Rattle.std.proofs.Common.{◌<◌, [], ◌∷◌, ◌++◌, length, refl, sym, ap, subst, arith}
use Rattle.cell_pool.specs.Lists.{Pool, list_of}
use Rattle.slot_queues.specs.declared.lanes.Stamped.{Stamped}
use Rattle.slot_queues.specs.Lanes.{shared}
use Rattle.slot_queues.specs.Posted.{stamped}
use Rattle.slot_queues.specs.Waiting.{IsListed}
use Rattle.slot_queues.proofs.Waiting.{posted, listed_late}
use Rattle.slot_queues.proofs.lanes.Lanes.post.Goals as goal

pub list_first-requires : goal.list_first-requires
list_first-requires c =
    let l = c.args.self.now in let r = c.in-Some.ensures in let slot : c.args.to < length l.waiting.lists = omega (arith, c.requires.slot, c.requires.listed.slots) in
    posted l _ c.in-Some.queue c.args.to (stamped l c.args.to c.args.message) c.requires.listed r.2 slot refl r.3 (ap (λ (p : Pool Stamped). p.lists) c.in-Ok.ensures.ok) refl refl

pub returns-in-Ok-push_back-clause-listed : goal.returns-in-Ok-push_back-clause-listed
returns-in-Ok-push_back-clause-listed c =
    let l = c.args.self.now in let q = c.late-late.result in
    subst (λ (p : Pool Stamped). IsListed (shared l.cells) p.lists l.waiting) (sym c.in-Ok-push_back.ensures.ok)
    (listed_late (shared l.cells) l.pool.lists l.waiting q (list_of l.pool q ++ stamped l c.args.to c.args.message ∷ []) (omega (arith, c.late-late.ensures)) c.requires.listed)
