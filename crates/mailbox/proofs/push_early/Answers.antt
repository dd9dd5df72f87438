use Rattle.std.proofs.Common.{IsErr, arith}
use Rattle.slot_queues.proofs.Laws.{on_ok}
use Rattle.mailbox.proofs.push_early.Goals as goal

pub returns : goal.returns
returns c =
    let no : IsErr c.push_back.result → ⊥ = λ q. let e = c.push_back.ensures.full.0 q in omega (arith, e, c.requires.room) in on_ok c.push_back.result _ no c.push_back.ensures.ok
