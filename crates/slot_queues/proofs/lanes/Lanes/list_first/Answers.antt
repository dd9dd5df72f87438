use Rattle.std.proofs.Common.{◌≡◌, [], length, get_or, IsErr, sym, ◌∙◌, arith}
use Rattle.slot_queues.proofs.Counts.{on_ok}
use Rattle.slot_queues.proofs.Waiting.{first_room, first_listed, more_listed}
use Rattle.slot_queues.proofs.lanes.Lanes.list_first.Goals as goal

pub returns-then-len-eq1-clause-listed : goal.returns-then-len-eq1-clause-listed
returns-then-len-eq1-clause-listed c =
    let l = c.args.self.now in let one : length (get_or l.pool.lists c.args.queue []) ≡ 1 = sym c.len.ensures ∙ c.if-len-eq1.true in
    let no : IsErr c.push_back.result → ⊥ = λ f. let full = c.push_back.ensures.full.0 f in omega (arith, full, first_room l c.args.queue c.args.to c.requires one) in
    first_listed l c.args.queue c.args.to c.requires c.push_back.new.self one (on_ok c.push_back.result _ no c.push_back.ensures.ok)

pub returns-else-len-eq1-clause-listed : goal.returns-else-len-eq1-clause-listed
returns-else-len-eq1-clause-listed c = more_listed c.args.self.now c.args.queue c.args.to c.requires (λ e. c.if-len-eq1.false (c.len.ensures ∙ e))
