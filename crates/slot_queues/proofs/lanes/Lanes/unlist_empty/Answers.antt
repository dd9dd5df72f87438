use Rattle.std.proofs.Common.{rules, ◌==◌, ℕ, Bool, Some, None, arith}
use Rattle.std.proofs.lemmas.Option.{slice_get_within}
use Rattle.cell_pool.specs.Lists.{list_of}
use Rattle.cell_pool.proofs.Laws.{first_is_position}
use Rattle.slot_queues.proofs.Waiting.{found_in, held_slot, still_listed, gone_listed, is_there}
use Rattle.slot_queues.proofs.lanes.Lanes.unlist_empty.Goals as goal

pub returns-then-len-gt0-clause-listed : goal.returns-then-len-gt0-clause-listed
returns-then-len-gt0-clause-listed c = still_listed c.args.self.now c.args.queue c.args.to c.requires (omega (arith, c.if-len-gt0.true, c.len.ensures))

pub position-requires-clause-exists : goal.position-requires-clause-exists
position-requires-clause-exists c = held_slot c.args.self.now c.args.queue c.args.to c.requires

pub remove-requires : goal.remove-requires
remove-requires c =
    let l = c.args.self.now in let xs = list_of l.waiting c.args.to in let p : ℕ → Bool = λ j. j == c.args.queue in
    let at = found_in c.args.queue xs c.in-Some.place (first_is_position p xs (Some c.in-Some.place) c.in-Some.ensures (λ x b told. search rules)) in
    (held_slot l c.args.queue c.args.to c.requires, slice_get_within xs c.in-Some.place c.args.queue at)

pub returns-in-Some-clause-listed : goal.returns-in-Some-clause-listed
returns-in-Some-clause-listed c =
    let l = c.args.self.now in let xs = list_of l.waiting c.args.to in let p : ℕ → Bool = λ j. j == c.args.queue in
    let at = found_in c.args.queue xs c.in-Some.place (first_is_position p xs (Some c.in-Some.place) c.in-Some.ensures (λ x b told. search rules)) in
    gone_listed l c.args.queue c.args.to c.requires c.remove.new.self c.in-Some.place (omega (arith, c.if-len-gt0.false, c.len.ensures)) at c.remove.ensures.lists

pub returns-in-None-clause-listed : goal.returns-in-None-clause-listed
returns-in-None-clause-listed c =
    let l = c.args.self.now in let xs = list_of l.waiting c.args.to in let p : ℕ → Bool = λ j. j == c.args.queue in
    absurd (is_there l c.args.queue c.args.to c.requires (first_is_position p xs None c.in-None.ensures (λ x b told. search rules)))
