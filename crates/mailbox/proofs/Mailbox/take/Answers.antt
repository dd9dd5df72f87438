use Rattle.std.proofs.Common.{ℕ, ◌-◌, ◌<◌, ◌≤◌, [], length, get_or, remove, slice_get, sym, ap, ◌∙◌, subst, arith}
use Rattle.slot_queues.specs.Mail.{box_of, with_box}
use Rattle.mailbox.proofs.Front.{slot_early, slot_behind, more_free, take_early_front, take_early_message, take_early_view, take_behind_place, take_behind_front, take_behind_message, take_behind_view}
use Rattle.mailbox.proofs.Mailbox.take.Goals as goal

pub len-early-requires : goal.len-early-requires
len-early-requires c =
    let i = c.self.inside in slot_early i.early i.behind i.free i.cells c.self.invariant c.args.self.now c.self.view_is c.args.to c.requires.0

pub overflow_add-self : goal.overflow_add-self
overflow_add-self c =
    let i = c.self.inside in record { fits = more_free i.early i.behind i.free i.cells c.self.invariant c.args.self.now c.self.view_is c.args.to c.requires.0 (omega (arith, c.requires.1)) }

pub invariant_of-self : goal.invariant_of-self
invariant_of-self c =
    let i = c.self.inside in let within : c.args.place < length (get_or i.early.lists c.args.to []) = subst (λ (n : ℕ). c.args.place < n) c.len-early.ensures c.if-place-early.true in take_early_front i.early i.behind i.free i.cells c.self.invariant c.args.self.now c.self.view_is c.args.to c.requires.0 c.args.place within c.remove.new.self c.remove.ensures.lists

pub returns-then-place-early-clause-message : goal.returns-then-place-early-clause-message
returns-then-place-early-clause-message c =
    let i = c.self.inside in let within : c.args.place < length (get_or i.early.lists c.args.to []) = subst (λ (n : ℕ). c.args.place < n) c.len-early.ensures c.if-place-early.true in take_early_message i.early i.behind i.free i.cells c.self.invariant c.args.self.now c.self.view_is c.args.to c.requires.0 c.args.place within c.remove.result c.remove.ensures.value

pub returns-then-place-early-clause-boxes : goal.returns-then-place-early-clause-boxes
returns-then-place-early-clause-boxes c =
    let i = c.self.inside in let within : c.args.place < length (get_or i.early.lists c.args.to []) = subst (λ (n : ℕ). c.args.place < n) c.len-early.ensures c.if-place-early.true in take_early_view i.early i.behind i.free i.cells c.self.invariant c.args.self.now c.self.view_is c.args.to c.requires.0 c.args.place within c.remove.new.self c.remove.ensures.lists

pub take-requires : goal.take-requires
take-requires c =
    let i = c.self.inside in let beyond : length (get_or i.early.lists c.args.to []) ≤ c.args.place = omega (arith, sym c.len-early.ensures) in (slot_behind i.early i.behind i.free i.cells c.self.invariant c.args.self.now c.self.view_is c.args.to c.requires.0, subst (λ (n : ℕ). c.args.place - n < length (box_of i.behind c.args.to)) (sym c.len-early.ensures) (take_behind_place i.early i.behind i.free i.cells c.self.invariant c.args.self.now c.self.view_is c.args.to c.requires.0 c.args.place beyond c.requires.1))

pub invariant_of-self-2 : goal.invariant_of-self-2
invariant_of-self-2 c =
    let i = c.self.inside in let beyond : length (get_or i.early.lists c.args.to []) ≤ c.args.place = omega (arith, sym c.len-early.ensures) in take_behind_front i.early i.behind i.free i.cells c.self.invariant c.args.self.now c.self.view_is c.args.to c.requires.0 c.args.place beyond c.take.new.self c.requires.1 (c.take.ensures.boxes ∙ ap (λ (n : ℕ). with_box i.behind c.args.to (remove (box_of i.behind c.args.to) (c.args.place - n))) c.len-early.ensures)

pub returns-clause-message : goal.returns-clause-message
returns-clause-message c =
    let i = c.self.inside in let beyond : length (get_or i.early.lists c.args.to []) ≤ c.args.place = omega (arith, sym c.len-early.ensures) in take_behind_message i.early i.behind i.free i.cells c.self.invariant c.args.self.now c.self.view_is c.args.to c.requires.0 c.args.place beyond c.take.result (ap (λ (n : ℕ). slice_get (box_of i.behind c.args.to) (c.args.place - n)) (sym c.len-early.ensures) ∙ c.take.ensures.message)

pub returns-clause-boxes : goal.returns-clause-boxes
returns-clause-boxes c =
    let i = c.self.inside in let beyond : length (get_or i.early.lists c.args.to []) ≤ c.args.place = omega (arith, sym c.len-early.ensures) in take_behind_view i.early i.behind i.free i.cells c.self.invariant c.args.self.now c.self.view_is c.args.to c.requires.0 c.args.place beyond c.take.new.self (c.take.ensures.boxes ∙ ap (λ (n : ℕ). with_box i.behind c.args.to (remove (box_of i.behind c.args.to) (c.args.place - n))) c.len-early.ensures)
