use Rattle.std.proofs.Common.{◌≡◌, ◌<◌, length, arith, refl}
use Rattle.slot_queues.specs.Mail.{box_of}
use Rattle.mailbox.proofs.Front.{most, total, early_room, behind_room, slot_early, slot_behind, post_early_front, post_early_view, post_behind_front, post_behind_view, space}
use Rattle.mailbox.proofs.Mailbox.post.Goals as goal

pub returns-then-self-eq0-clause-full : goal.returns-then-self-eq0-clause-full
returns-then-self-eq0-clause-full c =
    let i = c.self.inside in (λ _. omega (arith, total i.early i.behind i.free i.cells c.self.invariant c.args.self.now c.self.view_is, most i.early i.behind i.free i.cells c.self.invariant c.args.self.now c.self.view_is, c.self.invariant.sum), λ _. refl)

pub is_early-requires-clause-early : goal.is_early-requires-clause-early
is_early-requires-clause-early c =
    let i = c.self.inside in slot_early i.early i.behind i.free i.cells c.self.invariant c.args.self.now c.self.view_is c.args.to c.requires

pub is_early-requires-clause-behind : goal.is_early-requires-clause-behind
is_early-requires-clause-behind c =
    let i = c.self.inside in slot_behind i.early i.behind i.free i.cells c.self.invariant c.args.self.now c.self.view_is c.args.to c.requires

pub push_early-requires-clause-slot : goal.push_early-requires-clause-slot
push_early-requires-clause-slot c =
    let i = c.self.inside in slot_early i.early i.behind i.free i.cells c.self.invariant c.args.self.now c.self.view_is c.args.to c.requires

pub push_early-requires-clause-room : goal.push_early-requires-clause-room
push_early-requires-clause-room c =
    let i = c.self.inside in let some : 0 < i.free = omega (arith, c.if-self-eq0.false) in early_room i.early i.behind i.free i.cells c.self.invariant c.args.self.now c.self.view_is some

pub invariant_of-self : goal.invariant_of-self
invariant_of-self c =
    let i = c.self.inside in let some : 0 < i.free = omega (arith, c.if-self-eq0.false) in post_early_front i.early i.behind i.free i.cells c.self.invariant c.args.self.now c.self.view_is c.args.to c.requires c.args.message c.push_early.new.early some c.push_early.ensures

pub returns-then-is_early-clause-full : goal.returns-then-is_early-clause-full
returns-then-is_early-clause-full c =
    let i = c.self.inside in let some : 0 < i.free = omega (arith, c.if-self-eq0.false) in (λ no. absurd (cc), λ full. absurd (space i.early i.behind i.free i.cells c.self.invariant c.args.self.now c.self.view_is some full))

pub returns-then-is_early-clause-ok : goal.returns-then-is_early-clause-ok
returns-then-is_early-clause-ok c =
    let i = c.self.inside in let none : length (box_of i.behind c.args.to) ≡ 0 = c.is_early.ensures c.if-is_early.true in post_early_view i.early i.behind i.free i.cells c.self.invariant c.args.self.now c.self.view_is c.args.to c.requires c.args.message c.push_early.new.early none c.push_early.ensures

pub push-requires-clause-slot : goal.push-requires-clause-slot
push-requires-clause-slot c =
    let i = c.self.inside in slot_behind i.early i.behind i.free i.cells c.self.invariant c.args.self.now c.self.view_is c.args.to c.requires

pub push-requires-clause-room : goal.push-requires-clause-room
push-requires-clause-room c =
    let i = c.self.inside in let some : 0 < i.free = omega (arith, c.if-self-eq0.false) in behind_room i.early i.behind i.free i.cells c.self.invariant c.args.self.now c.self.view_is some

pub invariant_of-self-2 : goal.invariant_of-self-2
invariant_of-self-2 c =
    let i = c.self.inside in let some : 0 < i.free = omega (arith, c.if-self-eq0.false) in post_behind_front i.early i.behind i.free i.cells c.self.invariant c.args.self.now c.self.view_is c.args.to c.requires c.args.message c.push.new.self some c.push.ensures

pub returns-clause-full : goal.returns-clause-full
returns-clause-full c =
    let i = c.self.inside in let some : 0 < i.free = omega (arith, c.if-self-eq0.false) in (λ no. absurd (cc), λ full. absurd (space i.early i.behind i.free i.cells c.self.invariant c.args.self.now c.self.view_is some full))

pub returns-clause-ok : goal.returns-clause-ok
returns-clause-ok c =
    let i = c.self.inside in post_behind_view i.early i.behind i.free i.cells c.self.invariant c.args.self.now c.self.view_is c.args.to c.requires c.args.message c.push.new.self c.push.ensures
