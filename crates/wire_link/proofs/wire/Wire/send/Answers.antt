use Rattle.std.proofs.Common.{◌≡◌, ◌+◌, ◌-◌, sym, ap, subst, ◌∙◌, Some, None}
use Rattle.std.specs.Prelude.{slice_get}
use Rattle.run_types.specs.declared.types.What.TheVariants as W
use Rattle.mesh_semantics.specs.KeptWire.{KeptWire, kept_send}
use Rattle.rendezvous_protocol.specs.declared.packet.Packet.{Packet}
use Rattle.wire_link.specs.Wires.{IsWanted, told_of}
use Rattle.wire_link.proofs.WiresMemory.{sent_is, unsent_is, sent_on}
use Rattle.wire_link.proofs.wire.Wire.send.Goals as goal

pub returns-in-Some : goal.returns-in-Some
returns-in-Some c =
    let w = c.self.inside in let place = c.args.number - w.acked in
    let at : slice_get c.keep.new.copies.items place ≡ Some c.in-Some.packet.now = sym c.in-Some.ensures in
    ap (λ (z : KeptWire Packet). kept_send c.args.number c.args.fresh z) (sym c.self.view_is) ∙
    sent_is w.handed w.acked w.next w.sent w.copies.items w.frames.items w.acks.items c.self.invariant c.args.number c.args.fresh c.later-self-inside.result c.keep.new.copies.items c.launch.new.frames.items
    (told_of c.args.number c.launch.result) c.in-Some.packet.now c.keep.ensures c.later-self-inside.ensures at c.launch.ensures.told c.launch.ensures.frames

pub invariant_of-self : goal.invariant_of-self
invariant_of-self c =
    let w = c.self.inside in let place = c.args.number - w.acked in
    let at : slice_get c.keep.new.copies.items place ≡ Some c.in-Some.packet.now = sym c.in-Some.ensures in
    let asked = subst (λ (z : KeptWire Packet). IsWanted z c.args.number c.args.fresh) (sym c.self.view_is) c.requires.wanted in
    sent_on w.handed w.acked w.next w.sent w.copies.items w.frames.items w.acks.items c.self.invariant c.args.number c.args.fresh asked (c.args.number + 1) c.later-self-inside.result
    c.keep.new.copies.items c.launch.new.frames.items (told_of c.args.number c.launch.result) c.launch.ensures.kept
    (sent_is w.handed w.acked w.next w.sent w.copies.items w.frames.items w.acks.items c.self.invariant c.args.number c.args.fresh c.later-self-inside.result c.keep.new.copies.items c.launch.new.frames.items
    (told_of c.args.number c.launch.result) c.in-Some.packet.now c.keep.ensures c.later-self-inside.ensures at c.launch.ensures.told c.launch.ensures.frames)

pub returns-in-None : goal.returns-in-None
returns-in-None c =
    let w = c.self.inside in let place = c.args.number - w.acked in
    let at : slice_get c.keep.new.copies.items place ≡ None = sym c.in-None.ensures in
    ap (λ (z : KeptWire Packet). kept_send c.args.number c.args.fresh z) (sym c.self.view_is) ∙
    unsent_is w.handed w.acked w.next w.sent w.copies.items w.frames.items w.acks.items c.self.invariant c.args.number c.args.fresh c.later-self-inside.result c.keep.new.copies.items c.keep.ensures
    c.later-self-inside.ensures at

pub invariant_of-self-in-None : goal.invariant_of-self-in-None
invariant_of-self-in-None c =
    let w = c.self.inside in let place = c.args.number - w.acked in
    let at : slice_get c.keep.new.copies.items place ≡ None = sym c.in-None.ensures in
    let asked = subst (λ (z : KeptWire Packet). IsWanted z c.args.number c.args.fresh) (sym c.self.view_is) c.requires.wanted in
    sent_on w.handed w.acked w.next w.sent w.copies.items w.frames.items w.acks.items c.self.invariant c.args.number c.args.fresh asked (c.args.number + 1) c.later-self-inside.result
    c.keep.new.copies.items w.frames.items (W.Lost c.args.number) c.self.invariant.sent_frames
    (unsent_is w.handed w.acked w.next w.sent w.copies.items w.frames.items w.acks.items c.self.invariant c.args.number c.args.fresh c.later-self-inside.result c.keep.new.copies.items c.keep.ensures
    c.later-self-inside.ensures at)
