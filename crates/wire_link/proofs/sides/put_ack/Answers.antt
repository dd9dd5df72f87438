use Rattle.std.proofs.Common.{arith}
use Rattle.wire_link.proofs.SideAppend.{ack_put, ack_full, acks_length}
use Rattle.wire_link.proofs.sides.put_ack.Goals as goal

pub returns-then-is_full-clause-acks : goal.returns-then-is_full-clause-acks
returns-then-is_full-clause-acks c = let v = c.if-is_full.ensures.value in ack_full c.args.acks.now.items c.args.number c.requires (grind (arith, v))

pub returns-then-is_full-clause-put : goal.returns-then-is_full-clause-put
returns-then-is_full-clause-put c = let v = c.if-is_full.ensures.value in let l = acks_length c.args.acks.now.items c.requires in grind (arith, v, l)

pub returns-clause-acks : goal.returns-clause-acks
returns-clause-acks c =
    let v = c.if-is_full.ensures.value in let w = c.if-is_full.ensures.fits in
    (ack_put c.args.acks.now.items c.write_ack.new.frames.items c.args.number c.requires (grind (arith, v, w)) c.write_ack.ensures.items c.write_ack.ensures.fits).0

pub returns-clause-kept : goal.returns-clause-kept
returns-clause-kept c =
    let v = c.if-is_full.ensures.value in let w = c.if-is_full.ensures.fits in
    (ack_put c.args.acks.now.items c.write_ack.new.frames.items c.args.number c.requires (grind (arith, v, w)) c.write_ack.ensures.items c.write_ack.ensures.fits).1

pub returns-clause-put : goal.returns-clause-put
returns-clause-put c = let v = c.if-is_full.ensures.value in let w = c.if-is_full.ensures.fits in let l = acks_length c.args.acks.now.items c.requires in grind (arith, v, w, l)
