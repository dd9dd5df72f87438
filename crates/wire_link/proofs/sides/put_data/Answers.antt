use Rattle.std.proofs.Common.{arith}
use Rattle.wire_link.proofs.SideAppend.{data_put, data_full, frames_length}
use Rattle.wire_link.proofs.sides.put_data.Goals as goal

pub returns-then-is_full-clause-frames : goal.returns-then-is_full-clause-frames
returns-then-is_full-clause-frames c = let v = c.if-is_full.ensures.value in data_full c.args.frames.now.items c.args.number c.args.packet.now c.requires (grind (arith, v))

pub returns-then-is_full-clause-put : goal.returns-then-is_full-clause-put
returns-then-is_full-clause-put c = let v = c.if-is_full.ensures.value in let l = frames_length c.args.frames.now.items c.requires in grind (arith, v, l)

pub returns-clause-frames : goal.returns-clause-frames
returns-clause-frames c =
    let v = c.if-is_full.ensures.value in let w = c.if-is_full.ensures.fits in
    (data_put c.args.frames.now.items c.write_data.new.frames.items c.args.number c.args.packet.now c.requires (grind (arith, v, w)) c.write_data.ensures.items c.write_data.ensures.fits).0

pub returns-clause-kept : goal.returns-clause-kept
returns-clause-kept c =
    let v = c.if-is_full.ensures.value in let w = c.if-is_full.ensures.fits in
    (data_put c.args.frames.now.items c.write_data.new.frames.items c.args.number c.args.packet.now c.requires (grind (arith, v, w)) c.write_data.ensures.items c.write_data.ensures.fits).1

pub returns-clause-put : goal.returns-clause-put
returns-clause-put c = let v = c.if-is_full.ensures.value in let w = c.if-is_full.ensures.fits in let l = frames_length c.args.frames.now.items c.requires in grind (arith, v, w, l)
