use Rattle.std.proofs.Common.{ap, sym}
use Rattle.mesh_semantics.specs.Act.{first_of}
use Rattle.wire_link.specs.Wires.{frames_in}
use Rattle.wire_link.proofs.FirstFrame.{data_first, none_front}
use Rattle.wire_link.proofs.sides.first_data.Goals as goal

pub returns-in-None : goal.returns-in-None
returns-in-None c = ap (λ xs. first_of (frames_in xs)) (sym (none_front c.args.frames.now.items c.in-None.ensures))

pub returns-in-Some : goal.returns-in-Some
returns-in-Some c = data_first c.args.frames.now.items c.in-Some.first.now c.in-Some.ensures c.requires c.decode.result c.data_of.result c.decode.ensures c.data_of.ensures
