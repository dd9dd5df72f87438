use Rattle.std.proofs.Common.{◌∙◌, ap, sym}
use Rattle.mesh_semantics.specs.Wire.{coming_in}
use Rattle.mesh_semantics.specs.KeptWire.{kept_coming}
use Rattle.wire_link.specs.Wires.{arrived_of, frames_in}
use Rattle.wire_link.proofs.FirstFrame.{data_comes, none_front}
use Rattle.wire_link.proofs.wire.Wire.peek.Goals as goal

pub returns-in-None : goal.returns-in-None
returns-in-None c =
    let w = c.self.inside in
    ap (λ fs. arrived_of (coming_in w.handed (frames_in fs))) (sym (none_front w.frames.items c.in-None.ensures)) ∙ ap (λ v. arrived_of (kept_coming v)) c.self.view_is

pub returns-in-Some : goal.returns-in-Some
returns-in-Some c =
    let w = c.self.inside in
    c.coming.ensures ∙ data_comes w.frames.items c.in-Some.first.now c.in-Some.ensures c.self.invariant.sent_frames w.handed c.decode.result c.decode.ensures
    ∙ ap (λ v. arrived_of (kept_coming v)) c.self.view_is
