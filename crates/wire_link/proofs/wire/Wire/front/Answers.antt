use Rattle.std.proofs.Common.{◌∙◌, ap, sym, Option, Some}
use Rattle.std.specs.Prelude.{option_map}
use Rattle.mesh_semantics.specs.Act.{first_of}
use Rattle.wire_link.specs.declared.frame.Frame.{Frame}
use Rattle.wire_link.specs.declared.frame.Frame.TheVariants as F
use Rattle.wire_link.specs.declared.wire.Side.TheVariants as D
use Rattle.wire_link.specs.Bytes.{encoding}
use Rattle.wire_link.specs.Wires.{acks_in, frames_in}
use Rattle.wire_link.proofs.FirstFrame.{ack_front, ack_read, data_front, data_read, none_front, seen}
use Rattle.wire_link.proofs.wire.Wire.front.Goals as goal

pub returns-in-None-clause-bytes : goal.returns-in-None-clause-bytes
returns-in-None-clause-bytes c =
    ap (λ xs. option_map encoding (option_map (λ f. F.Data f.0 f.1) (first_of (frames_in xs)))) (sym (none_front c.self.inside.frames.items c.in-None.ensures))
    ∙ seen (λ (o : Option Frame). option_map encoding o) c.args.side D.Data _ c.args.self.now c.self.view_is c.in-Data.is

pub returns-in-Some-clause-bytes : goal.returns-in-Some-clause-bytes
returns-in-Some-clause-bytes c =
    data_front c.self.inside.frames.items c.in-Some.first.now c.in-Some.ensures c.self.invariant.sent_frames ∙ seen (λ (o : Option Frame). option_map encoding o) c.args.side D.Data _ c.args.self.now c.self.view_is c.in-Data.is

pub returns-in-None-clause-read : goal.returns-in-None-clause-read
returns-in-None-clause-read c =
    ap (λ xs. option_map Some (option_map (λ f. F.Data f.0 f.1) (first_of (frames_in xs)))) (sym (none_front c.self.inside.frames.items c.in-None.ensures))
    ∙ seen (λ (o : Option Frame). option_map Some o) c.args.side D.Data _ c.args.self.now c.self.view_is c.in-Data.is

pub returns-in-Some-clause-read : goal.returns-in-Some-clause-read
returns-in-Some-clause-read c =
    data_read c.self.inside.frames.items c.in-Some.first.now c.in-Some.ensures c.self.invariant.sent_frames ∙ seen (λ (o : Option Frame). option_map Some o) c.args.side D.Data _ c.args.self.now c.self.view_is c.in-Data.is

pub returns-in-None-get-clause-bytes : goal.returns-in-None-get-clause-bytes
returns-in-None-get-clause-bytes c =
    ap (λ xs. option_map encoding (option_map (λ n. F.Ack n) (first_of (acks_in xs)))) (sym (none_front c.self.inside.acks.items c.in-None-get.ensures))
    ∙ seen (λ (o : Option Frame). option_map encoding o) c.args.side D.Ack _ c.args.self.now c.self.view_is c.in-Ack.is

pub returns-in-Some-get-clause-bytes : goal.returns-in-Some-get-clause-bytes
returns-in-Some-get-clause-bytes c =
    ack_front c.self.inside.acks.items c.in-Some-get.first.now c.in-Some-get.ensures c.self.invariant.told_back ∙ seen (λ (o : Option Frame). option_map encoding o) c.args.side D.Ack _ c.args.self.now c.self.view_is c.in-Ack.is

pub returns-in-None-get-clause-read : goal.returns-in-None-get-clause-read
returns-in-None-get-clause-read c =
    ap (λ xs. option_map Some (option_map (λ n. F.Ack n) (first_of (acks_in xs)))) (sym (none_front c.self.inside.acks.items c.in-None-get.ensures))
    ∙ seen (λ (o : Option Frame). option_map Some o) c.args.side D.Ack _ c.args.self.now c.self.view_is c.in-Ack.is

pub returns-in-Some-get-clause-read : goal.returns-in-Some-get-clause-read
returns-in-Some-get-clause-read c =
    ack_read c.self.inside.acks.items c.in-Some-get.first.now c.in-Some-get.ensures c.self.invariant.told_back ∙ seen (λ (o : Option Frame). option_map Some o) c.args.side D.Ack _ c.args.self.now c.self.view_is c.in-Ack.is
