use Rattle.std.proofs.Common.{◌≡◌, ◌∙◌, ◌++◌, ◌∷◌, ℕ, List, ap₂, subst}
use Rattle.std.specs.Prelude.{OnOk}
use Rattle.wire_link.specs.Bytes.{number_bytes}
use Rattle.station_frames.specs.Bytes.{encoding}
use Rattle.station_text.specs.Pieces.{piece_bytes}
use Rattle.station_text.proofs.pieces.push_frame_piece.Goals as goal

pub returns : goal.returns
returns c =
    let first : c.try_extend_from_slice.new.self.items ≡ number_bytes c.args.to = c.in-Ok.ensures.ok ∙ ap₂ (λ (xs ys : List ℕ). xs ++ ys) c.new-bytes.ensures c.to_be_bytes.ensures in
    let frame : c.as_slice.result.now ≡ encoding c.args.run c.args.frame.now = c.as_slice.ensures.value ∙ c.encode.ensures.items in
    let same : c.as_slice-2.result.now ≡ number_bytes c.args.to ++ encoding c.args.run c.args.frame.now =
    c.as_slice-2.ensures.value ∙ c.in-Ok-try_extend_from_slice.ensures.ok ∙ ap₂ (λ (xs ys : List ℕ). xs ++ ys) first frame in
    subst (λ (bs : List ℕ). OnOk c.push_piece.result (c.push_piece.new.text.items ≡ c.args.text.now.items ++ piece_bytes (2 ∷ bs))) same c.push_piece.ensures
