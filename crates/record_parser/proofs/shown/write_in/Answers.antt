use Rattle.std.proofs.Common.{◌∷◌, sym, ap, ◌∙◌}
use Rattle.std.specs.Prelude.{option_map}
use Rattle.record_parser.specs.TextParts.{parts_left}
use Rattle.record_parser.specs.Shown.{write_of}
use Rattle.record_parser.proofs.LeadingBytes.{write_rest}
use Rattle.record_parser.proofs.shown.write_in.Goals as goal

pub returns : goal.returns
returns c =
    let first = c.cut-next.result.first.now in
    c.item_in.ensures
    ∙ sym (ap write_of (c.cut-next.ensures.parts ∙ ap (λ r. first ∷ parts_left 32 (option_map (λ t. t.now) r)) c.in_ok-left.was)
    ∙ write_rest first c.in_ok-writer.writer c.in_ok-left.left.now (sym c.in_ok-writer.ensures))
