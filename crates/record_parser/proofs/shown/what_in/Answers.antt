use Rattle.std.proofs.Common.{◌∷◌, sym, ap, ◌∙◌}
use Rattle.std.specs.Prelude.{option_map}
use Rattle.record_parser.specs.Fields.{parts}
use Rattle.record_parser.specs.TextParts.{parts_left}
use Rattle.record_parser.specs.Shown.{what_of}
use Rattle.record_parser.proofs.LeadingBytes.{parts_length, what_more}
use Rattle.record_parser.proofs.shown.what_in.Goals as goal

pub returns-in-Some : goal.returns-in-Some
returns-in-Some c =
    let first = c.cut-next.result.first.now in
    let left = c.in-Some.left.now in
    c.shown_by.ensures
    ∙ sym (ap what_of (c.cut-next.ensures.parts ∙ ap (λ r. first ∷ parts_left 32 (option_map (λ t. t.now) r)) c.in-Some.is) ∙ what_more first (parts 32 left) (parts_length 32 left))
