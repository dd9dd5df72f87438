use Rattle.std.proofs.Common.{◌∷◌, sym, ap, ◌∙◌}
use Rattle.std.specs.Prelude.{option_map}
use Rattle.record_parser.specs.Fields.{parts}
use Rattle.record_parser.specs.TextParts.{parts_left}
use Rattle.record_parser.specs.Lines.{end_of}
use Rattle.record_parser.proofs.LeadingBytes.{five_words, parts_length}
use Rattle.record_parser.proofs.line.full_in.Goals as goal

pub returns-in-Some : goal.returns-in-Some
returns-in-Some c =
    let a = c.args.full.now in
    let b = c.args.kind.now in
    let n = c.args.node.now in
    let last = c.cut-last.result.first.now in
    let more = c.in-Some.field-0.now in
    sym
    (ap (λ ps. end_of (a ∷ b ∷ n ∷ ps)) (c.cut-last.ensures.parts ∙ ap (λ r. last ∷ parts_left 32 (option_map (λ t. t.now) r)) c.in-Some.is)
    ∙ five_words a b n last (parts 32 more) (parts_length 32 more))
