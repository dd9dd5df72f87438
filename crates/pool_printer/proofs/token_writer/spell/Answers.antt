use Rattle.std.proofs.Common.{◌≡◌, ap, sym, ◌∙◌, ◌++◌, rules}
use Rattle.std.specs.Fmt.{signed_decimal}
use Rattle.pool_printer.specs.Known.{is_known}
use Rattle.pool_printer.specs.Spelling.{spelling, quote}
use Rattle.pool_printer.proofs.SeparatedParts.{known_name, text_known}
use Rattle.pool_printer.proofs.SequentialOutput.{puts_append, puts_same}
use Rattle.pool_printer.proofs.token_writer.spell.Goals as goal

pub text-requires-in-Name : goal.text-requires-in-Name
text-requires-in-Name g c = known_name c.args.names.now c.in-Name.name.0 (ap (is_known c.args.names.now) (sym c.in-Name.is) ∙ c.requires)

pub text-requires-in-Str : goal.text-requires-in-Str
text-requires-in-Str g c = known_name c.args.names.now c.in-Str.text.0 (ap (is_known c.args.names.now) (sym c.in-Str.is) ∙ c.requires)

pub returns-in-Word-clause-text : goal.returns-in-Word-clause-text
returns-in-Word-clause-text g c = puts_same _ _ _ _ (c.text.ensures ∙ ap (spelling c.args.names.now) (sym c.in-Word.is)) c.put.ensures.text

pub returns-in-Name-clause-text : goal.returns-in-Name-clause-text
returns-in-Name-clause-text g c =
    puts_same _ _ _ _ (sym (text_known c.args.names.now c.in-Name.name.0 _ c.text-in-Name.ensures) ∙ ap (spelling c.args.names.now) (sym c.in-Name.is)) c.put-in-Name.ensures.text

pub returns-in-Int-clause-text : goal.returns-in-Int-clause-text
returns-in-Int-clause-text g c =
    let printed : c.as_bytes.result.now ≡ signed_decimal c.in-Int.value = search rules in
    puts_same _ _ _ _ (printed ∙ ap (spelling c.args.names.now) (sym c.in-Int.is)) c.put-in-Int.ensures.text

pub returns-in-Str-clause-text : goal.returns-in-Str-clause-text
returns-in-Str-clause-text g c =
    let inside = text_known c.args.names.now c.in-Str.text.0 _ c.text-in-Str.ensures in
    puts_same _ _ _ _ (ap (λ w. quote ++ (w ++ quote)) (sym inside) ∙ ap (spelling c.args.names.now) (sym c.in-Str.is))
    (puts_append _ _ _ _ _ c.put-in-Str.ensures.text (puts_append _ _ _ _ _ c.put-in-Str-2.ensures.text c.put-in-Str-3.ensures.text))

pub returns-in-Sign-clause-text : goal.returns-in-Sign-clause-text
returns-in-Sign-clause-text g c = puts_same _ _ _ _ (c.text-in-Sign.ensures ∙ ap (spelling c.args.names.now) (sym c.in-Sign.is)) c.put-in-Sign.ensures.text

pub returns-in-End-clause-text : goal.returns-in-End-clause-text
returns-in-End-clause-text g c = puts_same _ _ _ _ (ap (spelling c.args.names.now) (sym c.in-End.is)) c.put-in-End.ensures.text
