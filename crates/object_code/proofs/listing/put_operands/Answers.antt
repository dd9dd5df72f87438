use Rattle.std.proofs.Common.{sym, ap, ◌∙◌, rules}
use Rattle.std.specs.Fmt.{signed_decimal}
use Rattle.object_code.specs.Listing.{alternatives_text, operands_text, spaced_text, word_text}
use Rattle.object_code.proofs.SequentialWrites.{same}
use Rattle.object_code.proofs.listing.put_operands.Goals as goal

pub returns-in-PushInt : goal.returns-in-PushInt
returns-in-PushInt g c = same _ _ _ _ (ap (λ z. word_text (signed_decimal z)) (search rules) ∙ ap (operands_text c.args.names.now) (sym c.in-PushInt.is)) c.put_integer.ensures

pub returns-in-PushBool : goal.returns-in-PushBool
returns-in-PushBool g c = same _ _ _ _ (ap word_text c.truth.ensures ∙ ap (operands_text c.args.names.now) (sym c.in-PushBool.is)) c.put_word.ensures

pub returns-in-Oper : goal.returns-in-Oper
returns-in-Oper g c = same _ _ _ _ (ap word_text c.operator.ensures ∙ ap (operands_text c.args.names.now) (sym c.in-Oper.is)) c.put_word-in-Oper.ensures

pub returns-in-WriteText : goal.returns-in-WriteText
returns-in-WriteText g c = same _ _ _ _ (ap (operands_text c.args.names.now) (sym c.in-WriteText.is)) c.put_quoted.ensures

pub returns-in-Answer : goal.returns-in-Answer
returns-in-Answer g c = same _ _ _ _ (ap (spaced_text c.args.names.now) c.items.ensures ∙ ap (operands_text c.args.names.now) (sym c.in-Answer.is)) c.put_spaced.ensures

pub returns-in-Select : goal.returns-in-Select
returns-in-Select g c = same _ _ _ _ (ap (alternatives_text c.args.names.now) c.items-in-Select.ensures ∙ ap (operands_text c.args.names.now) (sym c.in-Select.is)) c.put_alternatives.ensures
