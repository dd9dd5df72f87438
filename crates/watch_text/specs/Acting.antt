-- The words of arguments, and of a message.
use Rattle.std.specs.Prelude.{List, ◌∷◌, codes, map}
use Rattle.text_scan.specs.Text.{Text}
use Rattle.record_writer.specs.RecordText.{led, value_text}
use Rattle.run_types.specs.Message.{Message}
use Rattle.run_types.specs.Table.{text_at}
use Rattle.stepper_terms.specs.declared.contexts.Operand.{Operand}
use Rattle.stepper_terms.specs.Reduced.{values}

-- the values of operands
abbrev pub values_text : List Operand → Text
values_text vs = led (map value_text (values vs))

-- a message
abbrev pub message_text : List Text → Message → Text
message_text names m = led (codes ":" ∷ text_at names m.method ∷ map value_text m.args)
