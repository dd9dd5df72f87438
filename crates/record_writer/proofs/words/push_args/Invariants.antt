use Rattle.std.proofs.Common.{◌≡◌, ◌++◌, map, drop}
use Rattle.record_writer.specs.RecordText.{led, value_text}
use Rattle.record_writer.proofs.words.push_args.Given as goal

-- the text so far and the arguments that are left are the text of all
abbrev pub invariant-loop-value : goal.invariant-loop-value
invariant-loop-value l =
    l.text.items ++ led (map value_text (drop l.value-index l.values)) ≡ l.initial.text.items ++ led (map value_text l.values)
