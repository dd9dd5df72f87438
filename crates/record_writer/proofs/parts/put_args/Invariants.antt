use Rattle.std.proofs.Common.{◌≡◌, ◌+◌, ◌*◌, ◌≤◌, ◌++◌, length, map, drop}
use Rattle.record_writer.specs.RecordText.{led, value_text}
use Rattle.record_writer.proofs.parts.put_args.Given as goal

-- the text so far and the arguments that are left are the text of all; each took at most 21 bytes
abbrev pub invariant-loop-place : goal.invariant-loop-place
invariant-loop-place l =
    record {
      text : l.text.items ++ led (map value_text (drop l.place l.values)) ≡ l.initial.text.items ++ led (map value_text l.values);
      size : length l.text.items ≤ length l.initial.text.items + 21 * l.place;
    }
