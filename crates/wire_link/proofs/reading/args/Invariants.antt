use Rattle.std.proofs.Common.{◌≡◌, ◌-◌, length}
use Rattle.wire_link.specs.Bytes.{read_values}
use Rattle.wire_link.proofs.ByteConcatenation.{in_front}
use Rattle.wire_link.proofs.reading.args.Given as goal

-- the values so far and those that are read of what is left are all
abbrev pub invariant-loop : goal.invariant-loop
invariant-loop l =
    record {
      made : length l.args ≡ l.counter;
      values : in_front l.args (read_values (l.count - l.counter) l.left) ≡ read_values l.count l.initial.left;
    }
