use Rattle.std.proofs.Common.{◌≡◌, ◌+◌, ◌*◌, ◌≤◌, ◌++◌, length, drop}
use Rattle.std.specs.Prelude.{take}
use Rattle.run_types.specs.Tables.{Each}
use Rattle.wire_link.specs.Bytes.{ValueFits, values_bytes}
use Rattle.wire_link.proofs.writing.put_args.Given as goal

-- the bytes so far and those of the values that are left are all; each value took at most nine
abbrev pub invariant-loop-place : goal.invariant-loop-place
invariant-loop-place l =
    record {
      bytes : l.bytes.items ++ values_bytes (drop l.place l.values) ≡ l.initial.bytes.items ++ values_bytes l.values;
      size : length l.bytes.items ≤ length l.initial.bytes.items + 9 * l.place;
      fits : Each ValueFits (take l.place l.values);
    }
