use Rattle.std.proofs.Common.{◌≡◌, ◌++◌, drop}
use Rattle.station_text.specs.Digits.{digits_of_bytes}
use Rattle.station_text.proofs.digits.push_digits.Given as goal

abbrev pub invariant-loop-byte : goal.invariant-loop-byte
invariant-loop-byte l = l.text.items ++ digits_of_bytes (drop l.byte-index l.bytes) ≡ l.initial.text.items ++ digits_of_bytes l.bytes
