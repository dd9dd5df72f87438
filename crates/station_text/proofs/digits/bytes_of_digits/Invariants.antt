use Rattle.std.proofs.Common.{◌≡◌, ◌+◌, ◌*◌, ◌≤◌, length}
use Rattle.station_text.specs.Digits.{bytes_of_digits}
use Rattle.station_text.proofs.DigitPairs.{with_rest}
use Rattle.station_text.proofs.digits.bytes_of_digits.Given as goal

abbrev pub invariant-pairs : goal.invariant-pairs
invariant-pairs l = record {
  few : 2 * length l.bytes.items + length l.rest ≤ 208;
  read : with_rest l.bytes.items l.rest ≡ bytes_of_digits l.word;
}

abbrev pub decreases-pairs : goal.decreases-pairs
decreases-pairs l = length l.rest
