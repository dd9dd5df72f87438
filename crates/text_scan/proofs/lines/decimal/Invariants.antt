use Rattle.std.proofs.Common.{◌≡◌, ◌≤◌, drop}
use Rattle.text_scan.specs.Text.{value_of_digits}
use Rattle.text_scan.proofs.lines.decimal.Given as goal

-- the digits passed so far and those to come spell the word's number
abbrev pub invariant-loop-byte : goal.invariant-loop-byte
invariant-loop-byte l = record {
  small : l.value ≤ 9223372036854775807;
  whole : value_of_digits l.value (drop l.byte-index l.word) ≡ value_of_digits 0 l.word;
}
