use Rattle.std.proofs.Common.{◌≡◌, drop}
use Rattle.text_scan.specs.Text.{every}
use Rattle.text_scan.specs.ByteSets.{is_in}
use Rattle.text_scan.proofs.scan.all_in.Given as goal

-- each byte so far passes
abbrev pub invariant-loop-byte : goal.invariant-loop-byte
invariant-loop-byte l = every (is_in l.set) (drop l.byte-index l.bytes) ≡ every (is_in l.set) l.bytes
