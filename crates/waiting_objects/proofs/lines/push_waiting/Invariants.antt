use Rattle.std.proofs.Common.{◌≡◌, ◌++◌, drop}
use Rattle.waiting_objects.specs.WaitsText.{waits_text}
use Rattle.waiting_objects.proofs.lines.push_waiting.Given as goal

abbrev pub invariant-loop-row : goal.invariant-loop-row
invariant-loop-row l = l.fn.text.items ++ waits_text l.names l.rows ≡ l.text.items ++ waits_text l.names (drop l.row-index l.rows)
