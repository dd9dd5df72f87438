use Rattle.std.proofs.Common.{◌≡◌, ◌++◌, drop}
use Rattle.record_writer.specs.RecordText.{record_text}
use Rattle.explore_driver.proofs.outputs.push_lines.Given as goal

abbrev pub invariant-loop-line : goal.invariant-loop-line
invariant-loop-line l = l.fn.text.items ++ record_text l.names l.lines ≡ l.text.items ++ record_text l.names (drop l.line-index l.lines)
