use Rattle.std.proofs.Common.{◌≡◌, drop}
use Rattle.record_check.specs.RecordJudgement.{first_agent}
use Rattle.stream_check.specs.FillProgress.{own_labels}
use Rattle.stream_check.proofs.fill_lines.first_object.Given as goal

-- no line so far shows a transition that is not local
abbrev pub invariant-loop-line : goal.invariant-loop-line
invariant-loop-line l = first_agent (own_labels (drop l.line-index l.lines)) ≡ first_agent (own_labels l.lines)
