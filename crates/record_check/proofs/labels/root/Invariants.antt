use Rattle.std.proofs.Common.{◌≡◌, drop}
use Rattle.mesh_semantics.specs.Record.{labels}
use Rattle.record_check.specs.RecordJudgement.{first_agent, root}
use Rattle.record_check.proofs.labels.root.Given as goal

-- no line so far has a label
abbrev pub invariant-loop-line : goal.invariant-loop-line
invariant-loop-line l = first_agent (labels (drop l.line-index l.lines)) ≡ root l.lines
