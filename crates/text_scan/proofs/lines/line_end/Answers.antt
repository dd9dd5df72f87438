use Rattle.std.proofs.Common.{arith}
use Rattle.text_scan.proofs.LineLaws.{line_fed_at, line_empty_at, line_returned_at}
use Rattle.text_scan.proofs.lines.line_end.Goals as goal
use Rattle.text_scan.proofs.lines.line_end.Goals.{else-from-feed-via-then-from-feed+else-bytes-feed-eq13, else-from-feed-via-else-from-feed}

pub returns-then-bytes-feed-eq13-clause-line : goal.returns-then-bytes-feed-eq13-clause-line
returns-then-bytes-feed-eq13-clause-line c = line_returned_at _ _ _ c.requires.first c.if-from-feed.true c.requires.fed c.if-bytes-feed-eq13.true

pub returns-clause-line : goal.returns-clause-line
returns-clause-line c = elim c.else-from-feed.branch [
  | else-from-feed-via-then-from-feed+else-bytes-feed-eq13 w ↦ line_fed_at _ _ _ c.requires.first w.if-from-feed.true c.requires.fed w.if-bytes-feed-eq13.false
  | else-from-feed-via-else-from-feed w ↦ line_empty_at _ _ _ c.requires.first (omega arith) c.requires.fed
]
