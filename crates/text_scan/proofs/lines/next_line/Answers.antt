use Rattle.std.proofs.Common.{arith}
use Rattle.text_scan.proofs.LineLaws.{last_line_at}
use Rattle.text_scan.proofs.lines.next_line.Goals as goal

pub returns-then-feed-bytes-clause-line : goal.returns-then-feed-bytes-clause-line
returns-then-feed-bytes-clause-line c = last_line_at _ _ _ c.run_end-feed.ensures.run (omega arith) c.if-feed-bytes.true
