use Rattle.std.proofs.Common.{◌≤◌, length}
use Rattle.test_parts.proofs.mailboxes.are_answered.Given as goal

abbrev pub invariant-loop-row : goal.invariant-loop-row
invariant-loop-row l = 2 ≤ length l.mailbox.boxes
