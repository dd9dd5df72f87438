use Rattle.std.proofs.Common.{◌≡◌, length, take}
use Rattle.pool_semantics.specs.Mails.{posts}
use Rattle.pool_syntax.specs.TreeOf.{program_of}
use Rattle.search_states.specs.States.{states}
use Rattle.object_moves.specs.Followed.{course}
use Rattle.object_moves.specs.Rows.{AreWithin, row}
use Rattle.object_moves.proofs.FollowedMoves.{Moves}
use Rattle.object_moves.proofs.table.MoveTable.settle_row.Given as goal

-- so far only such transitions were made
abbrev pub invariant-loop-at : goal.invariant-loop-at
invariant-loop-at l =
    record {
      grows : take (length (states l.initial.self.table)) (states l.self.table) ≡ states l.initial.self.table;
      program : l.self.program ≡ l.initial.self.program;
      within : AreWithin (states l.self.table) l.numbers.items;
      follows : Moves (program_of l.initial.self.program.now) (course l.silent) (row (states l.initial.self.table) l.initial.numbers.items (posts l.initial.messages.entries)) (row (states l.self.table) l.numbers.items (posts l.messages.entries)) l.initial.moved.items l.moved.items;
    }
