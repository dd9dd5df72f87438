use Rattle.pool_semantics.specs.Mails.{posts}
use Rattle.pool_syntax.specs.TreeOf.{program_of}
use Rattle.search_laws.specs.Tried.{Stays}
use Rattle.search_states.specs.States.{states}
use Rattle.object_moves.specs.Followed.{course}
use Rattle.object_moves.specs.Rows.{row}
use Rattle.object_moves.proofs.FollowedMoves.{moves_nothing}
use Rattle.object_moves.proofs.table.MoveTable.settle_new.Goals as goal

pub returns-in_default-clause-follows : goal.returns-in_default-clause-follows
returns-in_default-clause-follows c = λ _.
    let from = row (states c.args.self.now.table) c.args.numbers.now.items (posts c.args.messages.now.entries) in
    moves_nothing (program_of c.args.self.now.program.now) (course c.args.silent) from from c.args.moved.now.items Stays

pub returns-in-New-clause-grows : goal.returns-in-New-clause-grows
returns-in-New-clause-grows c = c.settle_object.ensures.grows

pub returns-in-New-clause-program : goal.returns-in-New-clause-program
returns-in-New-clause-program c = c.settle_object.ensures.program

pub returns-in-New-clause-within : goal.returns-in-New-clause-within
returns-in-New-clause-within c = c.settle_object.ensures.within

pub returns-in-New-clause-follows : goal.returns-in-New-clause-follows
returns-in-New-clause-follows c = c.settle_object.ensures.follows
