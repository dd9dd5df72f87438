use Rattle.std.proofs.Common.{refl, ap, subst, ◌∙◌, Ok}
use Rattle.pool_semantics.specs.Mails.{posts}
use Rattle.pool_syntax.specs.Terms.{ProgramTree}
use Rattle.pool_syntax.specs.TreeOf.{program_of}
use Rattle.search_laws.specs.Tried.{Stays}
use Rattle.search_states.specs.States.{states}
use Rattle.object_moves.specs.Followed.{course}
use Rattle.object_moves.specs.Rows.{row}
use Rattle.object_moves.proofs.LeadResults.{failed_not, not_true}
use Rattle.object_moves.proofs.FollowedMoves.{Moves, moves_both, moves_nothing}
use Rattle.object_moves.proofs.StateGrowth.{all_of, front_of_front}
use Rattle.object_moves.proofs.table.MoveTable.settle_row.Goals as goal

pub loop-at-init : goal.loop-at-init
loop-at-init c =
    let from = row (states c.args.self.now.table) c.args.numbers.now.items (posts c.args.messages.now.entries) in
    record {
      grows = all_of (states c.args.self.now.table);
      program = refl;
      within = c.requires.within;
      follows =
          moves_nothing (program_of c.args.self.now.program.now) (course c.args.silent) from from c.args.moved.now.items Stays;
    }

pub loop-at-preserved : goal.loop-at-preserved
loop-at-preserved c =
    let l = c.loop-at in
    let p = program_of c.args.self.now.program.now in
    let k = course c.args.silent in
    let from = row (states c.args.self.now.table) c.args.numbers.now.items (posts c.args.messages.now.entries) in
    let mid = row (states l.self.table) l.numbers.items (posts l.messages.entries) in
    let to = row (states c.settle_object.new.self.table) c.settle_object.new.numbers.items (posts c.settle_object.new.messages.entries) in
    let told = c.in-Ok-true.ensures in
    let os = c.args.moved.now.items in
    let qs = l.moved.items in
    let rs = c.settle_object.new.moved.items in
    let more : Moves p k mid to qs rs = subst (λ (q : ProgramTree). Moves q k mid to qs rs) (ap (λ r. program_of r.now) l.invariant.program) (told.follows (ap Ok c.in-Ok-true.field-0-test)) in
    record {
      grows = front_of_front (states c.args.self.now.table) (states l.self.table) (states c.settle_object.new.self.table) l.invariant.grows told.grows;
      program = told.program ∙ l.invariant.program;
      within = told.within;
      follows = moves_both p k from mid to os qs rs l.invariant.follows more;
    }

pub returns-in_default-clause-grows : goal.returns-in_default-clause-grows
returns-in_default-clause-grows c = c.loop-at.invariant.grows

pub returns-in_default-clause-program : goal.returns-in_default-clause-program
returns-in_default-clause-program c = c.loop-at.invariant.program

pub returns-in_default-clause-within : goal.returns-in_default-clause-within
returns-in_default-clause-within c = c.loop-at.invariant.within

pub returns-in_default-clause-follows : goal.returns-in_default-clause-follows
returns-in_default-clause-follows c = λ _. c.loop-at.invariant.follows

pub returns-in-Ok-false-clause-grows : goal.returns-in-Ok-false-clause-grows
returns-in-Ok-false-clause-grows c = front_of_front (states c.args.self.now.table) (states c.loop-at.self.table) (states c.settle_object.new.self.table) c.loop-at.invariant.grows c.settle_object.ensures.grows

pub returns-in-Ok-false-clause-program : goal.returns-in-Ok-false-clause-program
returns-in-Ok-false-clause-program c = c.settle_object.ensures.program ∙ c.loop-at.invariant.program

pub returns-in-Err-clause-grows : goal.returns-in-Err-clause-grows
returns-in-Err-clause-grows c = front_of_front (states c.args.self.now.table) (states c.loop-at.self.table) (states c.settle_object.new.self.table) c.loop-at.invariant.grows c.settle_object.ensures.grows

pub returns-in-Err-clause-program : goal.returns-in-Err-clause-program
returns-in-Err-clause-program c = c.settle_object.ensures.program ∙ c.loop-at.invariant.program

pub returns-in-Ok-false-clause-within : goal.returns-in-Ok-false-clause-within
returns-in-Ok-false-clause-within c = c.in-Ok-false.ensures.within

pub returns-in-Err-clause-within : goal.returns-in-Err-clause-within
returns-in-Err-clause-within c = tt

pub returns-clause-grows : goal.returns-clause-grows
returns-clause-grows c = c.loop-at.invariant.grows

pub returns-clause-program : goal.returns-clause-program
returns-clause-program c = c.loop-at.invariant.program

pub returns-clause-within : goal.returns-clause-within
returns-clause-within c = c.loop-at.invariant.within

pub returns-in-Ok-false-clause-follows : goal.returns-in-Ok-false-clause-follows
returns-in-Ok-false-clause-follows c = λ told. absurd (not_true _ refl told)

pub returns-in-Err-clause-follows : goal.returns-in-Err-clause-follows
returns-in-Err-clause-follows c = λ told. absurd (failed_not _ refl told)
