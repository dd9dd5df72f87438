use Rattle.std.proofs.Common.{refl, ap, [], ◌∷◌, Ok}
use Rattle.pool_semantics.specs.Mails.{posts}
use Rattle.pool_syntax.specs.TreeOf.{program_of}
use Rattle.search_laws.specs.Tried.{Stays}
use Rattle.search_states.specs.States.{states}
use Rattle.object_moves.specs.Followed.{HasMoved, course}
use Rattle.object_moves.specs.Known.{parcel_label}
use Rattle.object_moves.specs.Rows.{row}
use Rattle.object_moves.proofs.LeadResults.{failed_not, not_true}
use Rattle.object_moves.proofs.FollowedMoves.{moved_one, moves_more, moves_nothing, parcel_changes}
use Rattle.object_moves.proofs.FollowedRows.{send_followed}
use Rattle.object_moves.proofs.StateGrowth.{all_of}
use Rattle.object_moves.proofs.table.MoveTable.settle_send.Goals as goal

pub returns-in_ok-push-in-Ok-Made-clause-follows : goal.returns-in_ok-push-in-Ok-Made-clause-follows
returns-in_ok-push-in-Ok-Made-clause-follows c = λ _ s.
    let p = program_of c.args.self.now.program.now in
    let from = row (states c.args.self.now.table) c.args.numbers.now.items (posts c.args.messages.now.entries) in
    let to = row (states c.make_mail.new.self.table) c.make_mail.new.numbers.items (posts c.make_mail.new.messages.entries) in
    let o = c.args.object in
    let a = c.in-Some.act in
    let os = c.args.moved.now.items in
    let k = course s in
    let l = parcel_label o a in
    let moved : HasMoved (l ∷ []) os c.push.new.self.items = moved_one l os c.push.new.self.items o (parcel_changes o a) c.in_ok-push-in-Ok-Made.ensures.items in
    moves_more p k from from to os os c.push.new.self.items l (moves_nothing p k from from os Stays) (send_followed s o a c.if-act.false) (c.in-Ok-Made.ensures.made (ap Ok c.in-Ok-Made.field-0-is)) moved

pub returns-in_default-clause-grows : goal.returns-in_default-clause-grows
returns-in_default-clause-grows c = all_of (states c.args.self.now.table)

pub returns-in_default-clause-program : goal.returns-in_default-clause-program
returns-in_default-clause-program c = refl

pub returns-in_default-clause-within : goal.returns-in_default-clause-within
returns-in_default-clause-within c = c.requires.within

pub returns-then-act-clause-grows : goal.returns-then-act-clause-grows
returns-then-act-clause-grows c = all_of (states c.args.self.now.table)

pub returns-then-act-clause-program : goal.returns-then-act-clause-program
returns-then-act-clause-program c = refl

pub returns-then-act-clause-within : goal.returns-then-act-clause-within
returns-then-act-clause-within c = c.requires.within

pub returns-in-Ok-Unknown-clause-grows : goal.returns-in-Ok-Unknown-clause-grows
returns-in-Ok-Unknown-clause-grows c = c.make_mail.ensures.grows

pub returns-in-Ok-Unknown-clause-program : goal.returns-in-Ok-Unknown-clause-program
returns-in-Ok-Unknown-clause-program c = c.make_mail.ensures.program

pub returns-in-Ok-Impossible-clause-grows : goal.returns-in-Ok-Impossible-clause-grows
returns-in-Ok-Impossible-clause-grows c = c.make_mail.ensures.grows

pub returns-in-Ok-Impossible-clause-program : goal.returns-in-Ok-Impossible-clause-program
returns-in-Ok-Impossible-clause-program c = c.make_mail.ensures.program

pub returns-in_err-push-in-Ok-Made-clause-grows : goal.returns-in_err-push-in-Ok-Made-clause-grows
returns-in_err-push-in-Ok-Made-clause-grows c = c.make_mail.ensures.grows

pub returns-in_err-push-in-Ok-Made-clause-program : goal.returns-in_err-push-in-Ok-Made-clause-program
returns-in_err-push-in-Ok-Made-clause-program c = c.make_mail.ensures.program

pub returns-in_ok-push-in-Ok-Made-clause-grows : goal.returns-in_ok-push-in-Ok-Made-clause-grows
returns-in_ok-push-in-Ok-Made-clause-grows c = c.make_mail.ensures.grows

pub returns-in_ok-push-in-Ok-Made-clause-program : goal.returns-in_ok-push-in-Ok-Made-clause-program
returns-in_ok-push-in-Ok-Made-clause-program c = c.make_mail.ensures.program

pub returns-in-Err-clause-grows : goal.returns-in-Err-clause-grows
returns-in-Err-clause-grows c = c.make_mail.ensures.grows

pub returns-in-Err-clause-program : goal.returns-in-Err-clause-program
returns-in-Err-clause-program c = c.make_mail.ensures.program

pub returns-in-Ok-Unknown-clause-within : goal.returns-in-Ok-Unknown-clause-within
returns-in-Ok-Unknown-clause-within c = c.in-Ok-Unknown.ensures.within

pub returns-in-Ok-Impossible-clause-within : goal.returns-in-Ok-Impossible-clause-within
returns-in-Ok-Impossible-clause-within c = c.in-Ok-Impossible.ensures.within

pub returns-in_ok-push-in-Ok-Made-clause-within : goal.returns-in_ok-push-in-Ok-Made-clause-within
returns-in_ok-push-in-Ok-Made-clause-within c = c.in-Ok-Made.ensures.within

pub returns-in-Err-clause-within : goal.returns-in-Err-clause-within
returns-in-Err-clause-within c = tt

pub returns-in_default-clause-follows : goal.returns-in_default-clause-follows
returns-in_default-clause-follows c = λ told. absurd (not_true _ refl told)

pub returns-then-act-clause-follows : goal.returns-then-act-clause-follows
returns-then-act-clause-follows c = λ told. absurd (not_true _ refl told)

pub returns-in-Ok-Unknown-clause-follows : goal.returns-in-Ok-Unknown-clause-follows
returns-in-Ok-Unknown-clause-follows c = λ told. absurd (not_true _ refl told)

pub returns-in-Ok-Impossible-clause-follows : goal.returns-in-Ok-Impossible-clause-follows
returns-in-Ok-Impossible-clause-follows c = λ told. absurd (not_true _ refl told)

pub returns-in-Err-clause-follows : goal.returns-in-Err-clause-follows
returns-in-Err-clause-follows c = λ told. absurd (failed_not _ refl told)
