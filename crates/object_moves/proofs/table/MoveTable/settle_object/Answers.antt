use Rattle.std.proofs.Common.{◌≡◌, sym, ap, subst, ◌∙◌, ℕ, List, [], ◌∷◌, Ok, Some, Bool, refl}
use Rattle.std.specs.Option.{IfSome}
use Rattle.run_types.specs.Message.{Message}
use Rattle.run_types.specs.Tables.{Pair}
use Rattle.pool_semantics.specs.Mails.{posts}
use Rattle.pool_syntax.specs.Terms.{ProgramTree}
use Rattle.pool_syntax.specs.TreeOf.{program_of}
use Rattle.pool_relation.specs.Action.{Object}
use Rattle.pool_relation.specs.Transition.{transition}
use Rattle.search_laws.specs.Tried.{Follows}
use Rattle.search_states.specs.States.{states}
use Rattle.object_moves.specs.Followed.{HasMoved, course}
use Rattle.object_moves.specs.Known.{duo_label, solo_label}
use Rattle.object_moves.specs.Rows.{row}
use Rattle.object_moves.proofs.LeadResults.{failed_not, not_true}
use Rattle.object_moves.proofs.FollowedMoves.{Moves, caller_changes, moved_one, moved_two, moves_both, moves_more, moves_nothing, receiver_changes, solo_changes}
use Rattle.object_moves.proofs.FollowedRows.{return_followed}
use Rattle.object_moves.proofs.StateGrowth.{front_of_front}
use Rattle.object_moves.proofs.table.MoveTable.settle_object.Goals as goal

-- the local transitions are followed under both courses, whatever messages wait
abbrev Rests : ProgramTree → List Object → List ℕ → List Object → List ℕ → Type 0
Rests p xs ns ys ks = (s : Bool) (ms : List (Pair × List Message)) → Follows p (course s) (row xs ns ms) (row ys ks ms)

pub returns-in_ok-push-in-Ok-Made-clause-follows : goal.returns-in_ok-push-in-Ok-Made-clause-follows
returns-in_ok-push-in-Ok-Made-clause-follows c = λ _.
    let p = program_of c.args.self.now.program.now in
    let k = course c.args.silent in
    let ms = posts c.args.messages.now.entries in
    let xs = states c.args.self.now.table in
    let ns = c.args.numbers.now.items in
    let ys = states c.rest_in.new.self.table in
    let ks = c.rest_in.new.numbers.items in
    let from = row xs ns ms in
    let mid = row ys ks ms in
    let to = row (states c.make_one.new.self.table) c.make_one.new.numbers.items ms in
    let l = solo_label c.args.object c.in-Makes.act in
    let rests : Rests p xs ns ys ks = subst (λ r. IfSome r (λ _. Rests p xs ns ys ks)) c.in-Some.is c.in_ok-next.ensures.follows in
    let step : transition p mid l ≡ Some to =
    subst (λ (q : ProgramTree). transition q mid l ≡ Some to) (ap (λ r. program_of r.now) c.rest_in.ensures.program) (c.in-Ok-Made.ensures.made ms (ap Ok c.in-Ok-Made.field-0-is))
    in
    let os = c.args.moved.now.items in
    let qs = c.push.new.self.items in
    let moved : HasMoved (l ∷ []) os qs = moved_one l os qs c.args.object (solo_changes c.args.object c.in-Makes.act) c.in_ok-push-in-Ok-Made.ensures.items in
    moves_more p k from mid to os os qs l (moves_nothing p k from mid os (rests c.args.silent ms)) (sym (c.is_followed.ensures c.args.object) ∙ c.if-not-is_followed.false) step moved

pub returns-in_ok-push-in-Ok-Made-make_two-2-clause-follows : goal.returns-in_ok-push-in-Ok-Made-make_two-2-clause-follows
returns-in_ok-push-in-Ok-Made-make_two-2-clause-follows c = λ _.
    let p = program_of c.args.self.now.program.now in
    let k = course c.args.silent in
    let ms = posts c.args.messages.now.entries in
    let xs = states c.args.self.now.table in
    let ns = c.args.numbers.now.items in
    let ys = states c.rest_in.new.self.table in
    let ks = c.rest_in.new.numbers.items in
    let from = row xs ns ms in
    let mid = row ys ks ms in
    let to = row (states c.make_two.new.self.table) c.make_two.new.numbers.items ms in
    let l = duo_label c.args.object c.in-Returns.caller c.give.result in
    let rests : Rests p xs ns ys ks = subst (λ r. IfSome r (λ _. Rests p xs ns ys ks)) c.in-Some.is c.in_ok-next.ensures.follows in
    let step : transition p mid l ≡ Some to =
    subst (λ (q : ProgramTree). transition q mid l ≡ Some to) (ap (λ r. program_of r.now) c.rest_in.ensures.program) (c.in-Ok-Made-make_two.ensures.made (ap Ok c.in-Ok-Made-make_two.field-0-is))
    in
    let os = c.args.moved.now.items in
    let rs = c.push-in-Ok-Made-make_two-2.new.self.items in
    let moved : HasMoved (l ∷ []) os rs =
    moved_two l os c.push-in-Ok-Made-make_two.new.self.items rs c.args.object c.in-Returns.caller (receiver_changes c.args.object c.in-Returns.caller c.give.result) (caller_changes c.args.object c.in-Returns.caller c.give.result)
    c.in_ok-push-in-Ok-Made-make_two.ensures.items c.in_ok-push-in-Ok-Made-make_two-2.ensures.items
    in
    moves_more p k from mid to os os rs l (moves_nothing p k from mid os (rests c.args.silent ms)) (return_followed c.args.silent c.args.object c.in-Returns.caller c.give.result c.in-Returns.value c.give.ensures) step moved

pub returns-in-Sends-clause-follows : goal.returns-in-Sends-clause-follows
returns-in-Sends-clause-follows c = λ h.
    let p = program_of c.args.self.now.program.now in
    let k = course c.args.silent in
    let ms = posts c.args.messages.now.entries in
    let xs = states c.args.self.now.table in
    let ns = c.args.numbers.now.items in
    let ys = states c.rest_in.new.self.table in
    let ks = c.rest_in.new.numbers.items in
    let from = row xs ns ms in
    let mid = row ys ks ms in
    let to = row (states c.settle_send.new.self.table) c.settle_send.new.numbers.items (posts c.settle_send.new.messages.entries) in
    let rests : Rests p xs ns ys ks = subst (λ r. IfSome r (λ _. Rests p xs ns ys ks)) c.in-Some.is c.in_ok-next.ensures.follows in
    let os = c.args.moved.now.items in
    let qs = c.settle_send.new.moved.items in
    let more : Moves p k mid to os qs = subst (λ (q : ProgramTree). Moves q k mid to os qs) (ap (λ r. program_of r.now) c.rest_in.ensures.program) (c.settle_send.ensures.follows h c.args.silent) in
    moves_both p k from mid to os os qs (moves_nothing p k from mid os (rests c.args.silent ms)) more

pub returns-in_err-next-clause-grows : goal.returns-in_err-next-clause-grows
returns-in_err-next-clause-grows c = c.rest_in.ensures.grows

pub returns-in_err-next-clause-program : goal.returns-in_err-next-clause-program
returns-in_err-next-clause-program c = c.rest_in.ensures.program

pub returns-in_default-clause-grows : goal.returns-in_default-clause-grows
returns-in_default-clause-grows c = c.rest_in.ensures.grows

pub returns-in_default-clause-program : goal.returns-in_default-clause-program
returns-in_default-clause-program c = c.rest_in.ensures.program

pub returns-in_default-clause-within : goal.returns-in_default-clause-within
returns-in_default-clause-within c = c.in_ok-next.ensures.within

pub returns-in-Nothing-clause-grows : goal.returns-in-Nothing-clause-grows
returns-in-Nothing-clause-grows c = c.rest_in.ensures.grows

pub returns-in-Nothing-clause-program : goal.returns-in-Nothing-clause-program
returns-in-Nothing-clause-program c = c.rest_in.ensures.program

pub returns-in-Nothing-clause-within : goal.returns-in-Nothing-clause-within
returns-in-Nothing-clause-within c = c.in_ok-next.ensures.within

pub returns-then-not-is_followed-clause-grows : goal.returns-then-not-is_followed-clause-grows
returns-then-not-is_followed-clause-grows c = c.rest_in.ensures.grows

pub returns-then-not-is_followed-clause-program : goal.returns-then-not-is_followed-clause-program
returns-then-not-is_followed-clause-program c = c.rest_in.ensures.program

pub returns-then-not-is_followed-clause-within : goal.returns-then-not-is_followed-clause-within
returns-then-not-is_followed-clause-within c = c.in_ok-next.ensures.within

pub returns-in-Sends-clause-grows : goal.returns-in-Sends-clause-grows
returns-in-Sends-clause-grows c = front_of_front (states c.args.self.now.table) (states c.rest_in.new.self.table) (states c.settle_send.new.self.table) c.rest_in.ensures.grows c.settle_send.ensures.grows

pub returns-in-Sends-clause-program : goal.returns-in-Sends-clause-program
returns-in-Sends-clause-program c = c.settle_send.ensures.program ∙ c.rest_in.ensures.program

pub returns-in-Sends-clause-within : goal.returns-in-Sends-clause-within
returns-in-Sends-clause-within c = c.settle_send.ensures.within

pub returns-in-Err-clause-grows : goal.returns-in-Err-clause-grows
returns-in-Err-clause-grows c = front_of_front (states c.args.self.now.table) (states c.rest_in.new.self.table) (states c.make_one.new.self.table) c.rest_in.ensures.grows c.make_one.ensures.grows

pub returns-in-Err-clause-program : goal.returns-in-Err-clause-program
returns-in-Err-clause-program c = c.make_one.ensures.program ∙ c.rest_in.ensures.program

pub returns-in-Ok-Unknown-clause-grows : goal.returns-in-Ok-Unknown-clause-grows
returns-in-Ok-Unknown-clause-grows c = front_of_front (states c.args.self.now.table) (states c.rest_in.new.self.table) (states c.make_one.new.self.table) c.rest_in.ensures.grows c.make_one.ensures.grows

pub returns-in-Ok-Unknown-clause-program : goal.returns-in-Ok-Unknown-clause-program
returns-in-Ok-Unknown-clause-program c = c.make_one.ensures.program ∙ c.rest_in.ensures.program

pub returns-in-Ok-Impossible-clause-grows : goal.returns-in-Ok-Impossible-clause-grows
returns-in-Ok-Impossible-clause-grows c = front_of_front (states c.args.self.now.table) (states c.rest_in.new.self.table) (states c.make_one.new.self.table) c.rest_in.ensures.grows c.make_one.ensures.grows

pub returns-in-Ok-Impossible-clause-program : goal.returns-in-Ok-Impossible-clause-program
returns-in-Ok-Impossible-clause-program c = c.make_one.ensures.program ∙ c.rest_in.ensures.program

pub returns-in_err-push-in-Ok-Made-clause-grows : goal.returns-in_err-push-in-Ok-Made-clause-grows
returns-in_err-push-in-Ok-Made-clause-grows c = front_of_front (states c.args.self.now.table) (states c.rest_in.new.self.table) (states c.make_one.new.self.table) c.rest_in.ensures.grows c.make_one.ensures.grows

pub returns-in_err-push-in-Ok-Made-clause-program : goal.returns-in_err-push-in-Ok-Made-clause-program
returns-in_err-push-in-Ok-Made-clause-program c = c.make_one.ensures.program ∙ c.rest_in.ensures.program

pub returns-in_ok-push-in-Ok-Made-clause-grows : goal.returns-in_ok-push-in-Ok-Made-clause-grows
returns-in_ok-push-in-Ok-Made-clause-grows c = front_of_front (states c.args.self.now.table) (states c.rest_in.new.self.table) (states c.make_one.new.self.table) c.rest_in.ensures.grows c.make_one.ensures.grows

pub returns-in_ok-push-in-Ok-Made-clause-program : goal.returns-in_ok-push-in-Ok-Made-clause-program
returns-in_ok-push-in-Ok-Made-clause-program c = c.make_one.ensures.program ∙ c.rest_in.ensures.program

pub returns-in-Err-make_two-clause-grows : goal.returns-in-Err-make_two-clause-grows
returns-in-Err-make_two-clause-grows c = front_of_front (states c.args.self.now.table) (states c.rest_in.new.self.table) (states c.make_two.new.self.table) c.rest_in.ensures.grows c.make_two.ensures.grows

pub returns-in-Err-make_two-clause-program : goal.returns-in-Err-make_two-clause-program
returns-in-Err-make_two-clause-program c = c.make_two.ensures.program ∙ c.rest_in.ensures.program

pub returns-in-Ok-Unknown-make_two-clause-grows : goal.returns-in-Ok-Unknown-make_two-clause-grows
returns-in-Ok-Unknown-make_two-clause-grows c = front_of_front (states c.args.self.now.table) (states c.rest_in.new.self.table) (states c.make_two.new.self.table) c.rest_in.ensures.grows c.make_two.ensures.grows

pub returns-in-Ok-Unknown-make_two-clause-program : goal.returns-in-Ok-Unknown-make_two-clause-program
returns-in-Ok-Unknown-make_two-clause-program c = c.make_two.ensures.program ∙ c.rest_in.ensures.program

pub returns-in-Ok-Impossible-make_two-clause-grows : goal.returns-in-Ok-Impossible-make_two-clause-grows
returns-in-Ok-Impossible-make_two-clause-grows c = front_of_front (states c.args.self.now.table) (states c.rest_in.new.self.table) (states c.make_two.new.self.table) c.rest_in.ensures.grows c.make_two.ensures.grows

pub returns-in-Ok-Impossible-make_two-clause-program : goal.returns-in-Ok-Impossible-make_two-clause-program
returns-in-Ok-Impossible-make_two-clause-program c = c.make_two.ensures.program ∙ c.rest_in.ensures.program

pub returns-in_err-push-in-Ok-Made-make_two-clause-grows : goal.returns-in_err-push-in-Ok-Made-make_two-clause-grows
returns-in_err-push-in-Ok-Made-make_two-clause-grows c = front_of_front (states c.args.self.now.table) (states c.rest_in.new.self.table) (states c.make_two.new.self.table) c.rest_in.ensures.grows c.make_two.ensures.grows

pub returns-in_err-push-in-Ok-Made-make_two-clause-program : goal.returns-in_err-push-in-Ok-Made-make_two-clause-program
returns-in_err-push-in-Ok-Made-make_two-clause-program c = c.make_two.ensures.program ∙ c.rest_in.ensures.program

pub returns-in_err-push-in-Ok-Made-make_two-2-clause-grows : goal.returns-in_err-push-in-Ok-Made-make_two-2-clause-grows
returns-in_err-push-in-Ok-Made-make_two-2-clause-grows c = front_of_front (states c.args.self.now.table) (states c.rest_in.new.self.table) (states c.make_two.new.self.table) c.rest_in.ensures.grows c.make_two.ensures.grows

pub returns-in_err-push-in-Ok-Made-make_two-2-clause-program : goal.returns-in_err-push-in-Ok-Made-make_two-2-clause-program
returns-in_err-push-in-Ok-Made-make_two-2-clause-program c = c.make_two.ensures.program ∙ c.rest_in.ensures.program

pub returns-in_ok-push-in-Ok-Made-make_two-2-clause-grows : goal.returns-in_ok-push-in-Ok-Made-make_two-2-clause-grows
returns-in_ok-push-in-Ok-Made-make_two-2-clause-grows c = front_of_front (states c.args.self.now.table) (states c.rest_in.new.self.table) (states c.make_two.new.self.table) c.rest_in.ensures.grows c.make_two.ensures.grows

pub returns-in_ok-push-in-Ok-Made-make_two-2-clause-program : goal.returns-in_ok-push-in-Ok-Made-make_two-2-clause-program
returns-in_ok-push-in-Ok-Made-make_two-2-clause-program c = c.make_two.ensures.program ∙ c.rest_in.ensures.program

pub returns-in-Ok-Unknown-clause-within : goal.returns-in-Ok-Unknown-clause-within
returns-in-Ok-Unknown-clause-within c = c.in-Ok-Unknown.ensures.within

pub returns-in-Ok-Impossible-clause-within : goal.returns-in-Ok-Impossible-clause-within
returns-in-Ok-Impossible-clause-within c = c.in-Ok-Impossible.ensures.within

pub returns-in_ok-push-in-Ok-Made-clause-within : goal.returns-in_ok-push-in-Ok-Made-clause-within
returns-in_ok-push-in-Ok-Made-clause-within c = c.in-Ok-Made.ensures.within

pub returns-in-Ok-Unknown-make_two-clause-within : goal.returns-in-Ok-Unknown-make_two-clause-within
returns-in-Ok-Unknown-make_two-clause-within c = c.in-Ok-Unknown-make_two.ensures.within

pub returns-in-Ok-Impossible-make_two-clause-within : goal.returns-in-Ok-Impossible-make_two-clause-within
returns-in-Ok-Impossible-make_two-clause-within c = c.in-Ok-Impossible-make_two.ensures.within

pub returns-in_ok-push-in-Ok-Made-make_two-2-clause-within : goal.returns-in_ok-push-in-Ok-Made-make_two-2-clause-within
returns-in_ok-push-in-Ok-Made-make_two-2-clause-within c = c.in-Ok-Made-make_two.ensures.within

pub returns-in-Nothing-clause-follows : goal.returns-in-Nothing-clause-follows
returns-in-Nothing-clause-follows c = λ _.
    let p = program_of c.args.self.now.program.now in
    let ms = posts c.args.messages.now.entries in
    let xs = states c.args.self.now.table in
    let ns = c.args.numbers.now.items in
    let ys = states c.rest_in.new.self.table in
    let ks = c.rest_in.new.numbers.items in
    let rests : Rests p xs ns ys ks = subst (λ r. IfSome r (λ _. Rests p xs ns ys ks)) c.in-Some.is c.in_ok-next.ensures.follows in
    moves_nothing p (course c.args.silent) (row xs ns ms) (row ys ks ms) c.args.moved.now.items (rests c.args.silent ms)

pub returns-then-not-is_followed-clause-follows : goal.returns-then-not-is_followed-clause-follows
returns-then-not-is_followed-clause-follows c = λ _.
    let p = program_of c.args.self.now.program.now in
    let ms = posts c.args.messages.now.entries in
    let xs = states c.args.self.now.table in
    let ns = c.args.numbers.now.items in
    let ys = states c.rest_in.new.self.table in
    let ks = c.rest_in.new.numbers.items in
    let rests : Rests p xs ns ys ks = subst (λ r. IfSome r (λ _. Rests p xs ns ys ks)) c.in-Some.is c.in_ok-next.ensures.follows in
    moves_nothing p (course c.args.silent) (row xs ns ms) (row ys ks ms) c.args.moved.now.items (rests c.args.silent ms)

pub returns-in_default-clause-follows : goal.returns-in_default-clause-follows
returns-in_default-clause-follows c = λ told. absurd (not_true _ refl told)

pub returns-in-Ok-Unknown-clause-follows : goal.returns-in-Ok-Unknown-clause-follows
returns-in-Ok-Unknown-clause-follows c = λ told. absurd (not_true _ refl told)

pub returns-in-Ok-Impossible-clause-follows : goal.returns-in-Ok-Impossible-clause-follows
returns-in-Ok-Impossible-clause-follows c = λ told. absurd (not_true _ refl told)

pub returns-in-Ok-Unknown-make_two-clause-follows : goal.returns-in-Ok-Unknown-make_two-clause-follows
returns-in-Ok-Unknown-make_two-clause-follows c = λ told. absurd (not_true _ refl told)

pub returns-in-Ok-Impossible-make_two-clause-follows : goal.returns-in-Ok-Impossible-make_two-clause-follows
returns-in-Ok-Impossible-make_two-clause-follows c = λ told. absurd (not_true _ refl told)

pub returns-in-Err-clause-follows : goal.returns-in-Err-clause-follows
returns-in-Err-clause-follows c = λ told. absurd (failed_not _ refl told)

pub returns-in-Err-make_two-clause-follows : goal.returns-in-Err-make_two-clause-follows
returns-in-Err-make_two-clause-follows c = λ told. absurd (failed_not _ refl told)

pub returns-in-Err-clause-within : goal.returns-in-Err-clause-within
returns-in-Err-clause-within c = tt

pub returns-in-Err-make_two-clause-within : goal.returns-in-Err-make_two-clause-within
returns-in-Err-make_two-clause-within c = tt
