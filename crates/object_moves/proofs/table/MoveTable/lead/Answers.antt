use Rattle.std.proofs.Common.{ap, subst, ◌∙◌, [], ◌∷◌, Ok, refl}
use Rattle.pool_semantics.specs.Mails.{posts}
use Rattle.pool_syntax.specs.Terms.{ProgramTree}
use Rattle.pool_syntax.specs.TreeOf.{program_of}
use Rattle.search_states.specs.States.{states}
use Rattle.object_moves.specs.Followed.{HasMoved, course, passes}
use Rattle.object_moves.specs.Rows.{row}
use Rattle.object_moves.proofs.LeadResults.{failed_not, impossible_made, made_impossible, unknown_impossible, unknown_made}
use Rattle.object_moves.proofs.FollowedMoves.{Moves, moved_both, moved_from_none, moves_both}
use Rattle.object_moves.proofs.StateGrowth.{front_of_front}
use Rattle.object_moves.proofs.table.MoveTable.lead.Goals as goal

pub returns-in-Ok-true-settle_row-clause-made : goal.returns-in-Ok-true-settle_row-clause-made
returns-in-Ok-true-settle_row-clause-made c = λ _.
    let p = program_of c.args.self.now.program.now in
    let k = course c.args.silent in
    let l = c.args.label.now in
    let from = row (states c.make_in.new.self.table) c.make_in.new.numbers.items (posts c.make_in.new.messages.entries) in
    let mid = row (states c.settle_new.new.self.table) c.settle_new.new.numbers.items (posts c.settle_new.new.messages.entries) in
    let to = row (states c.settle_row.new.self.table) c.settle_row.new.numbers.items (posts c.settle_row.new.messages.entries) in
    let os = c.push_movers.new.moved.items in
    let qs = c.settle_new.new.moved.items in
    let rs = c.settle_row.new.moved.items in
    let first : Moves p k from mid os qs =
    subst (λ (q : ProgramTree). Moves q k from mid os qs) (ap (λ r. program_of r.now) c.in-Ok-Made.ensures.program) (c.in-Ok-true.ensures.follows (ap Ok c.in-Ok-true.field-0-test))
    in
    let second : Moves p k mid to qs rs =
    subst (λ (q : ProgramTree). Moves q k mid to qs rs) (ap (λ r. program_of r.now) (c.in-Ok-true.ensures.program ∙ c.in-Ok-Made.ensures.program))
    (c.in-Ok-true-settle_row.ensures.follows (ap Ok c.in-Ok-true-settle_row.field-0-test))
    in
    let both : Moves p k from to os rs = moves_both p k from mid to os qs rs first second in
    let begun : HasMoved (l ∷ []) [] os = subst (λ ks. HasMoved (l ∷ []) ks os) c.clear.ensures.items c.in_ok-push_movers.ensures in
    (from, c.in-Ok-Made.ensures.made (ap Ok c.in-Ok-Made.field-0-is), both.0, moved_from_none (l ∷ passes both.0) rs (moved_both (l ∷ []) (passes both.0) [] os rs begun both.1))

pub returns-in-Err-clause-grows : goal.returns-in-Err-clause-grows
returns-in-Err-clause-grows c = c.make_in.ensures.grows

pub returns-in-Err-clause-program : goal.returns-in-Err-clause-program
returns-in-Err-clause-program c = c.make_in.ensures.program

pub returns-in-Ok-Impossible-clause-grows : goal.returns-in-Ok-Impossible-clause-grows
returns-in-Ok-Impossible-clause-grows c = c.make_in.ensures.grows

pub returns-in-Ok-Impossible-clause-program : goal.returns-in-Ok-Impossible-clause-program
returns-in-Ok-Impossible-clause-program c = c.make_in.ensures.program

pub returns-in-Ok-Unknown-clause-grows : goal.returns-in-Ok-Unknown-clause-grows
returns-in-Ok-Unknown-clause-grows c = c.make_in.ensures.grows

pub returns-in-Ok-Unknown-clause-program : goal.returns-in-Ok-Unknown-clause-program
returns-in-Ok-Unknown-clause-program c = c.make_in.ensures.program

pub returns-in_err-push_movers-clause-grows : goal.returns-in_err-push_movers-clause-grows
returns-in_err-push_movers-clause-grows c = c.make_in.ensures.grows

pub returns-in_err-push_movers-clause-program : goal.returns-in_err-push_movers-clause-program
returns-in_err-push_movers-clause-program c = c.make_in.ensures.program

pub returns-in-Err-settle_new-clause-grows : goal.returns-in-Err-settle_new-clause-grows
returns-in-Err-settle_new-clause-grows c = front_of_front (states c.args.self.now.table) (states c.make_in.new.self.table) (states c.settle_new.new.self.table) c.make_in.ensures.grows c.settle_new.ensures.grows

pub returns-in-Err-settle_new-clause-program : goal.returns-in-Err-settle_new-clause-program
returns-in-Err-settle_new-clause-program c = c.settle_new.ensures.program ∙ c.make_in.ensures.program

pub returns-in-Ok-false-clause-grows : goal.returns-in-Ok-false-clause-grows
returns-in-Ok-false-clause-grows c = front_of_front (states c.args.self.now.table) (states c.make_in.new.self.table) (states c.settle_new.new.self.table) c.make_in.ensures.grows c.settle_new.ensures.grows

pub returns-in-Ok-false-clause-program : goal.returns-in-Ok-false-clause-program
returns-in-Ok-false-clause-program c = c.settle_new.ensures.program ∙ c.make_in.ensures.program

pub returns-in-Err-settle_row-clause-grows : goal.returns-in-Err-settle_row-clause-grows
returns-in-Err-settle_row-clause-grows c = front_of_front (states c.args.self.now.table) (states c.settle_new.new.self.table) (states c.settle_row.new.self.table) (front_of_front (states c.args.self.now.table) (states c.make_in.new.self.table) (states c.settle_new.new.self.table) c.make_in.ensures.grows c.settle_new.ensures.grows) c.settle_row.ensures.grows

pub returns-in-Err-settle_row-clause-program : goal.returns-in-Err-settle_row-clause-program
returns-in-Err-settle_row-clause-program c = c.settle_row.ensures.program ∙ c.settle_new.ensures.program ∙ c.make_in.ensures.program

pub returns-in-Ok-false-settle_row-clause-grows : goal.returns-in-Ok-false-settle_row-clause-grows
returns-in-Ok-false-settle_row-clause-grows c = front_of_front (states c.args.self.now.table) (states c.settle_new.new.self.table) (states c.settle_row.new.self.table) (front_of_front (states c.args.self.now.table) (states c.make_in.new.self.table) (states c.settle_new.new.self.table) c.make_in.ensures.grows c.settle_new.ensures.grows) c.settle_row.ensures.grows

pub returns-in-Ok-false-settle_row-clause-program : goal.returns-in-Ok-false-settle_row-clause-program
returns-in-Ok-false-settle_row-clause-program c = c.settle_row.ensures.program ∙ c.settle_new.ensures.program ∙ c.make_in.ensures.program

pub returns-in-Ok-true-settle_row-clause-grows : goal.returns-in-Ok-true-settle_row-clause-grows
returns-in-Ok-true-settle_row-clause-grows c = front_of_front (states c.args.self.now.table) (states c.settle_new.new.self.table) (states c.settle_row.new.self.table) (front_of_front (states c.args.self.now.table) (states c.make_in.new.self.table) (states c.settle_new.new.self.table) c.make_in.ensures.grows c.settle_new.ensures.grows) c.settle_row.ensures.grows

pub returns-in-Ok-true-settle_row-clause-program : goal.returns-in-Ok-true-settle_row-clause-program
returns-in-Ok-true-settle_row-clause-program c = c.settle_row.ensures.program ∙ c.settle_new.ensures.program ∙ c.make_in.ensures.program

pub returns-in-Ok-Impossible-clause-within : goal.returns-in-Ok-Impossible-clause-within
returns-in-Ok-Impossible-clause-within c = c.in-Ok-Impossible.ensures.within

pub returns-in-Ok-Unknown-clause-within : goal.returns-in-Ok-Unknown-clause-within
returns-in-Ok-Unknown-clause-within c = c.in-Ok-Unknown.ensures.within

pub returns-in-Ok-false-clause-within : goal.returns-in-Ok-false-clause-within
returns-in-Ok-false-clause-within c = c.in-Ok-false.ensures.within

pub returns-in-Ok-false-settle_row-clause-within : goal.returns-in-Ok-false-settle_row-clause-within
returns-in-Ok-false-settle_row-clause-within c = c.in-Ok-false-settle_row.ensures.within

pub returns-in-Ok-true-settle_row-clause-within : goal.returns-in-Ok-true-settle_row-clause-within
returns-in-Ok-true-settle_row-clause-within c = c.in-Ok-true-settle_row.ensures.within

pub returns-in-Ok-Impossible-clause-impossible : goal.returns-in-Ok-Impossible-clause-impossible
returns-in-Ok-Impossible-clause-impossible c = λ _. c.in-Ok-Impossible.ensures.impossible (ap Ok c.in-Ok-Impossible.field-0-is)

pub returns-in-Ok-Unknown-clause-impossible : goal.returns-in-Ok-Unknown-clause-impossible
returns-in-Ok-Unknown-clause-impossible c = λ told. absurd (unknown_impossible _ refl told)

pub returns-in-Ok-Unknown-clause-made : goal.returns-in-Ok-Unknown-clause-made
returns-in-Ok-Unknown-clause-made c = λ told. absurd (unknown_made _ refl told)

pub returns-in-Ok-false-clause-impossible : goal.returns-in-Ok-false-clause-impossible
returns-in-Ok-false-clause-impossible c = λ told. absurd (unknown_impossible _ refl told)

pub returns-in-Ok-false-clause-made : goal.returns-in-Ok-false-clause-made
returns-in-Ok-false-clause-made c = λ told. absurd (unknown_made _ refl told)

pub returns-in-Ok-false-settle_row-clause-impossible : goal.returns-in-Ok-false-settle_row-clause-impossible
returns-in-Ok-false-settle_row-clause-impossible c = λ told. absurd (unknown_impossible _ refl told)

pub returns-in-Ok-false-settle_row-clause-made : goal.returns-in-Ok-false-settle_row-clause-made
returns-in-Ok-false-settle_row-clause-made c = λ told. absurd (unknown_made _ refl told)

pub returns-in-Ok-Impossible-clause-made : goal.returns-in-Ok-Impossible-clause-made
returns-in-Ok-Impossible-clause-made c = λ told. absurd (impossible_made _ refl told)

pub returns-in-Ok-true-settle_row-clause-impossible : goal.returns-in-Ok-true-settle_row-clause-impossible
returns-in-Ok-true-settle_row-clause-impossible c = λ told. absurd (made_impossible _ refl told)

pub returns-in-Err-clause-impossible : goal.returns-in-Err-clause-impossible
returns-in-Err-clause-impossible c = λ told. absurd (failed_not _ refl told)

pub returns-in-Err-clause-made : goal.returns-in-Err-clause-made
returns-in-Err-clause-made c = λ told. absurd (failed_not _ refl told)

pub returns-in-Err-clause-within : goal.returns-in-Err-clause-within
returns-in-Err-clause-within c = tt

pub returns-in-Err-settle_new-clause-impossible : goal.returns-in-Err-settle_new-clause-impossible
returns-in-Err-settle_new-clause-impossible c = λ told. absurd (failed_not _ refl told)

pub returns-in-Err-settle_new-clause-made : goal.returns-in-Err-settle_new-clause-made
returns-in-Err-settle_new-clause-made c = λ told. absurd (failed_not _ refl told)

pub returns-in-Err-settle_new-clause-within : goal.returns-in-Err-settle_new-clause-within
returns-in-Err-settle_new-clause-within c = tt

pub returns-in-Err-settle_row-clause-impossible : goal.returns-in-Err-settle_row-clause-impossible
returns-in-Err-settle_row-clause-impossible c = λ told. absurd (failed_not _ refl told)

pub returns-in-Err-settle_row-clause-made : goal.returns-in-Err-settle_row-clause-made
returns-in-Err-settle_row-clause-made c = λ told. absurd (failed_not _ refl told)

pub returns-in-Err-settle_row-clause-within : goal.returns-in-Err-settle_row-clause-within
returns-in-Err-settle_row-clause-within c = tt
