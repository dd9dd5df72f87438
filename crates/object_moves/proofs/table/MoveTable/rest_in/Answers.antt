use Rattle.std.proofs.Common.{◌≡◌, refl, ap, subst, ◌∙◌, slice_get, Some}
use Rattle.std.specs.Option.{IfSome}
use Rattle.std.proofs.lemmas.Option.{get_or_from_slice_get, slice_get_within}
use Rattle.pool_syntax.specs.TreeOf.{program_of}
use Rattle.search_states.specs.States.{states}
use Rattle.object_moves.specs.Roles.{after_local}
use Rattle.object_moves.specs.Known.{state_at}
use Rattle.object_moves.proofs.KnownFacts.{read_at}
use Rattle.object_moves.proofs.RowMoves.{rest_leads}
use Rattle.object_moves.proofs.StateGrowth.{all_of, within_still}
use Rattle.object_moves.proofs.table.MoveTable.rest_in.Goals as goal

pub returns-in-Ok-Some-clause-follows : goal.returns-in-Ok-Some-clause-follows
returns-in-Ok-Some-clause-follows c = λ silent ms.
    let p = program_of c.args.self.now.program.now in
    let xs = states c.args.self.now.table in
    let ys = states c.rest.new.self.table in
    let ns = c.args.numbers.now.items in
    let o = c.args.object in
    let s = c.in-Some.state.now in
    let l = c.in-Some.ensures.lookup in
    let there : slice_get ns o ≡ Some s = read_at c.as_slice.result.now ns o s c.as_slice.ensures.value l.3.0 l.1 in
    let k = c.in-Ok-Some.known in
    let is : after_local p o k.steps (state_at xs s) ≡ Some (state_at ys k.to) =
    subst (λ r. IfSome r (λ k. after_local p o k.steps (state_at xs s) ≡ Some (state_at ys k.to))) c.in-Ok-Some.field-0-is c.in-Ok-Some.ensures.is
    in
    rest_leads p xs ns ms ys o k.steps k.to silent c.in-Ok-Some.ensures.grows c.requires.within (slice_get_within ns o s there) (ap (λ n. after_local p o k.steps (state_at xs n)) (get_or_from_slice_get ns o s 0 there) ∙ is)

pub returns-in_default-clause-grows : goal.returns-in_default-clause-grows
returns-in_default-clause-grows c = all_of (states c.args.self.now.table)

pub returns-in_default-clause-program : goal.returns-in_default-clause-program
returns-in_default-clause-program c = refl

pub returns-in_default-clause-within : goal.returns-in_default-clause-within
returns-in_default-clause-within c = c.requires.within

pub returns-in_default-clause-follows : goal.returns-in_default-clause-follows
returns-in_default-clause-follows c = tt

pub returns-in-Ok-None-clause-grows : goal.returns-in-Ok-None-clause-grows
returns-in-Ok-None-clause-grows c = c.rest.ensures.grows

pub returns-in-Ok-None-clause-program : goal.returns-in-Ok-None-clause-program
returns-in-Ok-None-clause-program c = c.rest.ensures.program

pub returns-in-Ok-Some-clause-grows : goal.returns-in-Ok-Some-clause-grows
returns-in-Ok-Some-clause-grows c = c.rest.ensures.grows

pub returns-in-Ok-Some-clause-program : goal.returns-in-Ok-Some-clause-program
returns-in-Ok-Some-clause-program c = c.rest.ensures.program

pub returns-in-Err-clause-grows : goal.returns-in-Err-clause-grows
returns-in-Err-clause-grows c = c.rest.ensures.grows

pub returns-in-Err-clause-program : goal.returns-in-Err-clause-program
returns-in-Err-clause-program c = c.rest.ensures.program

pub returns-in-Ok-None-clause-within : goal.returns-in-Ok-None-clause-within
returns-in-Ok-None-clause-within c = within_still (states c.args.self.now.table) (states c.rest.new.self.table) c.args.numbers.now.items c.rest.ensures.grows c.requires.within

pub returns-in-Ok-None-clause-follows : goal.returns-in-Ok-None-clause-follows
returns-in-Ok-None-clause-follows c = tt

pub returns-in-Err-clause-within : goal.returns-in-Err-clause-within
returns-in-Err-clause-within c = tt

pub returns-in-Err-clause-follows : goal.returns-in-Err-clause-follows
returns-in-Err-clause-follows c = tt
