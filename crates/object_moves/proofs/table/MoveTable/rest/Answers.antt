use Rattle.std.proofs.Common.{◌≡◌, ◌<◌, refl, sym, ap, subst, ◌∙◌, List, Some, length, take}
use Rattle.std.specs.Option.{IfSome}
use Rattle.pool_relation.specs.Action.{Object}
use Rattle.pool_syntax.specs.TreeOf.{program_of}
use Rattle.search_states.specs.States.{states}
use Rattle.object_moves.specs.Roles.{after_local}
use Rattle.object_moves.specs.Known.{IsKnownRest, state_at}
use Rattle.object_moves.proofs.KnownFacts.{rest_told}
use Rattle.object_moves.proofs.StateGrowth.{all_of, state_still}
use Rattle.object_moves.proofs.table.MoveTable.rest.Goals as goal

pub returns-clause-is : goal.returns-clause-is
returns-clause-is c =
    let p = program_of c.args.self.now.program.now in
    let xs = states c.args.self.now.table in
    let ys = states c.compute_rest.new.self.table in
    let o = c.args.object in
    let s = c.args.state in
    let k = c.in-Some-2.known in
    let told = subst (λ r. IfSome r (λ k. IsKnownRest p ys k × (k.object ≡ o) × (k.state ≡ s))) c.in-Some-2.is c.in_ok-known.ensures.is in
    ap (after_local p o k.steps) (sym (state_still xs ys s c.in_ok-known.ensures.grows c.requires)) ∙ rest_told p ys k o s told.0 told.1 told.2
    ∙ ap (λ (zs : List Object). Some (state_at zs k.to)) (sym c.in_ok-keep_rest.ensures.states)

pub returns-in-Some-clause-grows : goal.returns-in-Some-clause-grows
returns-in-Some-clause-grows c = all_of (states c.args.self.now.table)

pub returns-in-Some-clause-program : goal.returns-in-Some-clause-program
returns-in-Some-clause-program c = refl

pub returns-in-Some-clause-is : goal.returns-in-Some-clause-is
returns-in-Some-clause-is c = c.in-Some.ensures.is

pub returns-in-Some-clause-within : goal.returns-in-Some-clause-within
returns-in-Some-clause-within c = c.in-Some.ensures.within

pub returns-in_err-known-clause-grows : goal.returns-in_err-known-clause-grows
returns-in_err-known-clause-grows c = c.compute_rest.ensures.grows

pub returns-in_err-known-clause-program : goal.returns-in_err-known-clause-program
returns-in_err-known-clause-program c = c.compute_rest.ensures.program

pub returns-in_default-2-clause-grows : goal.returns-in_default-2-clause-grows
returns-in_default-2-clause-grows c = c.compute_rest.ensures.grows

pub returns-in_default-2-clause-program : goal.returns-in_default-2-clause-program
returns-in_default-2-clause-program c = c.compute_rest.ensures.program

pub returns-in_default-2-clause-is : goal.returns-in_default-2-clause-is
returns-in_default-2-clause-is c = tt

pub returns-in_default-2-clause-within : goal.returns-in_default-2-clause-within
returns-in_default-2-clause-within c = tt

pub returns-in_err-keep_rest-clause-grows : goal.returns-in_err-keep_rest-clause-grows
returns-in_err-keep_rest-clause-grows c = ap (take (length (states c.args.self.now.table))) c.keep_rest.ensures.states ∙ c.compute_rest.ensures.grows

pub returns-in_err-keep_rest-clause-program : goal.returns-in_err-keep_rest-clause-program
returns-in_err-keep_rest-clause-program c = c.keep_rest.ensures.program ∙ c.compute_rest.ensures.program

pub returns-clause-grows : goal.returns-clause-grows
returns-clause-grows c = ap (take (length (states c.args.self.now.table))) c.keep_rest.ensures.states ∙ c.compute_rest.ensures.grows

pub returns-clause-program : goal.returns-clause-program
returns-clause-program c = c.keep_rest.ensures.program ∙ c.compute_rest.ensures.program

pub returns-clause-within : goal.returns-clause-within
returns-clause-within c =
    let p = program_of c.args.self.now.program.now in
    let ys = states c.compute_rest.new.self.table in
    let k = c.in-Some-2.known in
    let told = subst (λ r. IfSome r (λ k. IsKnownRest p ys k × (k.object ≡ c.args.object) × (k.state ≡ c.args.state))) c.in-Some-2.is c.in_ok-known.ensures.is in
    subst (λ (zs : List Object). k.to < length zs) (sym c.keep_rest.ensures.states) told.0.within
