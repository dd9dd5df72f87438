use Rattle.std.proofs.Common.{◌≡◌, refl, sym, ap, subst, ◌∙◌, arith, List, length, take}
use Rattle.std.specs.Option.{IfSome}
use Rattle.pool_syntax.specs.Terms.{ProgramTree}
use Rattle.pool_syntax.specs.TreeOf.{program_of}
use Rattle.pool_relation.specs.Action.{Object}
use Rattle.search_states.specs.States.{states}
use Rattle.object_moves.specs.Roles.{after}
use Rattle.object_moves.specs.Known.{IsKnownEdge, numbers_of_one, one_of, state_at}
use Rattle.object_moves.specs.Rows.{AreWithin}
use Rattle.object_moves.proofs.KnownFacts.{edge_computed}
use Rattle.object_moves.proofs.StateGrowth.{all_of, no_shorter, state_still}
use Rattle.object_moves.proofs.table.MoveTable.follow.Goals as goal

pub keep_edge-requires : goal.keep_edge-requires
keep_edge-requires c =
    let p = program_of c.args.self.now.program.now in
    let xs = states c.args.self.now.table in
    let ys = states c.compute_edge.new.self.table in
    let o = c.args.object in
    let s = c.args.state in
    let a = c.args.part.now in
    let to = c.in-Some-2.to in
    let grown = c.compute_edge.ensures.grows in
    let longer = no_shorter xs ys grown in
    let is : after p o a (state_at xs s) ≡ one_of ys to = subst (λ r. IfSome r (λ m. after p o a (state_at xs s) ≡ one_of ys m)) c.in-Some-2.is c.in_ok-to.ensures.is in
    let within : AreWithin ys (numbers_of_one to) = subst (λ r. IfSome r (λ m. AreWithin ys (numbers_of_one m))) c.in-Some-2.is c.in_ok-to.ensures.within in
    let known = edge_computed p ys (record { object = o; state = s; part = a; to = to }) (omega (arith, c.requires.state)) within (ap (after p o a) (state_still xs ys s grown c.requires.state) ∙ is) in
    subst (λ (q : ProgramTree). IsKnownEdge q ys (record { object = o; state = s; part = a; to = to })) (sym (ap (λ r. program_of r.now) c.compute_edge.ensures.program)) known

pub returns-in-Some-clause-grows : goal.returns-in-Some-clause-grows
returns-in-Some-clause-grows c = all_of (states c.args.self.now.table)

pub returns-in-Some-clause-program : goal.returns-in-Some-clause-program
returns-in-Some-clause-program c = refl

pub returns-in-Some-clause-is : goal.returns-in-Some-clause-is
returns-in-Some-clause-is c = c.in-Some.ensures.is

pub returns-in-Some-clause-within : goal.returns-in-Some-clause-within
returns-in-Some-clause-within c = c.in-Some.ensures.within

pub returns-in_err-to-clause-grows : goal.returns-in_err-to-clause-grows
returns-in_err-to-clause-grows c = c.compute_edge.ensures.grows

pub returns-in_err-to-clause-program : goal.returns-in_err-to-clause-program
returns-in_err-to-clause-program c = c.compute_edge.ensures.program

pub returns-in_default-2-clause-grows : goal.returns-in_default-2-clause-grows
returns-in_default-2-clause-grows c = c.compute_edge.ensures.grows

pub returns-in_default-2-clause-program : goal.returns-in_default-2-clause-program
returns-in_default-2-clause-program c = c.compute_edge.ensures.program

pub returns-in_default-2-clause-is : goal.returns-in_default-2-clause-is
returns-in_default-2-clause-is c = tt

pub returns-in_default-2-clause-within : goal.returns-in_default-2-clause-within
returns-in_default-2-clause-within c = tt

pub returns-in_err-keep_edge-clause-grows : goal.returns-in_err-keep_edge-clause-grows
returns-in_err-keep_edge-clause-grows c = ap (take (length (states c.args.self.now.table))) c.keep_edge.ensures.states ∙ c.compute_edge.ensures.grows

pub returns-in_err-keep_edge-clause-program : goal.returns-in_err-keep_edge-clause-program
returns-in_err-keep_edge-clause-program c = c.keep_edge.ensures.program ∙ c.compute_edge.ensures.program

pub returns-clause-grows : goal.returns-clause-grows
returns-clause-grows c = ap (take (length (states c.args.self.now.table))) c.keep_edge.ensures.states ∙ c.compute_edge.ensures.grows

pub returns-clause-program : goal.returns-clause-program
returns-clause-program c = c.keep_edge.ensures.program ∙ c.compute_edge.ensures.program

pub returns-clause-is : goal.returns-clause-is
returns-clause-is c =
    let p = program_of c.args.self.now.program.now in
    let xs = states c.args.self.now.table in
    let ys = states c.compute_edge.new.self.table in
    let is : after p c.args.object c.args.part.now (state_at xs c.args.state) ≡ one_of ys c.in-Some-2.to = subst (λ r. IfSome r (λ m. after p c.args.object c.args.part.now (state_at xs c.args.state) ≡ one_of ys m)) c.in-Some-2.is c.in_ok-to.ensures.is in
    is ∙ ap (λ (zs : List Object). one_of zs c.in-Some-2.to) (sym c.keep_edge.ensures.states)

pub returns-clause-within : goal.returns-clause-within
returns-clause-within c =
    let ys = states c.compute_edge.new.self.table in
    let within : AreWithin ys (numbers_of_one c.in-Some-2.to) = subst (λ r. IfSome r (λ m. AreWithin ys (numbers_of_one m))) c.in-Some-2.is c.in_ok-to.ensures.within in
    subst (λ (zs : List Object). AreWithin zs (numbers_of_one c.in-Some-2.to)) (sym c.keep_edge.ensures.states) within
