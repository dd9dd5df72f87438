use Rattle.std.proofs.Common.{◌≡◌, ℕ, subst, sym, is_some, true, ◌∷◌, rules}
use Rattle.std.specs.Ordering.{nat_cmp}
use Rattle.std.specs.FinMap.{nat_cmp-IsAntisymmetric}
use Rattle.std.specs.Map.{lookup}
use Rattle.std.specs.Map.Iter.{deref_pair}
use Rattle.std.specs.BTreeMap.{is_at}
use Rattle.std.proofs.lemmas.Map.Iter.{rest_more, rest_all}
use Rattle.pool_syntax.specs.TreeOf.{program_of}
use Rattle.stepper_objects.specs.declared.object_state.ObjectState.{ObjectState}
use Rattle.pool_semantics.specs.Moving.{MovesBy}
use Rattle.pool_semantics.specs.Plains.{configuration}
use Rattle.pool_semantics.proofs.MoverSearch.{object_there}
use Rattle.pool_semantics.proofs.MoverSets.{Collected, collects, collects_more, collected}
use Rattle.pool_semantics.proofs.plain.state.State.add_by_objects.Goals as goal

pub loop-object-init : goal.loop-object-init
loop-object-init c =
    let s = c.args.self.now in
    let p = program_of s.program.now in
    let start : c.into_iter-object-iterator.result ≡ s.objects.entries = search rules in
    collects nat_cmp (MovesBy p (configuration s)) c.args.movers.now c.into_iter-object-iterator.result
    (λ o b t. subst (λ es. is_some (lookup (is_at (nat_cmp o)) es) ≡ true) (sym start) (object_there p s.objects (configuration s).messages o b t))

pub loop-object-preserved : goal.loop-object-preserved
loop-object-preserved c =
    let s = c.args.self.now in
    let p = program_of s.program.now in
    let l = c.loop-object in
    let e : ℕ × ObjectState = (c.in-Some.object.now, c.in-Some._thing.now) in
    let more : l.object-iterator ≡ e ∷ c.next.new.self = rest_more deref_pair l.object-iterator c.next.new.self c.next.result (c.in-Some.object, c.in-Some._thing) c.in-Some.is c.next.ensures.steps in
    collects_more nat_cmp (MovesBy p (configuration s)) c.args.movers.now l.movers c.add_mover.new.movers c.moved_by.result e c.next.new.self (λ k h. nat_cmp-IsAntisymmetric k c.in-Some.object.now h) c.moved_by.ensures c.in_ok-add_mover.ensures
    (subst (λ es. Collected nat_cmp (MovesBy p (configuration s)) c.args.movers.now l.movers es) more l.invariant)

pub returns : goal.returns
returns c =
    let s = c.args.self.now in
    let l = c.loop-object in
    collected nat_cmp (MovesBy (program_of s.program.now) (configuration s)) c.args.movers.now l.movers l.object-iterator (rest_all deref_pair l.object-iterator c.next.new.self c.next.result c.in-None.is c.next.ensures.steps) l.invariant
