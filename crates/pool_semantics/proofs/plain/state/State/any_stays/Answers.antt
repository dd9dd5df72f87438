use Rattle.std.proofs.Common.{◌≡◌, ℕ, ◌∷◌, List, None, is_some, true, refl, sym, subst, rules}
use Rattle.std.specs.Ordering.{nat_cmp}
use Rattle.std.specs.FinMap.{nat_cmp-IsAntisymmetric}
use Rattle.std.specs.Map.{lookup}
use Rattle.std.specs.Map.Iter.{deref_pair}
use Rattle.std.specs.BTreeMap.{is_at}
use Rattle.std.proofs.lemmas.Map.Iter.{rest_more, rest_all}
use Rattle.pool_syntax.specs.TreeOf.{program_of}
use Rattle.stepper_objects.specs.declared.object_state.ObjectState.{ObjectState}
use Rattle.pool_semantics.specs.Plains.{configuration}
use Rattle.pool_semantics.proofs.Least.{Searched, begun, one_less, ended}
use Rattle.pool_semantics.proofs.WaitingObjects.{StaysBy, stays_there, not_staying}
use Rattle.pool_semantics.proofs.plain.state.State.any_stays.Goals as goal

pub loop-object-init : goal.loop-object-init
loop-object-init c =
    let s = c.args.self.now in
    let p = program_of s.program.now in
    let start : c.into_iter-object-iterator.result ≡ s.objects.entries = search rules in
    begun nat_cmp (StaysBy p (configuration s)) c.into_iter-object-iterator.result
    (λ o b t. subst (λ es. is_some (lookup (is_at (nat_cmp o)) es) ≡ true) (sym start) (stays_there p s.objects (configuration s).messages o b t))

pub returns-then-stays_at-clause-some : goal.returns-then-stays_at-clause-some
returns-then-stays_at-clause-some c = λ _. (c.in-Some.object.now, c.stays_at.ensures.some c.if-stays_at.true)

pub loop-object-preserved : goal.loop-object-preserved
loop-object-preserved c =
    let s = c.args.self.now in
    let p = program_of s.program.now in
    let l = c.loop-object in
    let e : ℕ × ObjectState = (c.in-Some.object.now, c.in-Some._thing.now) in
    let more : l.object-iterator ≡ e ∷ c.next.new.self = rest_more deref_pair l.object-iterator c.next.new.self c.next.result (c.in-Some.object, c.in-Some._thing) c.in-Some.is c.next.ensures.steps in
    one_less nat_cmp (StaysBy p (configuration s)) None None e c.next.new.self (λ k h. nat_cmp-IsAntisymmetric k c.in-Some.object.now h)
    (not_staying p (configuration s) c.in-Some.object.now (c.stays_at.ensures.none c.if-stays_at.false))
    (subst (λ (es : List (ℕ × ObjectState)). Searched nat_cmp (StaysBy p (configuration s)) None es) more l.invariant)

pub returns-clause-none : goal.returns-clause-none
returns-clause-none c = λ _ o t.
    let s = c.args.self.now in
    let l = c.loop-object in
    let last = ended nat_cmp (StaysBy (program_of s.program.now) (configuration s)) None l.object-iterator (rest_all deref_pair l.object-iterator c.next.new.self c.next.result c.in-None.is c.next.ensures.steps) l.invariant in
    last.least o (o, (refl, t))
