use Rattle.std.proofs.Common.{◌≡◌, ◌∙◌, ℕ, ◌∷◌, List, Some, None, is_some, true, sym, ap, subst, rules}
use Rattle.std.specs.Ordering.{nat_cmp}
use Rattle.std.specs.Cmp.{nat_cmp_total}
use Rattle.std.specs.FinMap.{nat_cmp-IsAntisymmetric}
use Rattle.std.specs.Map.{lookup}
use Rattle.std.specs.Map.Iter.{deref_pair}
use Rattle.std.specs.BTreeMap.{is_at}
use Rattle.std.specs.Option.{option_map}
use Rattle.std.proofs.lemmas.Map.Iter.{rest_more, rest_all, btree_map_turn}
use Rattle.pool_relation.specs.Configuration.{object_of}
use Rattle.stepper_objects.specs.declared.object_state.ObjectState.{ObjectState}
use Rattle.stepper_objects.specs.ObjectStates.{thing_object}
use Rattle.pool_semantics.specs.Plains.{configuration}
use Rattle.pool_semantics.proofs.Least.{Searched, begun, one_less, ended}
use Rattle.pool_semantics.proofs.MapAbstraction.{things_lookup}
use Rattle.pool_semantics.proofs.WaitingObjects.{FailedBy, failed_there, failed, not_failed, no_fault_at_all}
use Rattle.pool_semantics.proofs.plain.Plain.met_error.Goals as goal

pub loop-object-init : goal.loop-object-init
loop-object-init c =
    let s = c.args.self.now.state in
    let start : c.into_iter-object-iterator.result ≡ s.objects.entries = search rules in
    begun nat_cmp (FailedBy (configuration s)) c.into_iter-object-iterator.result
    (λ o b t. subst (λ es. is_some (lookup (is_at (nat_cmp o)) es) ≡ true) (sym start) (failed_there s.objects (configuration s).messages o b t))

pub returns-then-is_some-clause-some : goal.returns-then-is_some-clause-some
returns-then-is_some-clause-some c =
    let s = c.args.self.now.state in
    let l = c.loop-object in
    let e : ℕ × ObjectState = (c.in-Some.object.now, c.in-Some.thing.now) in
    let start : c.into_iter-object-iterator.result ≡ s.objects.entries = search rules in
    let turn = btree_map_turn deref_pair l.yielded c.into_iter-object-iterator.result l.object-iterator c.next.new.self c.next.result (c.in-Some.object, c.in-Some.thing) l.yielded_by c.in-Some.is c.next.ensures.steps nat_cmp_total s.objects start (search rules) in
    let there : object_of (configuration s) c.in-Some.object.now ≡ Some (thing_object c.in-Some.thing.now) = things_lookup c.in-Some.object.now s.objects.entries ∙ ap (option_map thing_object) turn.1 in
    failed (configuration s) c.in-Some.object.now (thing_object c.in-Some.thing.now) there (sym c.is_some.ensures ∙ c.if-is_some.true)

pub loop-object-preserved : goal.loop-object-preserved
loop-object-preserved c =
    let s = c.args.self.now.state in
    let l = c.loop-object in
    let e : ℕ × ObjectState = (c.in-Some.object.now, c.in-Some.thing.now) in
    let start : c.into_iter-object-iterator.result ≡ s.objects.entries = search rules in
    let turn = btree_map_turn deref_pair l.yielded c.into_iter-object-iterator.result l.object-iterator c.next.new.self c.next.result (c.in-Some.object, c.in-Some.thing) l.yielded_by c.in-Some.is c.next.ensures.steps nat_cmp_total s.objects start (search rules) in
    let there : object_of (configuration s) c.in-Some.object.now ≡ Some (thing_object c.in-Some.thing.now) = things_lookup c.in-Some.object.now s.objects.entries ∙ ap (option_map thing_object) turn.1 in
    let more : l.object-iterator ≡ e ∷ c.next.new.self = rest_more deref_pair l.object-iterator c.next.new.self c.next.result (c.in-Some.object, c.in-Some.thing) c.in-Some.is c.next.ensures.steps in
    one_less nat_cmp (FailedBy (configuration s)) None None e c.next.new.self (λ k h. nat_cmp-IsAntisymmetric k c.in-Some.object.now h)
    (not_failed (configuration s) c.in-Some.object.now (thing_object c.in-Some.thing.now) there (sym c.is_some.ensures ∙ c.if-is_some.false))
    (subst (λ (es : List (ℕ × ObjectState)). Searched nat_cmp (FailedBy (configuration s)) None es) more l.invariant)

pub returns-clause-none : goal.returns-clause-none
returns-clause-none c =
    let s = c.args.self.now.state in
    let l = c.loop-object in
    let last = ended nat_cmp (FailedBy (configuration s)) None l.object-iterator (rest_all deref_pair l.object-iterator c.next.new.self c.next.result c.in-None.is c.next.ensures.steps) l.invariant in
    no_fault_at_all (configuration s) (λ o b t. last.least b (o, t))
