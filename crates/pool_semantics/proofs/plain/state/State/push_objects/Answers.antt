use Rattle.std.proofs.Common.{◌≡◌, ◌∙◌, ◌++◌, ◌∷◌, ℕ, List, ap, subst, Some, rules}
use Rattle.std.specs.Cmp.{nat_cmp_total}
use Rattle.std.specs.Map.Iter.{deref_pair}
use Rattle.std.specs.Option.{option_map}
use Rattle.std.proofs.lemmas.Map.Iter.{rest_more, btree_map_turn}
use Rattle.pool_syntax.specs.TreeOf.{program_of}
use Rattle.pool_relation.specs.Action.{action}
use Rattle.pool_relation.specs.Configuration.{object_of}
use Rattle.reachability.specs.Labels.{own_labels, object_labels}
use Rattle.stepper_objects.specs.declared.object_state.ObjectState.{ObjectState}
use Rattle.stepper_objects.specs.ObjectStates.{thing_object, things}
use Rattle.pool_semantics.specs.Plains.{configuration}
use Rattle.pool_semantics.proofs.LabelLists.{grown}
use Rattle.pool_semantics.proofs.MapAbstraction.{things_lookup}
use Rattle.pool_semantics.proofs.plain.state.State.push_objects.Goals as goal

pub loop-object-preserved : goal.loop-object-preserved
loop-object-preserved c =
    let s = c.args.self.now in
    let p = program_of s.program.now in
    let n = c.args.name in
    let l = c.loop-object in
    let k = c.in-Some.object.now in
    let t = c.in-Some._thing.now in
    let e : ℕ × ObjectState = (k, t) in
    let start : c.into_iter-object-iterator.result ≡ s.objects.entries = search rules in
    let more : l.object-iterator ≡ e ∷ c.next.new.self = rest_more deref_pair l.object-iterator c.next.new.self c.next.result (c.in-Some.object, c.in-Some._thing) c.in-Some.is c.next.ensures.steps in
    let turn = btree_map_turn deref_pair l.yielded c.into_iter-object-iterator.result l.object-iterator c.next.new.self c.next.result (c.in-Some.object, c.in-Some._thing) l.yielded_by c.in-Some.is c.next.ensures.steps nat_cmp_total s.objects start (search rules) in
    let there : object_of (configuration s) k ≡ Some (thing_object t) = things_lookup k s.objects.entries ∙ ap (option_map thing_object) turn.1 in
    let all = c.args.into.now.items ++ object_labels p n (configuration s).objects in
    grown l.into.items c.push_object.new.into.items (own_labels n k (action p k (thing_object t))) (object_labels p n (things c.next.new.self)) all (c.in_ok-push_object.ensures (thing_object t) there)
    (subst (λ (es : List (ℕ × ObjectState)). l.into.items ++ object_labels p n (things es) ≡ all) more l.invariant)
