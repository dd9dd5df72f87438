use Rattle.std.proofs.Common.{◌≡◌, ◌∙◌, ℕ, ◌∷◌, List, None, is_some, true, sym, subst, rules}
use Rattle.std.specs.Ordering.{nat_cmp}
use Rattle.std.specs.FinMap.{nat_cmp-IsAntisymmetric}
use Rattle.std.specs.Map.{lookup}
use Rattle.std.specs.Map.Iter.{deref_pair}
use Rattle.std.specs.BTreeMap.{is_at}
use Rattle.std.proofs.lemmas.Map.Iter.{rest_more, rest_all}
use Rattle.pool_syntax.specs.TreeOf.{program_of}
use Rattle.stepper_objects.specs.declared.object_state.ObjectState.{ObjectState}
use Rattle.pool_semantics.specs.Plains.{configuration}
use Rattle.pool_semantics.proofs.SilentSteps.{GoesSilent, silent_is_there, found_silent, silent_possible, not_silent, none_silent}
use Rattle.pool_semantics.proofs.Least.{Searched, begun, one_less, ended}
use Rattle.pool_semantics.proofs.SoundSteps.{sound_now}
use Rattle.pool_semantics.proofs.plain.Plain.without_write.Goals as goal

pub loop-object-init : goal.loop-object-init
loop-object-init c =
    let s = c.args.self.now.state in
    let p = program_of s.program.now in
    let start : c.into_iter-object-iterator.result ≡ s.objects.entries = search rules in
    begun nat_cmp (GoesSilent p (configuration s)) c.into_iter-object-iterator.result
    (λ o b t. subst (λ es. is_some (lookup (is_at (nat_cmp o)) es) ≡ true) (sym start) (silent_is_there p s.objects (configuration s).messages o b t))

pub silent_at-label-requires : goal.silent_at-label-requires
silent_at-label-requires c =
    let s = c.args.self.now.state in
    sound_now c.args.self.now.spent (program_of s.program.now) (configuration s) c.args.self.now.typed c.requires

pub returns-then-is_some-clause-silent : goal.returns-then-is_some-clause-silent
returns-then-is_some-clause-silent c =
    let s = c.args.self.now.state in
    let p = program_of s.program.now in
    found_silent p (configuration s) (sound_now c.args.self.now.spent p (configuration s) c.args.self.now.typed c.requires) c.in-Some.object.now c.silent_at-label.result c.silent_at-label.ensures

pub returns-then-is_some-clause-possible : goal.returns-then-is_some-clause-possible
returns-then-is_some-clause-possible c =
    let s = c.args.self.now.state in
    let p = program_of s.program.now in
    silent_possible p (configuration s) (sound_now c.args.self.now.spent p (configuration s) c.args.self.now.typed c.requires) c.in-Some.object.now c.silent_at-label.result c.silent_at-label.ensures

pub loop-object-preserved : goal.loop-object-preserved
loop-object-preserved c =
    let s = c.args.self.now.state in
    let p = program_of s.program.now in
    let l = c.loop-object in
    let e : ℕ × ObjectState = (c.in-Some.object.now, c.in-Some._thing.now) in
    let more : l.object-iterator ≡ e ∷ c.next.new.self = rest_more deref_pair l.object-iterator c.next.new.self c.next.result (c.in-Some.object, c.in-Some._thing) c.in-Some.is c.next.ensures.steps in
    one_less nat_cmp (GoesSilent p (configuration s)) None None e c.next.new.self (λ k h. nat_cmp-IsAntisymmetric k c.in-Some.object.now h)
    (not_silent p (configuration s) c.in-Some.object.now c.silent_at-label.result c.silent_at-label.ensures (sym c.is_some.ensures ∙ c.if-is_some.false))
    (subst (λ (es : List (ℕ × ObjectState)). Searched nat_cmp (GoesSilent p (configuration s)) None es) more l.invariant)

pub returns-clause-none : goal.returns-clause-none
returns-clause-none c =
    let s = c.args.self.now.state in
    let p = program_of s.program.now in
    let l = c.loop-object in
    let last = ended nat_cmp (GoesSilent p (configuration s)) None l.object-iterator (rest_all deref_pair l.object-iterator c.next.new.self c.next.result c.in-None.is c.next.ensures.steps) l.invariant in
    none_silent p (configuration s) (λ o b t. last.least b (o, t))
