use Rattle.std.proofs.Common.{◌≡◌, ◌≤◌, ◌∙◌, ◌+◌, ◌<◌, ◌++◌, [], ◌∷◌, ap, sym, subst, ℕ, suc, length, drop, append-nil, rules, arith}
use Rattle.run_types.specs.declared.types.Label.TheVariants as L
use Rattle.stepper_terms.specs.Arguments.{now_choices}
use Rattle.stepper_terms.specs.Reduced.{choices}
use Rattle.reachability.specs.Labels.{picks}
use Rattle.pool_semantics.proofs.LabelLists.{grown, one_pick, no_picks, length_choices}
use Rattle.pool_semantics.proofs.plain.labels.push_picks.Goals as goal

pub overflow_add-alt : goal.overflow_add-alt
overflow_add-alt c =
    let gs = c.in-Statement-Select-default.guards.items in
    let few : length (choices gs) ≤ 64 = search rules in
    omega (arith, few, length_choices gs, c.loop-alt-test.true, c.len.ensures)

pub loop-alt-preserved : goal.loop-alt-preserved
loop-alt-preserved c =
    let gs = c.in-Statement-Select-default.guards.items in
    let l = c.loop-alt in
    let o = c.args.object in
    let inside : l.alt < length gs = omega (arith, c.loop-alt-test.true, c.len.ensures) in
    let more : l.alt + 1 ≡ suc l.alt = omega arith in
    let new : c.push.new.self.items ≡ l.into.items ++ L.Pick o (suc l.alt) ∷ [] = search rules in
    let one : picks o (suc l.alt) (drop l.alt (choices gs)) ≡ L.Pick o (suc l.alt) ∷ picks o (suc (suc l.alt)) (drop (suc l.alt) (choices gs)) =
    one_pick o (suc l.alt) l.alt (choices gs) (omega (arith, inside, length_choices gs)) in
    let rest = grown l.into.items c.push.new.self.items (L.Pick o (suc l.alt) ∷ []) (picks o (suc (suc l.alt)) (drop (suc l.alt) (choices gs))) _ new (ap (λ r. l.into.items ++ r) (sym one) ∙ l.invariant.1) in
    (omega (arith, inside), subst (λ (n : ℕ). c.push.new.self.items ++ picks o (suc n) (drop n (choices gs)) ≡ c.args.into.now.items ++ picks o 1 (choices gs)) (sym more) rest)

pub returns : goal.returns
returns c =
    let gs = c.in-Statement-Select-default.guards.items in
    let l = c.loop-alt in
    let over : length (choices gs) ≡ l.alt = omega (arith, l.invariant.0, length_choices gs, c.loop-alt-test.false, c.len.ensures) in
    let same : choices gs ≡ now_choices c.args.work.now.next = search rules in
    sym (append-nil l.into.items) ∙ ap (λ r. l.into.items ++ r) (sym (no_picks c.args.object (suc l.alt) l.alt (choices gs) over)) ∙ l.invariant.1 ∙ ap (λ cs. c.args.into.now.items ++ picks c.args.object 1 cs) same
