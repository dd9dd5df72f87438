use Rattle.std.proofs.Common.{◌<◌, ◌≤◌, ◌+◌, length, sym, ap, subst, refl, arith}
use Rattle.std.specs.Option.{MatchOption}
use Rattle.node_state.specs.LongAnswers.{AreEachOnce, AreLongBefore, HasFewNames}
use Rattle.node_state.proofs.LongPlaces.{added, further, none_at, names_of_long}
use Rattle.node_state.proofs.long.add_answer.Goals as goal

pub returns-then-items-le-FEW : goal.returns-then-items-le-FEW
returns-then-items-le-FEW c = λ u named so_far.
    let few = c.if-items-le-FEW.true in let all = ap length c.items.ensures in
    further u c.args.place _ c.args.found.now (none_at u c.args.place (λ long. let names = names_of_long u c.args.place c.args.names.now named long in omega (arith, few, all, names.0))) so_far

pub returns-in_default : goal.returns-in_default
returns-in_default c = λ u named so_far.
    let many : ¬ (HasFewNames c.items-2.result.now) = subst (λ r. MatchOption r (¬ (HasFewNames c.items-2.result.now)) (λ once. AreEachOnce once c.items-2.result.now)) c.in_default.is c.in_ok-names.ensures in
    further u c.args.place _ c.args.found.now (none_at u c.args.place (λ long. many (subst HasFewNames (sym c.items-2.ensures) (names_of_long u c.args.place c.args.names.now named long).1))) so_far

pub returns-in-Ok : goal.returns-in-Ok
returns-in-Ok c = λ u named so_far.
    let names : AreEachOnce c.in-Some.names c.items-2.result.now = subst (λ r. MatchOption r (¬ (HasFewNames c.items-2.result.now)) (λ once. AreEachOnce once c.items-2.result.now)) c.in-Some.is c.in_ok-names.ensures in
    let many : 64 < length c.args.names.now = (let all = ap length c.items.ensures in omega (arith, c.if-items-le-FEW.false, all)) in
    subst (AreLongBefore u (record c.args.place { alt = c.args.place.alt + 1 })) (sym c.in-Ok.ensures.ok)
    (added u c.args.place c.args.found.now (record { place = c.args.place; names = c.in-Some.names }) refl (c.args.names.now, named, many, subst (AreEachOnce c.in-Some.names) c.items-2.ensures names) so_far)
