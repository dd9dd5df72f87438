use Rattle.std.proofs.Common.{rules, ◌≡◌, arith, sym, refl, subst, get_or, set, Some, None, true, false}
use Rattle.wait_report.specs.Cycles.{jump, least_from, IsMarked}
use Rattle.wait_report.proofs.Chains.{in_chain}
use Rattle.wait_report.proofs.WalkMarks.{Walking, goes_on, ends, comes_back, mark}
use Rattle.wait_report.proofs.cycles.walk.Goals as goal
use Rattle.wait_report.proofs.cycles.walk.Goals.{in-Some-least_from, in_default}

pub loop-seen-preserved : goal.loop-seen-preserved
loop-seen-preserved c =
    let w = c.loop-seen.invariant.0 in
    let f : get_or c.loop-seen.seen c.loop-seen.at false ≡ false = search rules in
    let e : jump c.args.next.now c.loop-seen.at ≡ Some c.in-Some.place = search rules in
    let l = c.requires.within c.loop-seen.at c.in-Some.place e in
    let n = goes_on c.args.next.now c.args.seen.now c.args.from c.loop-seen.seen c.loop-seen.path.items c.loop-seen.at c.in-Some.place w f e l in
    (subst (λ p. Walking c.args.next.now c.args.seen.now (set c.loop-seen.seen c.loop-seen.at true) c.args.from p c.in-Some.place) (sym c.in_ok-push.ensures.items) n, refl)

pub returns-in-None-clause-state : goal.returns-in-None-clause-state
returns-in-None-clause-state c =
    let w = c.loop-seen.invariant.0 in
    let e : jump c.args.next.now c.loop-seen.at ≡ None = search rules in
    ends c.args.next.now c.args.seen.now c.args.from c.loop-seen.seen c.args.starts.now c.loop-seen.path.items c.loop-seen.at w c.requires.state e

pub bounds-starts-least : goal.bounds-starts-least
bounds-starts-least c =
    let w = c.loop-seen.invariant.0 in
    let e : least_from c.loop-seen.at c.loop-seen.path.items ≡ Some c.in-Some-least_from.least = search rules in
    let l = w.within c.in-Some-least_from.least (in_chain c.loop-seen.at c.in-Some-least_from.least c.loop-seen.path.items e) in
    omega (arith, l, c.requires.state.starts_many)

pub returns-clause-state : goal.returns-clause-state
returns-clause-state c =
    let w = c.loop-seen.invariant.0 in
    let f : get_or c.loop-seen.seen c.loop-seen.at false ≡ true = search rules in
    let n = comes_back c.args.next.now c.args.seen.now c.args.from c.loop-seen.seen c.args.starts.now c.loop-seen.path.items c.loop-seen.at w c.requires.state f in
    let r : c.least_from.result ≡ least_from c.loop-seen.at c.loop-seen.path.items = search rules in
    let k = subst (λ o. IsMarked c.args.next.now c.loop-seen.seen (mark c.args.starts.now o)) (sym r) n in
    elim c.match-least_from.branch [
      | in-Some-least_from w ↦ subst (λ s. IsMarked c.args.next.now c.loop-seen.seen s) (sym w.starts-is) (subst (λ o. IsMarked c.args.next.now c.loop-seen.seen (mark c.args.starts.now o)) w.in-Some-least_from.is k)
      | in_default w ↦ subst (λ s. IsMarked c.args.next.now c.loop-seen.seen s) (sym w.starts-is) (subst (λ o. IsMarked c.args.next.now c.loop-seen.seen (mark c.args.starts.now o)) w.in_default.is k)
    ]
