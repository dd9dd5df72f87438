use Rattle.std.proofs.Common.{◌≡◌, ◌<◌, ◌+◌, ◌-◌, ◌*◌, true, false, sym, ap, subst, ◌∙◌, get_or, arith}
use Rattle.run_types.specs.Paths.{is_cut, next}
use Rattle.run_types.proofs.Laws.{follow}
use Rattle.table_routing.specs.Tables.{size}
use Rattle.table_routing.proofs.Places.{below, gap_at, next_at}
use Rattle.table_routing.proofs.PathWalk.{at_cut, at_end, at_goal, at_link, next_inside, told}
use Rattle.table_routing.proofs.routes.is_broken.Goals as goal

pub returns-then-at-to : goal.returns-then-at-to
returns-then-at-to c =
    let l = c.args.placement.now in
    let s = c.loop-step in
    told l c.args.from c.args.to false s.step s.at c.requires.routed c.requires.from c.requires.to s.invariant.1 (at_goal l c.args.to s.step s.at c.loop-step-test.true c.if-at-to.true)

pub bounds-nexts-at : goal.bounds-nexts-at
bounds-nexts-at c =
    let s = c.loop-step in
    subst (λ n. s.at * size c.args.placement.now + c.args.to < n) (sym c.requires.nexts.count) (below (size c.args.placement.now) s.at c.args.to s.invariant.0 c.requires.to)

pub is_gap-requires-clause-to : goal.is_gap-requires-clause-to
is_gap-requires-clause-to c =
    let s = c.loop-step in
    next_inside c.args.placement.now c.args.nexts.now s.at c.args.to c.requires.routed c.requires.nexts s.invariant.0 c.requires.to c.if-at-to.false

pub returns-then-is_gap : goal.returns-then-is_gap
returns-then-is_gap c =
    let l = c.args.placement.now in
    let s = c.loop-step in
    let n = get_or c.args.nexts.now (s.at * size l + c.args.to) 0 in
    let there : n < size l = next_inside l c.args.nexts.now s.at c.args.to c.requires.routed c.requires.nexts s.invariant.0 c.requires.to c.if-at-to.false in
    let next_is = next_at l c.args.nexts.now s.at c.args.to c.requires.nexts s.invariant.0 c.requires.to c.if-at-to.false in
    let cut : is_cut l.cuts s.at (next l s.at c.args.to) ≡ true =
    ap (λ k. is_cut l.cuts s.at k) (sym next_is) ∙ sym (gap_at l c.args.gaps.now s.at n c.requires.gaps s.invariant.0 there) ∙ sym c.is_gap.ensures ∙ c.if-is_gap.true in
    told l c.args.from c.args.to true s.step s.at c.requires.routed c.requires.from c.requires.to s.invariant.1 (at_cut l c.args.to s.step s.at c.loop-step-test.true c.if-at-to.false cut)

pub loop-step-preserved : goal.loop-step-preserved
loop-step-preserved c =
    let l = c.args.placement.now in
    let s = c.loop-step in
    let n = get_or c.args.nexts.now (s.at * size l + c.args.to) 0 in
    let there : n < size l = next_inside l c.args.nexts.now s.at c.args.to c.requires.routed c.requires.nexts s.invariant.0 c.requires.to c.if-at-to.false in
    let next_is = next_at l c.args.nexts.now s.at c.args.to c.requires.nexts s.invariant.0 c.requires.to c.if-at-to.false in
    let cut : is_cut l.cuts s.at (next l s.at c.args.to) ≡ false =
    ap (λ k. is_cut l.cuts s.at k) (sym next_is) ∙ sym (gap_at l c.args.gaps.now s.at n c.requires.gaps s.invariant.0 there) ∙ sym c.is_gap.ensures ∙ c.if-is_gap.false in (
      there,
      ap (λ k. follow l c.args.to (size l - (s.step + 1)) k) next_is ∙ sym (at_link l c.args.to s.step s.at c.loop-step-test.true c.if-at-to.false cut) ∙ s.invariant.1,
    )

pub returns : goal.returns
returns c =
    let l = c.args.placement.now in
    let s = c.loop-step in
    told l c.args.from c.args.to true s.step s.at c.requires.routed c.requires.from c.requires.to s.invariant.1 (at_end l c.args.to s.step s.at (let t = c.loop-step-test.false in omega (arith, t)))
