use Rattle.std.proofs.Common.{◌≡◌, sym, subst, length, arith}
use Rattle.code_verifier.specs.Silent.{IsMarked}
use Rattle.code_verifier.proofs.SilentLaws.{comes_back, walks_over}
use Rattle.code_verifier.proofs.circles.has_no_circle.Goals as goal

pub returns-then-not-walk : goal.returns-then-not-walk
returns-then-not-walk c =
    let code = c.args.code.now in
    let round = c.if-not-walk.ensures code (subst (IsMarked code c.loop-start.start) (sym c.deref_mut.ensures.value) c.loop-start.invariant) in
    sym (comes_back code round.0 round.1 round.2)

pub returns : goal.returns
returns c =
    let size : c.loop-start.start ≡ length c.args.code.now = (let e = c.loop-start-test.false in let f = c.loop-start.auto.start-end in let g = c.in-Ok.ensures in omega (arith, e, f, g)) in
    sym (walks_over c.args.code.now c.loop-start.marks.items (subst (λ n. IsMarked c.args.code.now n c.loop-start.marks.items) size c.loop-start.invariant))
