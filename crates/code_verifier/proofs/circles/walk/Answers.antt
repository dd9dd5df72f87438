use Rattle.std.proofs.Common.{◌≡◌, Some, None, rules}
use Rattle.std.specs.Prelude.{slice_get}
use Rattle.std.proofs.lemmas.Option.{slice_get_within}
use Rattle.code_verifier.specs.declared.circles.Mark.TheVariants as M
use Rattle.code_verifier.proofs.SilentLaws.{steps_less, walk_begins, walk_ends, walk_meets, walk_more, walk_past}
use Rattle.code_verifier.proofs.circles.walk.Goals as goal

pub loop-next-init : goal.loop-next-init
loop-next-init c = λ d h. walk_begins d c.args.start c.args.marks.now h

pub bounds-marks-place : goal.bounds-marks-place
bounds-marks-place c =
    let there : slice_get c.loop-next.marks c.loop-next.place ≡ Some (M.Next c.in-Some-Next.next) = search rules in
    slice_get_within c.loop-next.marks c.loop-next.place (M.Next c.in-Some-Next.next) there

pub loop-next-smaller : goal.loop-next-smaller
loop-next-smaller c =
    let there : slice_get c.loop-next.marks c.loop-next.place ≡ Some (M.Next c.in-Some-Next.next) = search rules in
    steps_less c.loop-next.marks c.loop-next.place c.in-Some-Next.next c.args.start there

pub loop-next-preserved : goal.loop-next-preserved
loop-next-preserved c =
    let there : slice_get c.loop-next.marks c.loop-next.place ≡ Some (M.Next c.in-Some-Next.next) = search rules in
    λ d h. walk_more d c.args.start c.loop-next.place c.in-Some-Next.next c.loop-next.marks there (c.loop-next.invariant d h)

pub returns-in-Some-Walked : goal.returns-in-Some-Walked
returns-in-Some-Walked c =
    let there : slice_get c.loop-next.marks c.loop-next.place ≡ Some (M.Walked c.in-Some-Walked.first) = search rules in
    λ d h. walk_meets d c.args.start c.loop-next.place c.in-Some-Walked.first c.loop-next.marks there (c.loop-next.invariant d h)

pub returns-in-Some-Ends : goal.returns-in-Some-Ends
returns-in-Some-Ends c =
    let there : slice_get c.loop-next.marks c.loop-next.place ≡ Some M.Ends = search rules in
    λ d h. walk_ends d c.args.start c.loop-next.place c.loop-next.marks there (c.loop-next.invariant d h)

pub returns-in-Some-Ends-2 : goal.returns-in-Some-Ends-2
returns-in-Some-Ends-2 c =
    let there : slice_get c.loop-next.marks c.loop-next.place ≡ None = search rules in
    λ d h. walk_past d c.args.start c.loop-next.place c.loop-next.marks there (c.loop-next.invariant d h)
