use Rattle.std.proofs.Common.{◌≡◌, suc, Some, sym, ap, ◌∙◌, arith}
use Rattle.std.specs.List.{slice_get}
use Rattle.std.proofs.lemmas.Grind.{common_steps}
use Rattle.std.proofs.lemmas.Option.{slice_get-get_or}
use Rattle.pool_search.proofs.choices.is_again.Goals as goal

pub returns : goal.returns
returns c = λ told.
    let ls = c.args.labels.now in
    let next : suc c.in-Some.before ≡ c.args.place = grind (arith, common_steps) in
    let l = c.in-Some-get.ensures.lookup in
    let m = c.in-Some-get-2.ensures.lookup in
    let one : slice_get ls c.in-Some.before ≡ Some c.in-Some-get.one.now = slice_get-get_or ls c.in-Some.before _ l.3.0 ∙ ap Some (sym l.1) in
    let other : slice_get ls c.args.place ≡ Some c.in-Some-get-2.other.now = slice_get-get_or ls c.args.place _ m.3.0 ∙ ap Some (sym m.1) in
    (c.in-Some.before, next, one ∙ ap Some (c.is_same_take.ensures told) ∙ sym other)
