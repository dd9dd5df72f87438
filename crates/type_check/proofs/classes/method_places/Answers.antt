use Rattle.std.proofs.Common.{◌≡◌, ◌+◌, sym, ap, ◌∙◌, subst, length, get_or, arith}
use Rattle.std.proofs.lemmas.List.{length_push}
use Rattle.type_check.specs.Index.{AreIndexes, IsIndex, method_name}
use Rattle.type_check.proofs.IndexLaws.{indexes_push}
use Rattle.type_check.proofs.classes.method_places.Goals as goal

pub loop-class-preserved : goal.loop-class-preserved
loop-class-preserved c =
    let ks = c.args.classes.now in
    let all = c.loop-class.all.items in
    let places = c.in_ok-places.places in
    let k = c.class-item.result in
    let counted : length all ≡ c.loop-class.class-index = c.loop-class.invariant.0 in
    let at : k ≡ get_or ks (length all) k = c.class-item.is ∙ ap (λ i. get_or ks i k) (sym counted) in
    let one : IsIndex method_name places k.methods = subst (λ ms. IsIndex method_name places ms) c.items.ensures c.in_ok-places.ensures in
    let pushed = c.in_ok-push.ensures.items in
    let longer = length_push all places in (
      ap length pushed ∙ longer ∙ ap (λ i. i + 1) counted,
      subst (λ a. AreIndexes a ks) (sym pushed) (indexes_push all ks places k (omega arith) at one c.loop-class.invariant.1),
    )
