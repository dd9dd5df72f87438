use Rattle.std.proofs.Common.{◌≡◌, refl, subst, List, length, Some}
use Rattle.std.specs.List.{slice_get}
use Rattle.std.proofs.lemmas.Option.{slice_get_read}
use Rattle.pool_search.specs.declared.outcomes.Outcome.{Outcome}
use Rattle.pool_search.proofs.FoundLists.{has_at}
use Rattle.pool_search.proofs.ends.Ends.has.Goals as goal

pub returns-then-same_kind : goal.returns-then-same_kind
returns-then-same_kind c =
    let os = c.args.self.now.list.items in
    let known = c.in-Some-get.known.now in
    let xs = c.as_slice.result.now in
    let l = c.in-Some-get.ensures.lookup in
    let there : slice_get os c.in-Some.at.now ≡ Some known =
    subst (λ (ys : List Outcome). slice_get ys c.in-Some.at.now ≡ Some known) c.as_slice.ensures.value (slice_get_read xs (length xs) c.in-Some.at.now known refl l.3.0 l.1) in
    λ i. has_at os c.in-Some.at.now known c.args.kind c.args.items.now there (c.same_kind.ensures c.if-same_kind.true) (subst (λ xs. xs ≡ c.args.items.now) c.deref.ensures.value (c.same_items.ensures i))
