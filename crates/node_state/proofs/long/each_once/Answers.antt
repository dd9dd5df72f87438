use Rattle.std.proofs.Common.{◌≡◌, ◌≤◌, rules, length, sym, ap, ◌∙◌, subst}
use Rattle.std.specs.List.Sorted.{IsBinarySearchResult}
use Rattle.std.proofs.lemmas.List.Sorted.{answers_always}
use Rattle.node_state.specs.LongAnswers.{place_order, HasSameNames}
use Rattle.node_state.proofs.LongSearch.{found_names, not_listed}
use Rattle.node_state.proofs.long.each_once.Goals as goal

pub returns-in-Ok : goal.returns-in-Ok
returns-in-Ok c =
    let long = c.args.long.now in let p = c.args.place.now in let a = c.requires.answer in let i = c.in-Ok.index in let x = c.index-long-index.result in
    let found : IsBinarySearchResult (λ y. place_order y.place p) long c.binary_search_by_key.result = c.binary_search_by_key.ensures.position (λ y. y.place) (answers_always _ _ _ (λ f y r g called. search rules)) in
    let names = found_names a.0 long p c.args.names.now i x a.1 c.in-Ok.ensures.bound (subst (IsBinarySearchResult (λ y. place_order y.place p) long) c.in-Ok.is found) c.index-long-index.is a.2 in
    let all : c.items.result.now ≡ x.names = c.items.ensures ∙ ap (λ y. y.names) (sym c.index-long-index.is) in
    record { same = subst (λ ns. HasSameNames ns c.args.names.now) (sym all) names.same; few = λ few. subst (λ ns. length ns ≤ 64) (sym all) names.few }

pub returns-in-Err-clause-few : goal.returns-in-Err-clause-few
returns-in-Err-clause-few c few =
    let long = c.args.long.now in let p = c.args.place.now in let a = c.requires.answer in
    let found : IsBinarySearchResult (λ y. place_order y.place p) long c.binary_search_by_key.result = c.binary_search_by_key.ensures.position (λ y. y.place) (answers_always _ _ _ (λ f y r g called. search rules)) in
    absurd (not_listed long p c.in-Err.field-0 a.1.in_order (subst (IsBinarySearchResult (λ y. place_order y.place p) long) c.in-Err.is found) (a.1.all p (c.args.names.now, a.2, c.requires.many, few)))
