use Rattle.std.proofs.Common.{get_or, subst, sym, ◌≡◌, [], Some, slice_get, arith}
use Rattle.pool_semantics.specs.PlainOf.{configuration_of}
use Rattle.visited_set.specs.Courses.{course_of}
use Rattle.pool_search.specs.Entries.{lists, searched}
use Rattle.visited_set.specs.VisitedConfigurations.{entry, kept_list}
use Rattle.pool_search.specs.Progress.{Entries, Grows}
use Rattle.pool_search.proofs.ListGrowth.{as_it_is, entry_last}
use Rattle.pool_search.proofs.EntryExpansion.{grows_by_one}
use Rattle.pool_search.proofs.explored.Explored.keep.Goals as goal

pub returns-in-Some-Seen-clause-grows : goal.returns-in-Some-Seen-clause-grows
returns-in-Some-Seen-clause-grows c =
    let before = kept_list c.args.self.now.kept in
    let seen = c.in_ok-keep.ensures.seen c.in-Some-Seen.number (cc) in
    let p = searched c.args.self.now in
    let k = course_of c.args.scope.keeps in
    subst (Grows p k c.args.scope.most before) (sym seen.0) (as_it_is p k c.args.scope.most before)

pub returns-in-Some-Seen-clause-there : goal.returns-in-Some-Seen-clause-there
returns-in-Some-Seen-clause-there c =
    let seen = c.in_ok-keep.ensures.seen c.in-Some-Seen.number (cc) in
    let e = entry c.args.next (get_or (lists c.args.self.now) c.args.written []) (configuration_of c.args.plain.now) in
    subst (λ (es : Entries). slice_get es c.in-Some-Seen.number ≡ Some e) (sym seen.0) seen.1

pub returns-in_ok-push-in-Some-Added-clause-grows : goal.returns-in_ok-push-in-Some-Added-clause-grows
returns-in_ok-push-in-Some-Added-clause-grows c =
    let before = kept_list c.args.self.now.kept in
    let added = c.in_ok-keep.ensures.added c.in-Some-Added.number (cc) in
    let p = searched c.args.self.now in
    let k = course_of c.args.scope.keeps in
    let w = get_or (lists c.args.self.now) c.args.written [] in
    subst (Grows p k c.args.scope.most before) (sym added.0)
    (grows_by_one p k c.args.scope.most before c.args.next w (configuration_of c.args.plain.now) c.in_ok-keep.ensures.in_order c.requires.reached (omega (arith, added.1)))

pub returns-in_ok-push-in-Some-Added-clause-there : goal.returns-in_ok-push-in-Some-Added-clause-there
returns-in_ok-push-in-Some-Added-clause-there c =
    let added = c.in_ok-keep.ensures.added c.in-Some-Added.number (cc) in
    let e = entry c.args.next (get_or (lists c.args.self.now) c.args.written []) (configuration_of c.args.plain.now) in
    subst (λ (es : Entries). slice_get es c.in-Some-Added.number ≡ Some e) (sym added.0) (entry_last (kept_list c.args.self.now.kept) c.in-Some-Added.number e added.1)
