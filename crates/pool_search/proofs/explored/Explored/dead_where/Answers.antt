use Rattle.std.proofs.Common.{◌≡◌, ◌<◌, ◌==◌, ◌∙◌, zero, suc, ℕ, ap, refl, sym, subst, Some, true, false, vec_len, slice_get, arith}
use Rattle.std.specs.Prelude.{IfSome}
use Rattle.run_types.specs.Tables.{Each}
use Rattle.pool_syntax.specs.Terms.{ProgramTree}
use Rattle.pool_semantics.specs.PlainOf.{configuration_of, program_tree}
use Rattle.search_laws.specs.Dead.{IsDead}
use Rattle.search_laws.specs.ClosedBeside.{IsReachedInOrder}
use Rattle.visited_set.specs.VisitedConfigurations.{entry}
use Rattle.pool_search.specs.Entries.{IsEntryAt, entries, searched}
use Rattle.pool_search.specs.Progress.{AllInOrder, Entries}
use Rattle.pool_search.proofs.explored.Explored.dead_where.Goals as goal

not_empty : (n : ℕ) → (n == 0) ≡ false → 0 < n
not_empty zero h = absurd (let z : true ≡ false = h in cc)
not_empty (suc n) h = omega arith

pub dead_at-requires-clause-program : goal.dead_at-requires-clause-program
dead_at-requires-clause-program c = c.requires.program ∙ sym c.find.ensures.program

pub dead_at-requires-clause-in_order : goal.dead_at-requires-clause-in_order
dead_at-requires-clause-in_order c = subst AllInOrder (sym c.find.ensures.same) c.requires.in_order

pub dead_at-requires-clause-there : goal.dead_at-requires-clause-there
dead_at-requires-clause-there c =
    let here = subst (λ o. IfSome o (λ i. IsEntryAt (entries c.args.self.now) i c.args.next (configuration_of c.args.plain.now))) c.in-Ok-Some.field-0-is c.in-Ok-Some.ensures.found in
    let there = ap (λ (xs : Entries). slice_get xs c.in-Ok-Some.place) c.find.ensures.same ∙ here.1 in
    subst (λ o. IfSome o (λ x. configuration_of c.args.plain.now ≡ x.configuration)) (sym there) refl

pub returns-else-is_empty : goal.returns-else-is_empty
returns-else-is_empty c = λ reached.
    let p = program_tree c.args.plain.now in
    let last = configuration_of c.args.plain.now in
    let names = c.in_ok-names-in-Ok-Some.names in
    let here = subst (λ o. IfSome o (λ i. IsEntryAt (entries c.args.self.now) i c.args.next last)) c.in-Ok-Some.field-0-is c.in-Ok-Some.ensures.found in
    let e = entry c.args.next here.0 last in
    let there : slice_get (entries c.find.new.self) c.in-Ok-Some.place ≡ Some e = ap (λ (xs : Entries). slice_get xs c.in-Ok-Some.place) c.find.ensures.same ∙ here.1 in
    let same : searched c.find.new.self ≡ p = c.find.ensures.program ∙ sym c.requires.program in
    let dead : Each (IsDead (searched c.find.new.self) last) names.items =
    c.in_ok-names-in-Ok-Some.ensures e there (subst (λ (t : ProgramTree). IsReachedInOrder t c.args.next last) (sym same) reached) in
    let some : 0 < vec_len names = not_empty (vec_len names) (sym c.is_empty.ensures ∙ c.if-is_empty.false) in
    (subst (λ (n : ℕ). 0 < n) names.ok.0 some, subst (λ (t : ProgramTree). Each (IsDead t last) names.items) same dead)
