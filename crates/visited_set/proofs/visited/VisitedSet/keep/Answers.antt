use Rattle.std.proofs.Common.{rules, ◌≡◌, refl, sym, ap, ap₂, ◌∙◌, ℕ, List, [], ◌∷◌, ◌++◌, get_or, length, Ok, Some, None}
use Rattle.std.specs.Prelude.{Result, Option}
use Rattle.std.proofs.lemmas.Result.{err_from_is_err_and}
use Rattle.visited_set.specs.declared.visited.Entry.{Entry}
use Rattle.visited_set.specs.declared.visited.Entry.TheVariants as N
use Rattle.search_laws.specs.Outcomes.{Passed}
use Rattle.pool_semantics.specs.PlainOf.{configuration_of}
use Rattle.object_moves.specs.Tables.{known_states}
use Rattle.visited_set.specs.Numbers.{passed}
use Rattle.visited_set.specs.Rows.{Row}
use Rattle.visited_set.specs.VisitedConfigurations.{entry, kept_list, kept_lists}
use Rattle.visited_set.proofs.FailedResults.{not_ok, on_failure}
use Rattle.visited_set.proofs.visited.VisitedSet.keep.Goals as goal

none_some : {T E : Type 0} {x : T} (r : Result (Option T) E) → r ≡ Ok None → r ≡ Ok (Some x) → ⊥
none_some r p q = cc

some_none : {T E : Type 0} {x : T} (r : Result (Option T) E) → r ≡ Ok (Some x) → r ≡ Ok None → ⊥
some_none r p q = cc

seen_added : {E : Type 0} {n m : ℕ} (r : Result (Option Entry) E) → r ≡ Ok (Some (N.Seen n)) → r ≡ Ok (Some (N.Added m)) → ⊥
seen_added r p q = cc

added_seen : {E : Type 0} {n m : ℕ} (r : Result (Option Entry) E) → r ≡ Ok (Some (N.Added n)) → r ≡ Ok (Some (N.Seen m)) → ⊥
added_seen r p q = cc

pub returns-in_err-queues-clause-program : goal.returns-in_err-queues-clause-program
returns-in_err-queues-clause-program c = c.queues.ensures.program

pub returns-in_err-queues-clause-lists : goal.returns-in_err-queues-clause-lists
returns-in_err-queues-clause-lists c = c.queues.ensures.lists

pub returns-in_err-queues-clause-error : goal.returns-in_err-queues-clause-error
returns-in_err-queues-clause-error c = on_failure c.from_residual.result _ (c.queues.ensures.list)

pub returns-in_err-queues-clause-in_order : goal.returns-in_err-queues-clause-in_order
returns-in_err-queues-clause-in_order c = rw ((err_from_is_err_and c.from_residual.result c.from_residual.ensures.1).1) tt

pub returns-in_err-queues-clause-none : goal.returns-in_err-queues-clause-none
returns-in_err-queues-clause-none c = λ told. absurd (not_ok c.from_residual.result (err_from_is_err_and c.from_residual.result c.from_residual.ensures.1).0 None (err_from_is_err_and c.from_residual.result c.from_residual.ensures.1).1 told)

pub returns-in_err-queues-clause-full : goal.returns-in_err-queues-clause-full
returns-in_err-queues-clause-full c = λ told. absurd (not_ok c.from_residual.result (err_from_is_err_and c.from_residual.result c.from_residual.ensures.1).0 None (err_from_is_err_and c.from_residual.result c.from_residual.ensures.1).1 told)

pub returns-in_err-queues-clause-seen : goal.returns-in_err-queues-clause-seen
returns-in_err-queues-clause-seen c = λ i told. absurd (not_ok c.from_residual.result (err_from_is_err_and c.from_residual.result c.from_residual.ensures.1).0 (Some (N.Seen i)) (err_from_is_err_and c.from_residual.result c.from_residual.ensures.1).1 told)

pub returns-in_err-queues-clause-added : goal.returns-in_err-queues-clause-added
returns-in_err-queues-clause-added c = λ i told. absurd (not_ok c.from_residual.result (err_from_is_err_and c.from_residual.result c.from_residual.ensures.1).0 (Some (N.Added i)) (err_from_is_err_and c.from_residual.result c.from_residual.ensures.1).1 told)

pub returns-in_default-clause-program : goal.returns-in_default-clause-program
returns-in_default-clause-program c = c.queues.ensures.program

pub returns-in_default-clause-lists : goal.returns-in_default-clause-lists
returns-in_default-clause-lists c = c.queues.ensures.lists

pub returns-in_default-clause-error : goal.returns-in_default-clause-error
returns-in_default-clause-error c = tt

pub returns-in_default-clause-seen : goal.returns-in_default-clause-seen
returns-in_default-clause-seen c = λ i told. absurd (none_some _ refl told)

pub returns-in_default-clause-added : goal.returns-in_default-clause-added
returns-in_default-clause-added c = λ i told. absurd (none_some _ refl told)

pub returns-in_default-clause-none : goal.returns-in_default-clause-none
returns-in_default-clause-none c = λ told. c.queues.ensures.list

pub returns-in_err-objects-clause-program : goal.returns-in_err-objects-clause-program
returns-in_err-objects-clause-program c = c.numbers.ensures.program ∙ c.queues.ensures.program

pub returns-in_err-objects-clause-lists : goal.returns-in_err-objects-clause-lists
returns-in_err-objects-clause-lists c = c.numbers.ensures.lists ∙ c.queues.ensures.lists

pub returns-in_err-objects-clause-error : goal.returns-in_err-objects-clause-error
returns-in_err-objects-clause-error c = on_failure c.from_residual-in_err-objects.result _ (c.numbers.ensures.list ∙ c.queues.ensures.list)

pub returns-in_err-objects-clause-in_order : goal.returns-in_err-objects-clause-in_order
returns-in_err-objects-clause-in_order c = rw ((err_from_is_err_and c.from_residual-in_err-objects.result c.from_residual-in_err-objects.ensures.1).1) tt

pub returns-in_err-objects-clause-none : goal.returns-in_err-objects-clause-none
returns-in_err-objects-clause-none c = λ told. absurd (not_ok c.from_residual-in_err-objects.result (err_from_is_err_and c.from_residual-in_err-objects.result c.from_residual-in_err-objects.ensures.1).0 None (err_from_is_err_and c.from_residual-in_err-objects.result c.from_residual-in_err-objects.ensures.1).1 told)

pub returns-in_err-objects-clause-full : goal.returns-in_err-objects-clause-full
returns-in_err-objects-clause-full c = λ told. absurd (not_ok c.from_residual-in_err-objects.result (err_from_is_err_and c.from_residual-in_err-objects.result c.from_residual-in_err-objects.ensures.1).0 None (err_from_is_err_and c.from_residual-in_err-objects.result c.from_residual-in_err-objects.ensures.1).1 told)

pub returns-in_err-objects-clause-seen : goal.returns-in_err-objects-clause-seen
returns-in_err-objects-clause-seen c = λ i told. absurd (not_ok c.from_residual-in_err-objects.result (err_from_is_err_and c.from_residual-in_err-objects.result c.from_residual-in_err-objects.ensures.1).0 (Some (N.Seen i)) (err_from_is_err_and c.from_residual-in_err-objects.result c.from_residual-in_err-objects.ensures.1).1 told)

pub returns-in_err-objects-clause-added : goal.returns-in_err-objects-clause-added
returns-in_err-objects-clause-added c = λ i told. absurd (not_ok c.from_residual-in_err-objects.result (err_from_is_err_and c.from_residual-in_err-objects.result c.from_residual-in_err-objects.ensures.1).0 (Some (N.Added i)) (err_from_is_err_and c.from_residual-in_err-objects.result c.from_residual-in_err-objects.ensures.1).1 told)

pub returns-in_default-2-clause-program : goal.returns-in_default-2-clause-program
returns-in_default-2-clause-program c = c.numbers.ensures.program ∙ c.queues.ensures.program

pub returns-in_default-2-clause-lists : goal.returns-in_default-2-clause-lists
returns-in_default-2-clause-lists c = c.numbers.ensures.lists ∙ c.queues.ensures.lists

pub returns-in_default-2-clause-error : goal.returns-in_default-2-clause-error
returns-in_default-2-clause-error c = tt

pub returns-in_default-2-clause-seen : goal.returns-in_default-2-clause-seen
returns-in_default-2-clause-seen c = λ i told. absurd (none_some _ refl told)

pub returns-in_default-2-clause-added : goal.returns-in_default-2-clause-added
returns-in_default-2-clause-added c = λ i told. absurd (none_some _ refl told)

pub returns-in_default-2-clause-none : goal.returns-in_default-2-clause-none
returns-in_default-2-clause-none c = λ told. c.numbers.ensures.list ∙ c.queues.ensures.list

pub returns-in-Some-seen-clause-program : goal.returns-in-Some-seen-clause-program
returns-in-Some-seen-clause-program c = c.numbers.ensures.program ∙ c.queues.ensures.program

pub returns-in-Some-seen-clause-lists : goal.returns-in-Some-seen-clause-lists
returns-in-Some-seen-clause-lists c = c.numbers.ensures.lists ∙ c.queues.ensures.lists

pub returns-in-Some-seen-clause-error : goal.returns-in-Some-seen-clause-error
returns-in-Some-seen-clause-error c = tt

pub returns-in-Some-seen-clause-none : goal.returns-in-Some-seen-clause-none
returns-in-Some-seen-clause-none c = λ told. absurd (some_none _ refl told)

pub returns-in-Some-seen-clause-full : goal.returns-in-Some-seen-clause-full
returns-in-Some-seen-clause-full c = λ told. absurd (some_none _ refl told)

pub returns-in-Some-seen-clause-added : goal.returns-in-Some-seen-clause-added
returns-in-Some-seen-clause-added c = λ i told. absurd (seen_added _ refl told)

pub returns-in_err-at-in-None-clause-program : goal.returns-in_err-at-in-None-clause-program
returns-in_err-at-in-None-clause-program c = c.add.ensures.program ∙ c.numbers.ensures.program ∙ c.queues.ensures.program

pub returns-in_err-at-in-None-clause-lists : goal.returns-in_err-at-in-None-clause-lists
returns-in_err-at-in-None-clause-lists c = c.add.ensures.lists ∙ c.numbers.ensures.lists ∙ c.queues.ensures.lists

pub returns-in_err-at-in-None-clause-in_order : goal.returns-in_err-at-in-None-clause-in_order
returns-in_err-at-in-None-clause-in_order c = rw ((err_from_is_err_and c.from_residual-in_err-at-in-None.result c.from_residual-in_err-at-in-None.ensures.1).1) tt

pub returns-in_err-at-in-None-clause-none : goal.returns-in_err-at-in-None-clause-none
returns-in_err-at-in-None-clause-none c = λ told. absurd (not_ok c.from_residual-in_err-at-in-None.result (err_from_is_err_and c.from_residual-in_err-at-in-None.result c.from_residual-in_err-at-in-None.ensures.1).0 None (err_from_is_err_and c.from_residual-in_err-at-in-None.result c.from_residual-in_err-at-in-None.ensures.1).1 told)

pub returns-in_err-at-in-None-clause-full : goal.returns-in_err-at-in-None-clause-full
returns-in_err-at-in-None-clause-full c = λ told. absurd (not_ok c.from_residual-in_err-at-in-None.result (err_from_is_err_and c.from_residual-in_err-at-in-None.result c.from_residual-in_err-at-in-None.ensures.1).0 None (err_from_is_err_and c.from_residual-in_err-at-in-None.result c.from_residual-in_err-at-in-None.ensures.1).1 told)

pub returns-in_err-at-in-None-clause-seen : goal.returns-in_err-at-in-None-clause-seen
returns-in_err-at-in-None-clause-seen c = λ i told. absurd (not_ok c.from_residual-in_err-at-in-None.result (err_from_is_err_and c.from_residual-in_err-at-in-None.result c.from_residual-in_err-at-in-None.ensures.1).0 (Some (N.Seen i)) (err_from_is_err_and c.from_residual-in_err-at-in-None.result c.from_residual-in_err-at-in-None.ensures.1).1 told)

pub returns-in_err-at-in-None-clause-added : goal.returns-in_err-at-in-None-clause-added
returns-in_err-at-in-None-clause-added c = λ i told. absurd (not_ok c.from_residual-in_err-at-in-None.result (err_from_is_err_and c.from_residual-in_err-at-in-None.result c.from_residual-in_err-at-in-None.ensures.1).0 (Some (N.Added i)) (err_from_is_err_and c.from_residual-in_err-at-in-None.result c.from_residual-in_err-at-in-None.ensures.1).1 told)

pub returns-in-Some-3-clause-program : goal.returns-in-Some-3-clause-program
returns-in-Some-3-clause-program c = c.add.ensures.program ∙ c.numbers.ensures.program ∙ c.queues.ensures.program

pub returns-in-Some-3-clause-lists : goal.returns-in-Some-3-clause-lists
returns-in-Some-3-clause-lists c = c.add.ensures.lists ∙ c.numbers.ensures.lists ∙ c.queues.ensures.lists

pub returns-in-Some-3-clause-error : goal.returns-in-Some-3-clause-error
returns-in-Some-3-clause-error c = tt

pub returns-in-Some-3-clause-none : goal.returns-in-Some-3-clause-none
returns-in-Some-3-clause-none c = λ told. absurd (some_none _ refl told)

pub returns-in-Some-3-clause-full : goal.returns-in-Some-3-clause-full
returns-in-Some-3-clause-full c = λ told. absurd (some_none _ refl told)

pub returns-in-Some-3-clause-seen : goal.returns-in-Some-3-clause-seen
returns-in-Some-3-clause-seen c = λ i told. absurd (added_seen _ refl told)

pub returns-clause-program : goal.returns-clause-program
returns-clause-program c = c.add.ensures.program ∙ c.numbers.ensures.program ∙ c.queues.ensures.program

pub returns-clause-lists : goal.returns-clause-lists
returns-clause-lists c = c.add.ensures.lists ∙ c.numbers.ensures.lists ∙ c.queues.ensures.lists

pub returns-clause-error : goal.returns-clause-error
returns-clause-error c = tt

pub returns-clause-seen : goal.returns-clause-seen
returns-clause-seen c = λ i told. absurd (none_some _ refl told)

pub returns-clause-added : goal.returns-clause-added
returns-clause-added c = λ i told. absurd (none_some _ refl told)

pub returns-clause-none : goal.returns-clause-none
returns-clause-none c = λ told. c.in_ok-at-in-None.ensures.none (ap Ok c.in-None-2.is) ∙ c.numbers.ensures.list ∙ c.queues.ensures.list

pub returns-in-Some-3-clause-added : goal.returns-in-Some-3-clause-added
returns-in-Some-3-clause-added c = λ i told.
    let k = c.args.self.now in
    let j = c.numbers.new.self in
    let f : Row = record { next = c.args.next; written = c.args.written; objects = c.as_slice.result.now; queues = c.as_slice-2.result.now } in
    let grown : (kept_list c.add.new.self ≡ kept_list j ++ passed (known_states j.moves) j.mails (kept_lists j) f ∷ []) × (c.in-Some-3.at ≡ length (kept_list j)) = rw c.in-Some-3.is at c.in_ok-at-in-None.ensures.added in
    let same : passed (known_states j.moves) j.mails (kept_lists j) f ≡ entry c.args.next (get_or (kept_lists k) c.args.written []) (configuration_of c.args.plain.now) = search rules in
    let still : kept_list j ≡ kept_list k = c.numbers.ensures.list ∙ c.queues.ensures.list in
    let is : c.in-Some-3.at ≡ i = cc in
    (grown.0 ∙ ap₂ (λ (zs : List Passed) (z : Passed). zs ++ z ∷ []) still same, sym is ∙ grown.1 ∙ ap (λ (zs : List Passed). length zs) still)
