use Rattle.std.proofs.Common.{◌≡◌, ◌++◌, [], ◌∷◌, Ok, refl, ap, sym, subst, ◌∙◌, length, map, IsTrue, List, true, false, ℕ}
use Rattle.std.specs.FinMap.Entries.{is_sorted}
use Rattle.run_types.specs.Message.{Message}
use Rattle.run_types.specs.Tables.{Pair, pair_cmp}
use Rattle.pool_syntax.specs.Terms.{ProgramTree}
use Rattle.pool_relation.specs.Action.{Object}
use Rattle.object_moves.specs.Rows.{AreWithin}
use Rattle.pool_relation.specs.Transition.{transition}
use Rattle.pool_semantics.specs.Mails.{posts}
use Rattle.object_moves.specs.Tables.{known_states, table_program}
use Rattle.visited_set.specs.Courses.{course_of}
use Rattle.visited_set.specs.Numbers.{AreListed, EntryInvariant, numbered, passed, queue_messages}
use Rattle.visited_set.specs.Rows.{Row, stored_row}
use Rattle.visited_set.specs.VisitedConfigurations.{kept_list, kept_lists, kept_program}
use Rattle.visited_set.proofs.StateTableGrowth.{all_still_with, list_still, same_front}
use Rattle.visited_set.proofs.KnownLeads.{IsMade, row_is_numbered, made_between, impossible_from, kept_made, seen_from, added_from}
use Rattle.std.specs.Prelude.{Result}
use Rattle.std.proofs.lemmas.Result.{err_from_is_err_and}
use Rattle.visited_set.specs.declared.visited.Found.{Found}
use Rattle.pool_syntax.specs.TreeOf.{program_of}
use Rattle.visited_set.specs.declared.visited.Entry.TheVariants as N
use Rattle.visited_set.specs.declared.visited.Found.TheVariants as F
use Rattle.visited_set.proofs.FailedResults.{not_ok}
use Rattle.visited_set.proofs.visited.VisitedSet.lead.Goals as goal

pub invariant_of-self-2 : goal.invariant_of-self-2
invariant_of-self-2 c =
    let k = c.args.self.now in
    let same : table_program c.lead.new.self ≡ table_program k.moves = cc in
    record {
      kept = all_still_with k.mails k.mails (same_front k.mails) (known_states k.moves) (known_states c.lead.new.self) c.lead.ensures.grows (table_program k.moves) (table_program c.lead.new.self) k.rows same k.kept;
      named = k.named;
    }

pub returns-in-Ok-Unknown-clause-unknown : goal.returns-in-Ok-Unknown-clause-unknown
returns-in-Ok-Unknown-clause-unknown c = λ told.
    let k = c.args.self.now in
    list_still k.mails k.mails (same_front k.mails) (known_states k.moves) (known_states c.lead.new.self) c.lead.ensures.grows (table_program k.moves) (kept_lists k) k.rows k.kept

pub returns-in-Ok-Unknown-clause-only : goal.returns-in-Ok-Unknown-clause-only
returns-in-Ok-Unknown-clause-only c = λ told.
    let k = c.args.self.now in
    list_still k.mails k.mails (same_front k.mails) (known_states k.moves) (known_states c.lead.new.self) c.lead.ensures.grows (table_program k.moves) (kept_lists k) k.rows k.kept

pub returns-in-Ok-Impossible-clause-only : goal.returns-in-Ok-Impossible-clause-only
returns-in-Ok-Impossible-clause-only c = λ told.
    let k = c.args.self.now in
    list_still k.mails k.mails (same_front k.mails) (known_states k.moves) (known_states c.lead.new.self) c.lead.ensures.grows (table_program k.moves) (kept_lists k) k.rows k.kept

pub returns-in-Err-clause-only : goal.returns-in-Err-clause-only
returns-in-Err-clause-only c = λ told.
    let k = c.args.self.now in
    list_still k.mails k.mails (same_front k.mails) (known_states k.moves) (known_states c.lead.new.self) c.lead.ensures.grows (table_program k.moves) (kept_lists k) k.rows k.kept

pub returns-in-Ok-Impossible-clause-impossible : goal.returns-in-Ok-Impossible-clause-impossible
returns-in-Ok-Impossible-clause-impossible c = λ told.
    let k = c.args.self.now in
    let xs = known_states k.moves in
    let e = stored_row c.get-from.result in
    let from = row_is_numbered xs xs k.mails e c.in_ok-objects.objects.items (posts c.in_ok-messages.messages.entries) refl c.in_ok-objects.ensures c.in_ok-messages.ensures in (
      list_still k.mails k.mails (same_front k.mails) (known_states k.moves) (known_states c.lead.new.self) c.lead.ensures.grows (table_program k.moves) (kept_lists k) k.rows k.kept,
      impossible_from (table_program k.moves) xs (known_states c.lead.new.self) k.mails k.mails (kept_lists k) k.rows c.args.at e c.args.label.now c.get-from.ensures
          (ap (λ z. transition (table_program k.moves) z c.args.label.now) (sym from) ∙ c.in-Ok-Impossible.ensures.impossible (ap Ok c.in-Ok-Impossible.field-0-is)),
    )

pub add-requires-clause-kept : goal.add-requires-clause-kept
add-requires-clause-kept c =
    let k = c.args.self.now in
    let j = c.queues.new.self in
    let p = table_program k.moves in
    let xs = known_states k.moves in
    let ys = known_states j.moves in
    let e = stored_row c.get-from.result in
    let f : Row = record { next = c.args.next; written = c.args.written; objects = c.as_slice.result.now; queues = c.as_slice-2.result.now } in
    let moved = c.lead.new.moved.items in
    let from = row_is_numbered xs xs k.mails e c.in_ok-objects.objects.items (posts c.in_ok-messages.messages.entries) refl c.in_ok-objects.ensures c.in_ok-messages.ensures in
    let queues : map (queue_messages j.mails) c.in-Some.queues.items ≡ posts c.lead.new.messages.entries = rw c.in-Some.is at c.in_ok-queues.ensures.queues in
    let waiting : posts c.lead.new.messages.entries ≡ map (queue_messages j.mails) f.queues = sym (ap (map (queue_messages j.mails)) c.as_slice-2.ensures.value ∙ queues) in
    let to = row_is_numbered (known_states c.lead.new.self) ys j.mails f c.lead.new.numbers.items (posts c.lead.new.messages.entries) (sym c.queues.ensures.states) (sym c.as_slice.ensures.value) waiting in
    let made : IsMade p (course_of c.args.keeps) (numbered xs k.mails e) (numbered ys j.mails f) c.args.label.now moved = made_between p c.args.label.now moved c.silent.ensures from to (c.in-Ok-Made.ensures.made (ap Ok c.in-Ok-Made.field-0-is)) in
    let sorted : IsTrue (is_sorted pair_cmp (map (queue_messages j.mails) f.queues)) = subst (λ (qs : List (Pair × List Message)). IsTrue (is_sorted pair_cmp qs)) waiting c.in_ok-queues.ensures.sorted in
    let listed : AreListed j.mails c.in-Some.queues.items = rw c.in-Some.is at c.in_ok-queues.ensures.listed in
    let within : AreWithin ys f.objects = subst (λ (vs : List Object). AreWithin vs f.objects) (sym c.queues.ensures.states) (subst (AreWithin (known_states c.lead.new.self)) (sym c.as_slice.ensures.value) c.in-Ok-Made.ensures.within) in
    let same : kept_program j ≡ p = c.queues.ensures.program ∙ ap (λ q. program_of q.now) c.lead.ensures.program in
    subst (λ (q : ProgramTree). EntryInvariant q ys j.mails f) (sym same)
    (kept_made p xs ys k.mails j.mails (kept_lists k) k.rows c.args.at e c.args.label.now c.get-from.ensures (course_of c.args.keeps) f moved made within
    (subst (AreListed j.mails) (sym c.as_slice-2.ensures.value) listed) sorted k.kept)

pub returns-in-Some-seen-clause-seen : goal.returns-in-Some-seen-clause-seen
returns-in-Some-seen-clause-seen c = λ i told.
    let k = c.args.self.now in
    let j = c.queues.new.self in
    let p = table_program k.moves in
    let xs = known_states k.moves in
    let ys = known_states j.moves in
    let e = stored_row c.get-from.result in
    let f : Row = record { next = c.args.next; written = c.args.written; objects = c.as_slice.result.now; queues = c.as_slice-2.result.now } in
    let moved = c.lead.new.moved.items in
    let from = row_is_numbered xs xs k.mails e c.in_ok-objects.objects.items (posts c.in_ok-messages.messages.entries) refl c.in_ok-objects.ensures c.in_ok-messages.ensures in
    let queues : map (queue_messages j.mails) c.in-Some.queues.items ≡ posts c.lead.new.messages.entries = rw c.in-Some.is at c.in_ok-queues.ensures.queues in
    let waiting : posts c.lead.new.messages.entries ≡ map (queue_messages j.mails) f.queues = sym (ap (map (queue_messages j.mails)) c.as_slice-2.ensures.value ∙ queues) in
    let to = row_is_numbered (known_states c.lead.new.self) ys j.mails f c.lead.new.numbers.items (posts c.lead.new.messages.entries) (sym c.queues.ensures.states) (sym c.as_slice.ensures.value) waiting in
    let made : IsMade p (course_of c.args.keeps) (numbered xs k.mails e) (numbered ys j.mails f) c.args.label.now moved = made_between p c.args.label.now moved c.silent.ensures from to (c.in-Ok-Made.ensures.made (ap Ok c.in-Ok-Made.field-0-is)) in
    let still = c.queues.ensures.list ∙ list_still k.mails k.mails (same_front k.mails) (known_states k.moves) (known_states c.lead.new.self) c.lead.ensures.grows (table_program k.moves) (kept_lists k) k.rows k.kept in
    let is : c.in-Some-seen.at ≡ i = cc in (
      still,
      seen_from p xs ys k.mails j.mails (kept_lists k) k.rows c.args.at e c.args.label.now c.get-from.ensures (course_of c.args.keeps) f moved made (kept_lists j) (kept_list j) c.queues.ensures.lists still i
          (rw (sym is) c.in-Some-seen.ensures),
    )

pub returns-in-Some-2-clause-added : goal.returns-in-Some-2-clause-added
returns-in-Some-2-clause-added c = λ i told.
    let k = c.args.self.now in
    let j = c.queues.new.self in
    let p = table_program k.moves in
    let xs = known_states k.moves in
    let ys = known_states j.moves in
    let e = stored_row c.get-from.result in
    let f : Row = record { next = c.args.next; written = c.args.written; objects = c.as_slice.result.now; queues = c.as_slice-2.result.now } in
    let moved = c.lead.new.moved.items in
    let from = row_is_numbered xs xs k.mails e c.in_ok-objects.objects.items (posts c.in_ok-messages.messages.entries) refl c.in_ok-objects.ensures c.in_ok-messages.ensures in
    let queues : map (queue_messages j.mails) c.in-Some.queues.items ≡ posts c.lead.new.messages.entries = rw c.in-Some.is at c.in_ok-queues.ensures.queues in
    let waiting : posts c.lead.new.messages.entries ≡ map (queue_messages j.mails) f.queues = sym (ap (map (queue_messages j.mails)) c.as_slice-2.ensures.value ∙ queues) in
    let to = row_is_numbered (known_states c.lead.new.self) ys j.mails f c.lead.new.numbers.items (posts c.lead.new.messages.entries) (sym c.queues.ensures.states) (sym c.as_slice.ensures.value) waiting in
    let made : IsMade p (course_of c.args.keeps) (numbered xs k.mails e) (numbered ys j.mails f) c.args.label.now moved = made_between p c.args.label.now moved c.silent.ensures from to (c.in-Ok-Made.ensures.made (ap Ok c.in-Ok-Made.field-0-is)) in
    let sorted : IsTrue (is_sorted pair_cmp (map (queue_messages j.mails) f.queues)) = subst (λ (qs : List (Pair × List Message)). IsTrue (is_sorted pair_cmp qs)) waiting c.in_ok-queues.ensures.sorted in
    let still = c.queues.ensures.list ∙ list_still k.mails k.mails (same_front k.mails) (known_states k.moves) (known_states c.lead.new.self) c.lead.ensures.grows (table_program k.moves) (kept_lists k) k.rows k.kept in
    let is : c.in-Some-2.at ≡ i = cc in
    let grown : (kept_list c.add.new.self ≡ kept_list j ++ passed ys j.mails (kept_lists j) f ∷ []) × (c.in-Some-2.at ≡ length (kept_list j)) = rw c.in-Some-2.is at c.in_ok-at-in-None.ensures.added in
    added_from p xs ys k.mails j.mails (kept_lists k) k.rows c.args.at e c.args.label.now c.get-from.ensures (course_of c.args.keeps) f moved made (kept_lists j) (kept_list j) c.queues.ensures.lists still i
    (kept_list c.add.new.self) sorted grown.0 (sym is ∙ grown.1)

pub returns-clause-unknown : goal.returns-clause-unknown
returns-clause-unknown c = λ told.
    let k = c.args.self.now in
    c.in_ok-at-in-None.ensures.none (ap Ok c.in-None-2.is) ∙ c.queues.ensures.list ∙ list_still k.mails k.mails (same_front k.mails) (known_states k.moves) (known_states c.lead.new.self) c.lead.ensures.grows (table_program k.moves) (kept_lists k) k.rows k.kept

pub returns-in_err-queues-clause-only : goal.returns-in_err-queues-clause-only
returns-in_err-queues-clause-only c = λ told.
    let k = c.args.self.now in
    c.queues.ensures.list ∙ list_still k.mails k.mails (same_front k.mails) (known_states k.moves) (known_states c.lead.new.self) c.lead.ensures.grows (table_program k.moves) (kept_lists k) k.rows k.kept

pub returns-in_default-clause-only : goal.returns-in_default-clause-only
returns-in_default-clause-only c = λ told.
    let k = c.args.self.now in
    c.queues.ensures.list ∙ list_still k.mails k.mails (same_front k.mails) (known_states k.moves) (known_states c.lead.new.self) c.lead.ensures.grows (table_program k.moves) (kept_lists k) k.rows k.kept

pub returns-in_default-clause-unknown : goal.returns-in_default-clause-unknown
returns-in_default-clause-unknown c = λ told.
    let k = c.args.self.now in
    c.queues.ensures.list ∙ list_still k.mails k.mails (same_front k.mails) (known_states k.moves) (known_states c.lead.new.self) c.lead.ensures.grows (table_program k.moves) (kept_lists k) k.rows k.kept

pub returns-in-Some-seen-clause-only : goal.returns-in-Some-seen-clause-only
returns-in-Some-seen-clause-only c = λ told.
    let k = c.args.self.now in
    c.queues.ensures.list ∙ list_still k.mails k.mails (same_front k.mails) (known_states k.moves) (known_states c.lead.new.self) c.lead.ensures.grows (table_program k.moves) (kept_lists k) k.rows k.kept

pub returns-then-not-adds-clause-only : goal.returns-then-not-adds-clause-only
returns-then-not-adds-clause-only c = λ told.
    let k = c.args.self.now in
    c.queues.ensures.list ∙ list_still k.mails k.mails (same_front k.mails) (known_states k.moves) (known_states c.lead.new.self) c.lead.ensures.grows (table_program k.moves) (kept_lists k) k.rows k.kept

pub returns-then-not-adds-clause-absent : goal.returns-then-not-adds-clause-absent
returns-then-not-adds-clause-absent c = λ told.
    let k = c.args.self.now in
    c.queues.ensures.list ∙ list_still k.mails k.mails (same_front k.mails) (known_states k.moves) (known_states c.lead.new.self) c.lead.ensures.grows (table_program k.moves) (kept_lists k) k.rows k.kept

untrue : false ≡ true → ⊥
untrue h = cc

not_unknown_absent : {E : Type 0} (r : Result Found E) → r ≡ Ok F.Unknown → r ≡ Ok F.Absent → ⊥
not_unknown_absent r p q = cc

not_unknown_impossible : {E : Type 0} (r : Result Found E) → r ≡ Ok F.Unknown → r ≡ Ok F.Impossible → ⊥
not_unknown_impossible r p q = cc

not_unknown_seen : {E : Type 0} {m : ℕ} (r : Result Found E) → r ≡ Ok F.Unknown → r ≡ Ok (F.At (N.Seen m)) → ⊥
not_unknown_seen r p q = cc

not_unknown_added : {E : Type 0} {m : ℕ} (r : Result Found E) → r ≡ Ok F.Unknown → r ≡ Ok (F.At (N.Added m)) → ⊥
not_unknown_added r p q = cc

not_impossible_absent : {E : Type 0} (r : Result Found E) → r ≡ Ok F.Impossible → r ≡ Ok F.Absent → ⊥
not_impossible_absent r p q = cc

not_impossible_unknown : {E : Type 0} (r : Result Found E) → r ≡ Ok F.Impossible → r ≡ Ok F.Unknown → ⊥
not_impossible_unknown r p q = cc

not_impossible_seen : {E : Type 0} {m : ℕ} (r : Result Found E) → r ≡ Ok F.Impossible → r ≡ Ok (F.At (N.Seen m)) → ⊥
not_impossible_seen r p q = cc

not_impossible_added : {E : Type 0} {m : ℕ} (r : Result Found E) → r ≡ Ok F.Impossible → r ≡ Ok (F.At (N.Added m)) → ⊥
not_impossible_added r p q = cc

not_seen_absent : {E : Type 0} {n : ℕ} (r : Result Found E) → r ≡ Ok (F.At (N.Seen n)) → r ≡ Ok F.Absent → ⊥
not_seen_absent r p q = cc

not_seen_unknown : {E : Type 0} {n : ℕ} (r : Result Found E) → r ≡ Ok (F.At (N.Seen n)) → r ≡ Ok F.Unknown → ⊥
not_seen_unknown r p q = cc

not_seen_impossible : {E : Type 0} {n : ℕ} (r : Result Found E) → r ≡ Ok (F.At (N.Seen n)) → r ≡ Ok F.Impossible → ⊥
not_seen_impossible r p q = cc

not_seen_added : {E : Type 0} {n : ℕ} {m : ℕ} (r : Result Found E) → r ≡ Ok (F.At (N.Seen n)) → r ≡ Ok (F.At (N.Added m)) → ⊥
not_seen_added r p q = cc

not_absent_unknown : {E : Type 0} (r : Result Found E) → r ≡ Ok F.Absent → r ≡ Ok F.Unknown → ⊥
not_absent_unknown r p q = cc

not_absent_impossible : {E : Type 0} (r : Result Found E) → r ≡ Ok F.Absent → r ≡ Ok F.Impossible → ⊥
not_absent_impossible r p q = cc

not_absent_seen : {E : Type 0} {m : ℕ} (r : Result Found E) → r ≡ Ok F.Absent → r ≡ Ok (F.At (N.Seen m)) → ⊥
not_absent_seen r p q = cc

not_absent_added : {E : Type 0} {m : ℕ} (r : Result Found E) → r ≡ Ok F.Absent → r ≡ Ok (F.At (N.Added m)) → ⊥
not_absent_added r p q = cc

not_added_absent : {E : Type 0} {n : ℕ} (r : Result Found E) → r ≡ Ok (F.At (N.Added n)) → r ≡ Ok F.Absent → ⊥
not_added_absent r p q = cc

not_added_unknown : {E : Type 0} {n : ℕ} (r : Result Found E) → r ≡ Ok (F.At (N.Added n)) → r ≡ Ok F.Unknown → ⊥
not_added_unknown r p q = cc

not_added_impossible : {E : Type 0} {n : ℕ} (r : Result Found E) → r ≡ Ok (F.At (N.Added n)) → r ≡ Ok F.Impossible → ⊥
not_added_impossible r p q = cc

not_added_seen : {E : Type 0} {n : ℕ} {m : ℕ} (r : Result Found E) → r ≡ Ok (F.At (N.Added n)) → r ≡ Ok (F.At (N.Seen m)) → ⊥
not_added_seen r p q = cc

pub returns-in-Ok-Unknown-clause-program : goal.returns-in-Ok-Unknown-clause-program
returns-in-Ok-Unknown-clause-program c = ap (λ p. program_of p.now) c.lead.ensures.program

pub returns-in-Ok-Unknown-clause-lists : goal.returns-in-Ok-Unknown-clause-lists
returns-in-Ok-Unknown-clause-lists c = refl

pub returns-in-Ok-Unknown-clause-absent : goal.returns-in-Ok-Unknown-clause-absent
returns-in-Ok-Unknown-clause-absent c = λ told. absurd (not_unknown_absent _ refl told)

pub returns-in-Ok-Unknown-clause-impossible : goal.returns-in-Ok-Unknown-clause-impossible
returns-in-Ok-Unknown-clause-impossible c = λ told. absurd (not_unknown_impossible _ refl told)

pub returns-in-Ok-Unknown-clause-seen : goal.returns-in-Ok-Unknown-clause-seen
returns-in-Ok-Unknown-clause-seen c = λ i told. absurd (not_unknown_seen _ refl told)

pub returns-in-Ok-Unknown-clause-added : goal.returns-in-Ok-Unknown-clause-added
returns-in-Ok-Unknown-clause-added c = λ i told. absurd (not_unknown_added _ refl told)

pub returns-in-Ok-Impossible-clause-program : goal.returns-in-Ok-Impossible-clause-program
returns-in-Ok-Impossible-clause-program c = ap (λ p. program_of p.now) c.lead.ensures.program

pub returns-in-Ok-Impossible-clause-lists : goal.returns-in-Ok-Impossible-clause-lists
returns-in-Ok-Impossible-clause-lists c = refl

pub returns-in-Ok-Impossible-clause-absent : goal.returns-in-Ok-Impossible-clause-absent
returns-in-Ok-Impossible-clause-absent c = λ told. absurd (not_impossible_absent _ refl told)

pub returns-in-Ok-Impossible-clause-unknown : goal.returns-in-Ok-Impossible-clause-unknown
returns-in-Ok-Impossible-clause-unknown c = λ told. absurd (not_impossible_unknown _ refl told)

pub returns-in-Ok-Impossible-clause-seen : goal.returns-in-Ok-Impossible-clause-seen
returns-in-Ok-Impossible-clause-seen c = λ i told. absurd (not_impossible_seen _ refl told)

pub returns-in-Ok-Impossible-clause-added : goal.returns-in-Ok-Impossible-clause-added
returns-in-Ok-Impossible-clause-added c = λ i told. absurd (not_impossible_added _ refl told)

pub returns-in-Err-clause-program : goal.returns-in-Err-clause-program
returns-in-Err-clause-program c = ap (λ p. program_of p.now) c.lead.ensures.program

pub returns-in-Err-clause-lists : goal.returns-in-Err-clause-lists
returns-in-Err-clause-lists c = refl

pub returns-in_err-objects-clause-program : goal.returns-in_err-objects-clause-program
returns-in_err-objects-clause-program c = refl

pub returns-in_err-objects-clause-lists : goal.returns-in_err-objects-clause-lists
returns-in_err-objects-clause-lists c = refl

pub returns-in_err-objects-clause-only : goal.returns-in_err-objects-clause-only
returns-in_err-objects-clause-only c = λ told. refl

pub returns-in_err-objects-clause-absent : goal.returns-in_err-objects-clause-absent
returns-in_err-objects-clause-absent c = λ told. absurd (not_ok c.from_residual.result (err_from_is_err_and c.from_residual.result c.from_residual.ensures.1).0 F.Absent (err_from_is_err_and c.from_residual.result c.from_residual.ensures.1).1 told)

pub returns-in_err-objects-clause-unknown : goal.returns-in_err-objects-clause-unknown
returns-in_err-objects-clause-unknown c = λ told. absurd (not_ok c.from_residual.result (err_from_is_err_and c.from_residual.result c.from_residual.ensures.1).0 F.Unknown (err_from_is_err_and c.from_residual.result c.from_residual.ensures.1).1 told)

pub returns-in_err-objects-clause-impossible : goal.returns-in_err-objects-clause-impossible
returns-in_err-objects-clause-impossible c = λ told. absurd (not_ok c.from_residual.result (err_from_is_err_and c.from_residual.result c.from_residual.ensures.1).0 F.Impossible (err_from_is_err_and c.from_residual.result c.from_residual.ensures.1).1 told)

pub returns-in_err-objects-clause-seen : goal.returns-in_err-objects-clause-seen
returns-in_err-objects-clause-seen c = λ i told. absurd (not_ok c.from_residual.result (err_from_is_err_and c.from_residual.result c.from_residual.ensures.1).0 (F.At (N.Seen i)) (err_from_is_err_and c.from_residual.result c.from_residual.ensures.1).1 told)

pub returns-in_err-objects-clause-added : goal.returns-in_err-objects-clause-added
returns-in_err-objects-clause-added c = λ i told. absurd (not_ok c.from_residual.result (err_from_is_err_and c.from_residual.result c.from_residual.ensures.1).0 (F.At (N.Added i)) (err_from_is_err_and c.from_residual.result c.from_residual.ensures.1).1 told)

pub returns-in_err-messages-clause-program : goal.returns-in_err-messages-clause-program
returns-in_err-messages-clause-program c = refl

pub returns-in_err-messages-clause-lists : goal.returns-in_err-messages-clause-lists
returns-in_err-messages-clause-lists c = refl

pub returns-in_err-messages-clause-only : goal.returns-in_err-messages-clause-only
returns-in_err-messages-clause-only c = λ told. refl

pub returns-in_err-messages-clause-absent : goal.returns-in_err-messages-clause-absent
returns-in_err-messages-clause-absent c = λ told. absurd (not_ok c.from_residual-in_err-messages.result (err_from_is_err_and c.from_residual-in_err-messages.result c.from_residual-in_err-messages.ensures.1).0 F.Absent (err_from_is_err_and c.from_residual-in_err-messages.result c.from_residual-in_err-messages.ensures.1).1 told)

pub returns-in_err-messages-clause-unknown : goal.returns-in_err-messages-clause-unknown
returns-in_err-messages-clause-unknown c = λ told. absurd (not_ok c.from_residual-in_err-messages.result (err_from_is_err_and c.from_residual-in_err-messages.result c.from_residual-in_err-messages.ensures.1).0 F.Unknown (err_from_is_err_and c.from_residual-in_err-messages.result c.from_residual-in_err-messages.ensures.1).1 told)

pub returns-in_err-messages-clause-impossible : goal.returns-in_err-messages-clause-impossible
returns-in_err-messages-clause-impossible c = λ told. absurd (not_ok c.from_residual-in_err-messages.result (err_from_is_err_and c.from_residual-in_err-messages.result c.from_residual-in_err-messages.ensures.1).0 F.Impossible (err_from_is_err_and c.from_residual-in_err-messages.result c.from_residual-in_err-messages.ensures.1).1 told)

pub returns-in_err-messages-clause-seen : goal.returns-in_err-messages-clause-seen
returns-in_err-messages-clause-seen c = λ i told. absurd (not_ok c.from_residual-in_err-messages.result (err_from_is_err_and c.from_residual-in_err-messages.result c.from_residual-in_err-messages.ensures.1).0 (F.At (N.Seen i)) (err_from_is_err_and c.from_residual-in_err-messages.result c.from_residual-in_err-messages.ensures.1).1 told)

pub returns-in_err-messages-clause-added : goal.returns-in_err-messages-clause-added
returns-in_err-messages-clause-added c = λ i told. absurd (not_ok c.from_residual-in_err-messages.result (err_from_is_err_and c.from_residual-in_err-messages.result c.from_residual-in_err-messages.ensures.1).0 (F.At (N.Added i)) (err_from_is_err_and c.from_residual-in_err-messages.result c.from_residual-in_err-messages.ensures.1).1 told)

pub returns-in_err-queues-clause-program : goal.returns-in_err-queues-clause-program
returns-in_err-queues-clause-program c = c.queues.ensures.program ∙ ap (λ p. program_of p.now) c.lead.ensures.program

pub returns-in_err-queues-clause-lists : goal.returns-in_err-queues-clause-lists
returns-in_err-queues-clause-lists c = c.queues.ensures.lists

pub returns-in_err-queues-clause-absent : goal.returns-in_err-queues-clause-absent
returns-in_err-queues-clause-absent c = λ told. absurd (not_ok c.from_residual-in_err-queues.result (err_from_is_err_and c.from_residual-in_err-queues.result c.from_residual-in_err-queues.ensures.1).0 F.Absent (err_from_is_err_and c.from_residual-in_err-queues.result c.from_residual-in_err-queues.ensures.1).1 told)

pub returns-in_err-queues-clause-unknown : goal.returns-in_err-queues-clause-unknown
returns-in_err-queues-clause-unknown c = λ told. absurd (not_ok c.from_residual-in_err-queues.result (err_from_is_err_and c.from_residual-in_err-queues.result c.from_residual-in_err-queues.ensures.1).0 F.Unknown (err_from_is_err_and c.from_residual-in_err-queues.result c.from_residual-in_err-queues.ensures.1).1 told)

pub returns-in_err-queues-clause-impossible : goal.returns-in_err-queues-clause-impossible
returns-in_err-queues-clause-impossible c = λ told. absurd (not_ok c.from_residual-in_err-queues.result (err_from_is_err_and c.from_residual-in_err-queues.result c.from_residual-in_err-queues.ensures.1).0 F.Impossible (err_from_is_err_and c.from_residual-in_err-queues.result c.from_residual-in_err-queues.ensures.1).1 told)

pub returns-in_err-queues-clause-seen : goal.returns-in_err-queues-clause-seen
returns-in_err-queues-clause-seen c = λ i told. absurd (not_ok c.from_residual-in_err-queues.result (err_from_is_err_and c.from_residual-in_err-queues.result c.from_residual-in_err-queues.ensures.1).0 (F.At (N.Seen i)) (err_from_is_err_and c.from_residual-in_err-queues.result c.from_residual-in_err-queues.ensures.1).1 told)

pub returns-in_err-queues-clause-added : goal.returns-in_err-queues-clause-added
returns-in_err-queues-clause-added c = λ i told. absurd (not_ok c.from_residual-in_err-queues.result (err_from_is_err_and c.from_residual-in_err-queues.result c.from_residual-in_err-queues.ensures.1).0 (F.At (N.Added i)) (err_from_is_err_and c.from_residual-in_err-queues.result c.from_residual-in_err-queues.ensures.1).1 told)

pub returns-in_default-clause-program : goal.returns-in_default-clause-program
returns-in_default-clause-program c = c.queues.ensures.program ∙ ap (λ p. program_of p.now) c.lead.ensures.program

pub returns-in_default-clause-lists : goal.returns-in_default-clause-lists
returns-in_default-clause-lists c = c.queues.ensures.lists

pub returns-in_default-clause-absent : goal.returns-in_default-clause-absent
returns-in_default-clause-absent c = λ told. absurd (not_unknown_absent _ refl told)

pub returns-in_default-clause-impossible : goal.returns-in_default-clause-impossible
returns-in_default-clause-impossible c = λ told. absurd (not_unknown_impossible _ refl told)

pub returns-in_default-clause-seen : goal.returns-in_default-clause-seen
returns-in_default-clause-seen c = λ i told. absurd (not_unknown_seen _ refl told)

pub returns-in_default-clause-added : goal.returns-in_default-clause-added
returns-in_default-clause-added c = λ i told. absurd (not_unknown_added _ refl told)

pub returns-in-Some-seen-clause-program : goal.returns-in-Some-seen-clause-program
returns-in-Some-seen-clause-program c = c.queues.ensures.program ∙ ap (λ p. program_of p.now) c.lead.ensures.program

pub returns-in-Some-seen-clause-lists : goal.returns-in-Some-seen-clause-lists
returns-in-Some-seen-clause-lists c = c.queues.ensures.lists

pub returns-in-Some-seen-clause-absent : goal.returns-in-Some-seen-clause-absent
returns-in-Some-seen-clause-absent c = λ told. absurd (not_seen_absent _ refl told)

pub returns-in-Some-seen-clause-unknown : goal.returns-in-Some-seen-clause-unknown
returns-in-Some-seen-clause-unknown c = λ told. absurd (not_seen_unknown _ refl told)

pub returns-in-Some-seen-clause-impossible : goal.returns-in-Some-seen-clause-impossible
returns-in-Some-seen-clause-impossible c = λ told. absurd (not_seen_impossible _ refl told)

pub returns-in-Some-seen-clause-added : goal.returns-in-Some-seen-clause-added
returns-in-Some-seen-clause-added c = λ i told. absurd (not_seen_added _ refl told)

pub returns-then-not-adds-clause-program : goal.returns-then-not-adds-clause-program
returns-then-not-adds-clause-program c = c.queues.ensures.program ∙ ap (λ p. program_of p.now) c.lead.ensures.program

pub returns-then-not-adds-clause-lists : goal.returns-then-not-adds-clause-lists
returns-then-not-adds-clause-lists c = c.queues.ensures.lists

pub returns-then-not-adds-clause-unknown : goal.returns-then-not-adds-clause-unknown
returns-then-not-adds-clause-unknown c = λ told. absurd (not_absent_unknown _ refl told)

pub returns-then-not-adds-clause-impossible : goal.returns-then-not-adds-clause-impossible
returns-then-not-adds-clause-impossible c = λ told. absurd (not_absent_impossible _ refl told)

pub returns-then-not-adds-clause-seen : goal.returns-then-not-adds-clause-seen
returns-then-not-adds-clause-seen c = λ i told. absurd (not_absent_seen _ refl told)

pub returns-then-not-adds-clause-added : goal.returns-then-not-adds-clause-added
returns-then-not-adds-clause-added c = λ i told. absurd (not_absent_added _ refl told)

pub returns-in_err-at-in-None-clause-program : goal.returns-in_err-at-in-None-clause-program
returns-in_err-at-in-None-clause-program c = c.add.ensures.program ∙ c.queues.ensures.program ∙ ap (λ p. program_of p.now) c.lead.ensures.program

pub returns-in_err-at-in-None-clause-lists : goal.returns-in_err-at-in-None-clause-lists
returns-in_err-at-in-None-clause-lists c = c.add.ensures.lists ∙ c.queues.ensures.lists

pub returns-in_err-at-in-None-clause-only : goal.returns-in_err-at-in-None-clause-only
returns-in_err-at-in-None-clause-only c = λ told. absurd (untrue (sym told ∙ c.if-not-adds.false))

pub returns-in_err-at-in-None-clause-absent : goal.returns-in_err-at-in-None-clause-absent
returns-in_err-at-in-None-clause-absent c = λ told. absurd (not_ok c.from_residual-in_err-at-in-None.result (err_from_is_err_and c.from_residual-in_err-at-in-None.result c.from_residual-in_err-at-in-None.ensures.1).0 F.Absent (err_from_is_err_and c.from_residual-in_err-at-in-None.result c.from_residual-in_err-at-in-None.ensures.1).1 told)

pub returns-in_err-at-in-None-clause-unknown : goal.returns-in_err-at-in-None-clause-unknown
returns-in_err-at-in-None-clause-unknown c = λ told. absurd (not_ok c.from_residual-in_err-at-in-None.result (err_from_is_err_and c.from_residual-in_err-at-in-None.result c.from_residual-in_err-at-in-None.ensures.1).0 F.Unknown (err_from_is_err_and c.from_residual-in_err-at-in-None.result c.from_residual-in_err-at-in-None.ensures.1).1 told)

pub returns-in_err-at-in-None-clause-impossible : goal.returns-in_err-at-in-None-clause-impossible
returns-in_err-at-in-None-clause-impossible c = λ told. absurd (not_ok c.from_residual-in_err-at-in-None.result (err_from_is_err_and c.from_residual-in_err-at-in-None.result c.from_residual-in_err-at-in-None.ensures.1).0 F.Impossible (err_from_is_err_and c.from_residual-in_err-at-in-None.result c.from_residual-in_err-at-in-None.ensures.1).1 told)

pub returns-in_err-at-in-None-clause-seen : goal.returns-in_err-at-in-None-clause-seen
returns-in_err-at-in-None-clause-seen c = λ i told. absurd (not_ok c.from_residual-in_err-at-in-None.result (err_from_is_err_and c.from_residual-in_err-at-in-None.result c.from_residual-in_err-at-in-None.ensures.1).0 (F.At (N.Seen i)) (err_from_is_err_and c.from_residual-in_err-at-in-None.result c.from_residual-in_err-at-in-None.ensures.1).1 told)

pub returns-in_err-at-in-None-clause-added : goal.returns-in_err-at-in-None-clause-added
returns-in_err-at-in-None-clause-added c = λ i told. absurd (not_ok c.from_residual-in_err-at-in-None.result (err_from_is_err_and c.from_residual-in_err-at-in-None.result c.from_residual-in_err-at-in-None.ensures.1).0 (F.At (N.Added i)) (err_from_is_err_and c.from_residual-in_err-at-in-None.result c.from_residual-in_err-at-in-None.ensures.1).1 told)

pub returns-in-Some-2-clause-program : goal.returns-in-Some-2-clause-program
returns-in-Some-2-clause-program c = c.add.ensures.program ∙ c.queues.ensures.program ∙ ap (λ p. program_of p.now) c.lead.ensures.program

pub returns-in-Some-2-clause-lists : goal.returns-in-Some-2-clause-lists
returns-in-Some-2-clause-lists c = c.add.ensures.lists ∙ c.queues.ensures.lists

pub returns-in-Some-2-clause-only : goal.returns-in-Some-2-clause-only
returns-in-Some-2-clause-only c = λ told. absurd (untrue (sym told ∙ c.if-not-adds.false))

pub returns-in-Some-2-clause-absent : goal.returns-in-Some-2-clause-absent
returns-in-Some-2-clause-absent c = λ told. absurd (not_added_absent _ refl told)

pub returns-in-Some-2-clause-unknown : goal.returns-in-Some-2-clause-unknown
returns-in-Some-2-clause-unknown c = λ told. absurd (not_added_unknown _ refl told)

pub returns-in-Some-2-clause-impossible : goal.returns-in-Some-2-clause-impossible
returns-in-Some-2-clause-impossible c = λ told. absurd (not_added_impossible _ refl told)

pub returns-in-Some-2-clause-seen : goal.returns-in-Some-2-clause-seen
returns-in-Some-2-clause-seen c = λ i told. absurd (not_added_seen _ refl told)

pub returns-clause-program : goal.returns-clause-program
returns-clause-program c = c.add.ensures.program ∙ c.queues.ensures.program ∙ ap (λ p. program_of p.now) c.lead.ensures.program

pub returns-clause-lists : goal.returns-clause-lists
returns-clause-lists c = c.add.ensures.lists ∙ c.queues.ensures.lists

pub returns-clause-only : goal.returns-clause-only
returns-clause-only c = λ told. absurd (untrue (sym told ∙ c.if-not-adds.false))

pub returns-clause-absent : goal.returns-clause-absent
returns-clause-absent c = λ told. absurd (not_unknown_absent _ refl told)

pub returns-clause-impossible : goal.returns-clause-impossible
returns-clause-impossible c = λ told. absurd (not_unknown_impossible _ refl told)

pub returns-clause-seen : goal.returns-clause-seen
returns-clause-seen c = λ i told. absurd (not_unknown_seen _ refl told)

pub returns-clause-added : goal.returns-clause-added
returns-clause-added c = λ i told. absurd (not_unknown_added _ refl told)
