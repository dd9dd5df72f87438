-- What a binary search of the long answers finds.
use Rattle.std.proofs.Common.{◌≡◌, ◌⊎◌, ℕ, zero, suc, ◌<◌, ◌≤◌, inl, inr, false, List, [], ◌∷◌, Some, Ok, Err, length, get_or, slice_get, sym, ap, ◌∙◌, arith, add-one}
use Rattle.std.specs.List.Sorted.{IsBinarySearchResult, IsNonDecreasingBy}
use Rattle.std.specs.Ordering.{is_lt, ordering_index, ordering_reverse}
use Rattle.std.specs.declared.cmp.Ordering.TheVariants.{Less, Equal, Greater}
use Rattle.std.proofs.lemmas.Bool.{cases_lt}
use Rattle.std.proofs.lemmas.List.Sorted.{searchable_from_sorted}
use Rattle.std.proofs.lemmas.Option.{slice_get-get_or}
use Rattle.run_types.specs.declared.types.NameId.{NameId}
use Rattle.code_semantics.specs.declared.unit.Unit.{Unit as Code}
use Rattle.node_state.specs.declared.long.AnswerPlace.{AnswerPlace}
use Rattle.node_state.specs.declared.long.LongAnswer.{LongAnswer}
use Rattle.node_state.specs.LongAnswers.{names_at, place_order, AreEachOnce, IsListed, IsInOrder, AreLongOf}
use Rattle.node_state.specs.contracts.long.AnswerPlaceOrd.TheImpl.Laws.{total-law}
use Rattle.node_state.proofs.PlaceOrder.{equal, same}
use Rattle.node_state.proofs.LongAnswers.{long_at}

not_less : (a b : LongAnswer) → place_order a.place b.place ≡ Less → is_lt (place_order b.place a.place) ≡ false
not_less a b h = ap is_lt (total-law.antisymm b.place a.place ∙ ap ordering_reverse h)

in_steps : (answers : List LongAnswer) (k : ℕ) (d : LongAnswer) → IsInOrder answers → suc k < length answers → is_lt (place_order (get_or answers (suc k) d).place (get_or answers k d).place) ≡ false
in_steps [] k d h l = absurd (omega arith)
in_steps (a ∷ []) k d h l = absurd (omega arith)
in_steps (a ∷ b ∷ answers) zero d h l = not_less a b h.0.0
in_steps (a ∷ b ∷ answers) (suc k) d h l = in_steps (b ∷ answers) k d h.1 (omega arith)

rises : (answers : List LongAnswer) (p : AnswerPlace) → IsInOrder answers → IsNonDecreasingBy (λ a. ordering_index (place_order a.place p)) answers
rises answers p h = searchable_from_sorted total-law (λ (a : LongAnswer). a.place) answers p (λ k d a b. ap (λ i. is_lt (place_order (get_or answers i d).place (get_or answers k d).place)) (add-one k) ∙ in_steps answers k d h (omega arith))

read_listed : (answers : List LongAnswer) (i : ℕ) (a : LongAnswer) → slice_get answers i ≡ Some a → (i < length answers) × (get_or answers i a ≡ a)
read_listed [] i a h = absurd (cc)
read_listed (b ∷ answers) zero a h = (omega arith, let same : b ≡ a = cc in same)
read_listed (b ∷ answers) (suc i) a h = let rest = read_listed answers i a h in (omega (arith, rest.0), rest.1)

-- a place that is not found is not listed
pub not_listed : (answers : List LongAnswer) (p : AnswerPlace) (i : ℕ) → IsInOrder answers → IsBinarySearchResult (λ a. place_order a.place p) answers (Err i) → IsListed answers p → ⊥
not_listed answers p i order search listed = by (cases_lt listed.0 i)
  where
    read : (listed.0 < length answers) × (get_or answers listed.0 listed.1 ≡ listed.1)
    read = read_listed answers listed.0 listed.1 listed.2

    here : place_order (get_or answers listed.0 listed.1).place p ≡ Equal
    here = ap (λ (a : LongAnswer). place_order a.place p) read.1 ∙ equal listed.1.place p listed.3

    by : (listed.0 < i) ⊎ (i ≤ listed.0) → ⊥
    by (inl l) = let below : Less ≡ Equal = sym ((search (rises answers p order)).0 listed.0 listed.1 (omega arith) l) ∙ here in cc
    by (inr l) = let above : Greater ≡ Equal = sym ((search (rises answers p order)).1 listed.0 listed.1 l read.0) ∙ here in cc

-- what is found has the names of the answer
pub found_names : (u : Code) (long : List LongAnswer) (p : AnswerPlace) (names : List NameId) (i : ℕ) (a : LongAnswer) → AreLongOf u long → i < length long → IsBinarySearchResult (λ x. place_order x.place p) long (Ok i) → a ≡ get_or long i a
    → names_at u p ≡ Some names → AreEachOnce a.names names
found_names u long p names i a are less search is named =
    let here : a.place ≡ p = same a.place p (ap (λ (x : LongAnswer). place_order x.place p) is ∙ search a) in
    long_at names u long i a are.each (slice_get-get_or long i a less ∙ ap Some (sym is)) (ap (names_at u) here ∙ named)
