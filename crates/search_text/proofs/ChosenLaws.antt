-- Rows that are chosen keep rising names.
use Rattle.std.proofs.Common.{◌<◌, ℕ, zero, suc, List, [], ◌∷◌, length, get_or, Bool, true, false, if◌then◌else◌, arith}
use Rattle.run_types.specs.Tables.{Each}
use Rattle.wait_report.specs.declared.rows.ObjectRow.{ObjectRow}
use Rattle.wait_report.specs.Calls.{names_of, Rising}
use Rattle.search_text.specs.ChosenRows.{has_name, rows_of}

above : (n : ℕ) (xs : List ℕ) → Rising (n ∷ xs) → (k : ℕ) → k < length xs → n < get_or xs k 0
above n xs h k l = h 0 (suc k) (omega arith) (omega arith)

rest : (n : ℕ) (xs : List ℕ) → Rising (n ∷ xs) → Rising xs
rest n xs h j k l m = h (suc j) (suc k) (omega arith) (omega arith)

all_above : (n : ℕ) (rs : List ObjectRow) → ((k : ℕ) → k < length (names_of rs) → n < get_or (names_of rs) k 0) → Each (λ (r : ObjectRow). n < r.name) rs
all_above n [] h = tt
all_above n (r ∷ rs) h = (h 0 (omega arith), all_above n rs (λ k l. h (suc k) (omega arith)))

at_above : (n : ℕ) (rs : List ObjectRow) → Each (λ (r : ObjectRow). n < r.name) rs → (k : ℕ) → k < length (names_of rs) → n < get_or (names_of rs) k 0
at_above n [] h k l = absurd (omega arith)
at_above n (r ∷ rs) h zero l = h.0
at_above n (r ∷ rs) h (suc k) l = at_above n rs h.1 k (omega arith)

joined : (n : ℕ) (xs : List ℕ) → ((k : ℕ) → k < length xs → n < get_or xs k 0) → Rising xs → Rising (n ∷ xs)
joined n xs a h j zero l m = absurd (omega arith)
joined n xs a h zero (suc k) l m = a k (omega arith)
joined n xs a h (suc j) (suc k) l m = h j k (omega arith) (omega arith)

chosen_above : (n : ℕ) (names : List ℕ) (rs : List ObjectRow) → Each (λ (r : ObjectRow). n < r.name) rs → Each (λ (r : ObjectRow). n < r.name) (rows_of names rs)
chosen_above n names [] h = tt
chosen_above n names (r ∷ rs) h = by (has_name names r.name) (chosen_above n names rs h.1)
  where
    by : (b : Bool) → Each (λ (s : ObjectRow). n < s.name) (rows_of names rs) → Each (λ (s : ObjectRow). n < s.name) (if b then r ∷ rows_of names rs else rows_of names rs)
    by true k = (h.0, k)
    by false k = k

pub rising_chosen : (names : List ℕ) (rs : List ObjectRow) → Rising (names_of rs) → Rising (names_of (rows_of names rs))
rising_chosen names [] h = h
rising_chosen names (r ∷ rs) h = by (has_name names r.name) (rising_chosen names rs (rest r.name (names_of rs) h))
  where
    by : (b : Bool) → Rising (names_of (rows_of names rs)) → Rising (names_of (if b then r ∷ rows_of names rs else rows_of names rs))
    by true k = joined r.name (names_of (rows_of names rs)) (at_above r.name (rows_of names rs) (chosen_above r.name names rs (all_above r.name rs (above r.name (names_of rs) h)))) k
    by false k = k
