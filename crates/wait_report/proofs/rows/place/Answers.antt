use Rattle.std.proofs.Common.{◌≡◌, ◌≢◌, ◌⊎◌, inl, inr, ◌<◌, ◌≤◌, arith, sym, refl, subst, ℕ, List, length, get_or, Bool, true, false, nat_lt}
use Rattle.std.proofs.lemmas.List.Sorted.{searched}
use Rattle.std.specs.Prelude.{MatchResult}
use Rattle.run_types.proofs.Laws.{decide}
use Rattle.wait_report.specs.Calls.{Rising}
use Rattle.wait_report.proofs.rows.place.Goals as goal

in_order : (xs : List ℕ) → Rising xs → (i j : ℕ) → i ≤ j → j < length xs → get_or xs i 0 ≤ get_or xs j 0
in_order xs r i j l m = by (decide i j)
  where
    by : (i ≡ j) ⊎ (i ≢ j) → get_or xs i 0 ≤ get_or xs j 0
    by (inl e) = subst (λ z. get_or xs z 0 ≤ get_or xs j 0) (sym e) (omega arith)
    by (inr n) = let k = r i j (let d : i ≢ j = n in omega (arith, l, d)) m in omega (arith, k)

not_there : (xs : List ℕ) (x i : ℕ) → (i ≤ length xs) × ((k : ℕ) → k < i → get_or xs k 0 < x) × ((k : ℕ) → i ≤ k → k < length xs → x < get_or xs k 0)
    → (k : ℕ) → k < length xs → get_or xs k 0 ≢ x
not_there xs x i f k l e = by (nat_lt k i) refl
  where
    by : (t : Bool) → nat_lt k i ≡ t → ⊥
    by true s = let h : k < i = grind (arith, s) in let q = f.1 k h in absurd (omega (arith, q, e))
    by false s = let h : i ≤ k = grind (arith, s) in let q = f.2 k h l in absurd (omega (arith, q, e))

pub returns-in-Err-clause-none : goal.returns-in-Err-clause-none
returns-in-Err-clause-none c =
    let s = searched c.args.numbers.now c.args.name c.binary_search.result c.binary_search.ensures.position (in_order c.args.numbers.now c.requires) in
    not_there c.args.numbers.now c.args.name c.in-Err.field-0
    (subst (λ r. MatchResult r (λ i. (i < length c.args.numbers.now) × (get_or c.args.numbers.now i 0 ≡ c.args.name))
    (λ i. (i ≤ length c.args.numbers.now) × ((k : ℕ) → k < i → get_or c.args.numbers.now k 0 < c.args.name) × ((k : ℕ) → i ≤ k → k < length c.args.numbers.now → c.args.name < get_or c.args.numbers.now k 0)))
    c.in-Err.is s)
