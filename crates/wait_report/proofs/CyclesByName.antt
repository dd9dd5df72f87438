-- The cycles by names are the cycles by indices.
use Rattle.std.proofs.Common.{◌≡◌, ◌≢◌, ◌⊎◌, inl, inr, refl, sym, ap, subst, ◌∙◌, ℕ, zero, suc, ◌+◌, ◌<◌, ◌≤◌, ◌==◌, List, [], ◌∷◌, ◌++◌, length, map, get_or, drop, Option, Some, None, Bool, true, false, nat_lt, cond, arith}
use Rattle.std.specs.Option.{option_map}
use Rattle.std.specs.Prelude.{filter_map}
use Rattle.std.specs.List.{cons_option}
use Rattle.std.proofs.Math.Seq.{drop-cons}
use Rattle.std.proofs.lemmas.List.{length-map}
use Rattle.run_types.specs.Partial.{◌>>=◌}
use Rattle.mesh_semantics.specs.Standing.{chase}
use Rattle.run_types.proofs.Laws.{decide, equals, differ}
use Rattle.wait_report.specs.declared.rows.ObjectRow.{ObjectRow}
use Rattle.wait_report.specs.Calls.{names_of, calls_of, Rising, IsNext, AreNext}
use Rattle.wait_report.specs.Report.{called_in, cycles_text, called}
use Rattle.wait_report.specs.Cycles.{jump, cycle_at, AreStarts}

rises_on : (x : ℕ) (xs : List ℕ) → Rising (x ∷ xs) → Rising xs
rises_on x xs r j k l m = r (suc j) (suc k) (omega (arith, l)) (omega (arith, m))

below : (x y : ℕ) → x < y → nat_lt x y ≡ true
below x y h = grind (arith, h)

not_below : (x y : ℕ) → y ≤ x → nat_lt x y ≡ false
not_below x y h = grind (arith, h)

-- what the object at a place calls
called_at : (rows : List ObjectRow) (k : ℕ) → Rising (names_of rows) → k < length rows → called_in rows (get_or (names_of rows) k 0) ≡ get_or (calls_of rows) k None
called_at [] k r l = absurd (omega (arith, l))
called_at (x ∷ rows) zero r l = ap (λ b. cond b (called x.standing) (called_in rows x.name)) (equals x.name)
called_at (x ∷ rows) (suc k) r l =
    let m : x.name < get_or (names_of rows) k 0 = r zero (suc k) (omega arith) (let n : length (names_of rows) ≡ length rows = length-map rows (λ r. r.name) in omega (arith, l, n)) in
    ap (λ b. cond b (called x.standing) (called_in rows (get_or (names_of rows) k 0))) (differ x.name (get_or (names_of rows) k 0) (λ e. absurd (omega (arith, e, m))))
    ∙ called_at rows k (rises_on x.name (names_of rows) r) (omega (arith, l))

-- a name that is not there calls none
absent : (rows : List ObjectRow) (b : ℕ) → ((k : ℕ) → k < length (names_of rows) → get_or (names_of rows) k 0 ≢ b) → called_in rows b ≡ None
absent [] b f = refl
absent (x ∷ rows) b f =
    ap (λ t. cond t (called x.standing) (called_in rows b)) (differ x.name b (f zero (omega arith))) ∙ absent rows b (λ k l. f (suc k) (omega (arith, l)))

-- one step of a chase
abbrev pub stepped : (ℕ → Option ℕ) → ℕ → ℕ → ℕ → Option ℕ → Option (List ℕ)
stepped calls n first o z = z >>= λ b. cond (b == first) (Some (o ∷ [])) (cond (nat_lt first b) (chase calls n first b >>= λ ns. Some (o ∷ ns)) None)

abbrev chosen : Bool → Bool → Option (List ℕ) → Option (List ℕ) → Option (List ℕ)
chosen t u x y = cond t x (cond u y None)

no_chase : (calls : ℕ → Option ℕ) (n first o : ℕ) → calls o ≡ None → chase calls n first o ≡ None
no_chase calls zero first o e = refl
no_chase calls (suc n) first o e = ap (stepped calls n first o) e

module _ (rows : List ObjectRow) (next : List (Option ℕ)) (rises : Rising (names_of rows)) (are : AreNext (names_of rows) rows next) where
  abbrev name : ℕ → ℕ
  name k = get_or (names_of rows) k 0

  many : length (names_of rows) ≡ length rows
  many = length-map rows (λ r. r.name)

  abbrev in_names : Option (List ℕ) → Option (List ℕ)
  in_names o = option_map (map name) o

  apart : (j k : ℕ) → j < length rows → k < length rows → name j ≡ name k → j ≡ k
  apart j k l m e = by (nat_lt j k) (nat_lt k j) refl refl
    where
      by : (t u : Bool) → nat_lt j k ≡ t → nat_lt k j ≡ u → j ≡ k
      by true u s v = absurd (let h : j < k = grind (arith, s) in let r = rises j k h (omega (arith, m, many)) in omega (arith, r, e))
      by false true s v = absurd (let h : k < j = grind (arith, v) in let r = rises k j h (omega (arith, l, many)) in omega (arith, r, e))
      by false false s v = let g : k ≤ j = grind (arith, s) in let h : j ≤ k = grind (arith, v) in omega (arith, g, h)

  same_name : (k i : ℕ) → k < length rows → i < length rows → (name k == name i) ≡ (k == i)
  same_name k i l m = by (decide k i)
    where
      by : (k ≡ i) ⊎ (k ≢ i) → (name k == name i) ≡ (k == i)
      by (inl e) = subst (λ z. (name z == name i) ≡ (z == i)) (sym e) (equals (name i) ∙ sym (equals i))
      by (inr n) = differ (name k) (name i) (λ e. n (apart k i l m e)) ∙ sym (differ k i n)

  same_order : (i k : ℕ) → i < length rows → k < length rows → nat_lt (name i) (name k) ≡ nat_lt i k
  same_order i k l m = by (nat_lt i k) refl
    where
      by : (t : Bool) → nat_lt i k ≡ t → nat_lt (name i) (name k) ≡ t
      by true e = let h : i < k = grind (arith, e) in below (name i) (name k) (rises i k h (omega (arith, m, many)))
      by false e = by_same (decide k i)
        where
          by_same : (k ≡ i) ⊎ (k ≢ i) → nat_lt (name i) (name k) ≡ false
          by_same (inl s) = subst (λ z. nat_lt (name i) (name z) ≡ false) (sym s) (not_below (name i) (name i) (omega arith))
          by_same (inr n) =
              let h : k < i = (let g : k ≤ i = grind (arith, e) in let d : k ≢ i = n in omega (arith, g, d)) in
              let r = rises k i h (omega (arith, l, many)) in
              not_below (name i) (name k) (omega (arith, r))

  pub same_chase : (n i j : ℕ) → i < length rows → j < length rows → chase (called_in rows) n (name i) (name j) ≡ in_names (chase (jump next) n i j)
  same_chase zero i j l m = refl
  same_chase (suc n) i j l m =
      ap (stepped (called_in rows) n (name i) (name j)) (called_at rows j rises m)
      ∙ by (get_or (calls_of rows) j None) (get_or next j None) (are.each j m) (λ k h. same_chase n i k l h)
    where
      by : (c p : Option ℕ) → IsNext (names_of rows) c p → ((k : ℕ) → k < length rows → chase (called_in rows) n (name i) (name k) ≡ in_names (chase (jump next) n i k))
          → stepped (called_in rows) n (name i) (name j) c ≡ in_names (stepped (jump next) n i j p)
      by None None e go = refl
      by None (Some k) e go = absurd (cc)
      by (Some b) None f go = gone (b == name i) (nat_lt (name i) b) refl
        where
          gone : (t u : Bool) → (b == name i) ≡ t → chosen (b == name i) (nat_lt (name i) b) (Some (name j ∷ [])) (chase (called_in rows) n (name i) b >>= λ ns. Some (name j ∷ ns)) ≡ None
          gone true u e = absurd (let d = differ b (name i) (λ s. f i (omega (arith, l, many)) (sym s)) in let q = sym e ∙ d in cc)
          gone false u e =
              ap (λ t. chosen t (nat_lt (name i) b) (Some (name j ∷ [])) (chase (called_in rows) n (name i) b >>= λ ns. Some (name j ∷ ns))) e
              ∙ ap (λ z. chosen false (nat_lt (name i) b) (Some (name j ∷ [])) (z >>= λ ns. Some (name j ∷ ns))) (no_chase (called_in rows) n (name i) b (absent rows b f))
              ∙ none (nat_lt (name i) b)
            where
              none : (u : Bool) → ◌≡◌ {A = Option (List ℕ)} (cond u None None) None
              none true = refl
              none false = refl
      by (Some b) (Some k) q go =
          let h = q.0 in
          let lk : k < length rows = omega (arith, h, many) in
          subst (λ z. stepped (called_in rows) n (name i) (name j) (Some z) ≡ in_names (stepped (jump next) n i j (Some k))) q.1
          (ap (λ t. chosen t (nat_lt (name i) (name k)) (Some (name j ∷ [])) (chase (called_in rows) n (name i) (name k) >>= λ ns. Some (name j ∷ ns))) (same_name k i lk l)
          ∙ ap (λ u. chosen (k == i) u (Some (name j ∷ [])) (chase (called_in rows) n (name i) (name k) >>= λ ns. Some (name j ∷ ns))) (same_order i k l lk)
          ∙ ap (λ o. chosen (k == i) (nat_lt i k) (Some (name j ∷ [])) (o >>= λ ns. Some (name j ∷ ns))) (go k lk)
          ∙ moved (k == i) (nat_lt i k) (chase (jump next) n i k))
        where
          moved : (t u : Bool) (o : Option (List ℕ)) → chosen t u (Some (name j ∷ [])) (in_names o >>= λ ns. Some (name j ∷ ns)) ≡ in_names (chosen t u (Some (j ∷ [])) (o >>= λ ns. Some (j ∷ ns)))
          moved true u o = refl
          moved false true None = refl
          moved false true (Some ns) = refl
          moved false false o = refl

  -- the cycles that are told from a place on
  abbrev pub told_from : List ObjectRow → List (List ℕ)
  told_from rest = filter_map (λ r. chase (called_in rows) (length rows) r.name r.name) rest

  one_more : (o : Option (List ℕ)) (r : ObjectRow) (rest : List ObjectRow) → chase (called_in rows) (length rows) r.name r.name ≡ in_names o
      → cycles_text (told_from (r ∷ rest)) ≡ cycle_at (names_of rows) o ++ cycles_text (told_from rest)
  one_more None r rest e = ap (λ z. cycles_text (cons_option z (told_from rest))) e
  one_more (Some ns) r rest e = ap (λ z. cycles_text (cons_option z (told_from rest))) e

  row_named : (rows : List ObjectRow) (k : ℕ) (d : ObjectRow) → k < length rows → (get_or rows k d).name ≡ get_or (names_of rows) k 0
  row_named [] k d l = absurd (omega (arith, l))
  row_named (x ∷ rows) zero d l = refl
  row_named (x ∷ rows) (suc k) d l = row_named rows k d (omega (arith, l))

  pub told_step : (k : ℕ) (d : ObjectRow) → k < length rows
      → cycles_text (told_from (drop k rows)) ≡ cycle_at (names_of rows) (chase (jump next) (length next) k k) ++ cycles_text (told_from (drop (k + 1) rows))
  told_step k d l =
      let e : suc k ≡ k + 1 = omega arith in
      let s : chase (called_in rows) (length rows) (get_or rows k d).name (get_or rows k d).name ≡ in_names (chase (jump next) (length next) k k) =
      subst (λ z. chase (called_in rows) (length rows) z z ≡ in_names (chase (jump next) (length next) k k)) (sym (row_named rows k d l))
      (same_chase (length rows) k k l l ∙ ap (λ n. in_names (chase (jump next) n k k)) (sym are.many)) in
      ap (λ z. cycles_text (told_from z)) (drop-cons rows k d l)
      ∙ one_more (chase (jump next) (length next) k k) (get_or rows k d) (drop (suc k) rows) s
      ∙ ap (λ n. cycle_at (names_of rows) (chase (jump next) (length next) k k) ++ cycles_text (told_from (drop n rows))) e

  -- where a place has no mark, no cycle is told from it
  pub unmarked : (starts : List Bool) (k : ℕ) → AreStarts next starts → k < length next → get_or starts k false ≡ false → cycle_at (names_of rows) (chase (jump next) (length next) k k) ≡ []
  unmarked starts k m l e = by (chase (jump next) (length next) k k) refl
    where
      by : (o : Option (List ℕ)) → chase (jump next) (length next) k k ≡ o → cycle_at (names_of rows) o ≡ []
      by None s = refl
      by (Some ns) s = absurd (let t = m k l (λ n. absurd (let q = sym s ∙ n in cc)) in let q = sym e ∙ t in cc)
