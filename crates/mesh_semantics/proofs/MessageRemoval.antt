-- The list of a pair after the first arrived message for some methods is taken.
use Rattle.std.proofs.Common.{◌≡◌, ◌≢◌, refl, sym, ap, subst, ◌∙◌, ℕ, ◌==◌, List, [], ◌∷◌, ◌++◌, Some, Bool, true, false, ◌||◌, if◌then◌else◌}
use Rattle.run_types.proofs.Laws.{equal, equals, differ, same_some}
use Rattle.mesh_semantics.specs.Kind.{has_name}
use Rattle.mesh_semantics.specs.Moves.{has_message, first_message, without_message}
use Rattle.run_types.specs.Paths.{under, without_first}
use Rattle.mesh_semantics.specs.Delay.{Arrival, is_for}
use Rattle.mesh_semantics.specs.Act.{first_arrival}
use Rattle.mesh_semantics.specs.Sound.{Letter, letters_in, notes, CallsLast}

-- an arrived message as one of its pair
abbrev pub as_letter : Arrival → Letter
as_letter a = record { is_call = a.is_call; message = record { method = a.method; args = a.args } }

module _ (names : List ℕ) where
  abbrev on : Arrival → Bool
  on a = has_name names a.method

  -- the messages of one object without the first on these methods
  abbrev pub rest_of : List Arrival → List Arrival
  rest_of box = without_first on box

  pub under_taken : (o : ℕ) (es : List (ℕ × Arrival)) → under (λ r. r == o) (without_first (is_for o names) es) ≡ rest_of (under (λ r. r == o) es)
  under_taken o [] = refl
  under_taken o (e ∷ es) = by (e.0 == o) (on e.1) refl refl (under_taken o es)
    where
      by : (t u : Bool) → (e.0 == o) ≡ t → has_name names e.1.method ≡ u → under (λ r. r == o) (without_first (is_for o names) es) ≡ rest_of (under (λ r. r == o) es)
          → under (λ r. r == o) (without_first (is_for o names) (e ∷ es)) ≡ rest_of (under (λ r. r == o) (e ∷ es))
      by true true i j k = rw (i, j) refl
      by true false i j k = rw (i, j, i) (ap (λ xs. e.1 ∷ xs) k)
      by false u i j k = rw (i, i) k

  pub under_other : (o q : ℕ) (es : List (ℕ × Arrival)) → q ≢ o → under (λ r. r == q) (without_first (is_for o names) es) ≡ under (λ r. r == q) es
  under_other o q [] n = refl
  under_other o q (e ∷ es) n = by (e.0 == o) (on e.1) refl refl (under_other o q es n)
    where
      here : (b : Bool) → (e.0 == q) ≡ b → under (λ r. r == q) (without_first (is_for o names) es) ≡ under (λ r. r == q) es
          → under (λ r. r == q) (e ∷ without_first (is_for o names) es) ≡ under (λ r. r == q) (e ∷ es)
      here true i k = rw i (ap (λ xs. e.1 ∷ xs) k)
      here false i k = rw i k

      by : (t u : Bool) → (e.0 == o) ≡ t → has_name names e.1.method ≡ u → under (λ r. r == q) (without_first (is_for o names) es) ≡ under (λ r. r == q) es
          → under (λ r. r == q) (without_first (is_for o names) (e ∷ es)) ≡ under (λ r. r == q) (e ∷ es)
      by true true i j k = rw (i, j, differ e.0 q (λ s. n (sym s ∙ equal e.0 o i))) refl
      by true false i j k = rw (i, j) (here (e.0 == q) refl k)
      by false u i j k = rw i (here (e.0 == q) refl k)

  module _ (s : ℕ) (ys : List Letter) where
    -- the letters of s in a box, and those behind them
    abbrev pub all_of : List Arrival → List Letter
    all_of box = letters_in s box ++ ys

    -- a message that is not of s, or is a call
    pub kept : (box : List Arrival) (a : Arrival) → first_arrival names box ≡ Some a → (a.is_call || (if a.sender == s then false else true)) ≡ true
        → notes (all_of (rest_of box)) ≡ notes (all_of box)
    kept [] a h n = refl
    kept (x ∷ box) a h n = by (on x) (x.sender == s) x.is_call refl refl refl (kept box a)
      where
        by : (t u v : Bool) → has_name names x.method ≡ t → (x.sender == s) ≡ u → x.is_call ≡ v
            → (first_arrival names box ≡ Some a → (a.is_call || (if a.sender == s then false else true)) ≡ true → notes (all_of (rest_of box)) ≡ notes (all_of box))
            → notes (all_of (rest_of (x ∷ box))) ≡ notes (all_of (x ∷ box))
        by true false v i j m k = rw (i, j) refl
        by true true true i j m k = rw (i, j, m) refl
        by true true false i j m k = absurd (
            let is : x ≡ a = same_some (rw i at h) in
            let q : (x.is_call || (if x.sender == s then false else true)) ≡ true = subst (λ (z : Arrival). (z.is_call || (if z.sender == s then false else true)) ≡ true) (sym is) n in
            let r : false ≡ true = rw (j, m) at q in cc)
        by false false v i j m k = rw (i, j) (k (rw i at h) n)
        by false true true i j m k = rw (i, j, m) (k (rw i at h) n)
        by false true false i j m k = rw (i, j, m) (ap (λ ms. record { method = x.method; args = x.args } ∷ ms) (k (rw i at h) n))

    -- an asynchronous message of s is the earliest of its pair
    pub earliest : (box : List Arrival) (a : Arrival) → first_arrival names box ≡ Some a → a.is_call ≡ false → a.sender ≡ s
        → (first_message names (notes (all_of box)) ≡ Some (record { method = a.method; args = a.args }))
        × (notes (all_of (rest_of box)) ≡ without_message names (notes (all_of box)))
    earliest [] a h c e = absurd (cc)
    earliest (x ∷ box) a h c e = by (on x) (x.sender == s) x.is_call refl refl refl (earliest box a)
      where
        Goal : List Arrival → Type 0
        Goal b = (first_message names (notes (all_of b)) ≡ Some (record { method = a.method; args = a.args }))
            × (notes (all_of (rest_of b)) ≡ without_message names (notes (all_of b)))

        by : (t u v : Bool) → has_name names x.method ≡ t → (x.sender == s) ≡ u → x.is_call ≡ v
            → (first_arrival names box ≡ Some a → a.is_call ≡ false → a.sender ≡ s
            → (first_message names (notes (all_of box)) ≡ Some (record { method = a.method; args = a.args }))
            × (notes (all_of (rest_of box)) ≡ without_message names (notes (all_of box))))
            → (first_message names (notes (all_of (x ∷ box))) ≡ Some (record { method = a.method; args = a.args }))
            × (notes (all_of (rest_of (x ∷ box))) ≡ without_message names (notes (all_of (x ∷ box))))
        by true u v i j m k =
            let is : x ≡ a = same_some (rw i at h) in
            let y : (x.sender == s) ≡ true = subst (λ n. (n == s) ≡ true) (ap (λ (z : Arrival). z.sender) (sym is)) (rw e (equals s)) in
            let z : x.is_call ≡ false = ap (λ (z : Arrival). z.is_call) is ∙ c in
            (rw (y, z, i) (ap (λ (q : Arrival). Some (record { method = q.method; args = q.args })) is), rw (i, y, z, i) refl)
        by false false v i j m k = let r = k (rw i at h) c e in (rw j r.0, rw (i, j) r.1)
        by false true true i j m k = let r = k (rw i at h) c e in (rw (j, m) r.0, rw (i, j, m) r.1)
        by false true false i j m k = let r = k (rw i at h) c e in (rw (j, m, i) r.0, rw (i, j, m, i) (ap (λ ms. record { method = x.method; args = x.args } ∷ ms) r.1))

    -- before a call of s none of its asynchronous messages is on these methods
    pub none_before : (box : List Arrival) (a : Arrival) → first_arrival names box ≡ Some a → a.is_call ≡ true → a.sender ≡ s
        → CallsLast (all_of box) → has_message names (notes (all_of box)) ≡ false
    none_before [] a h c e o = absurd (cc)
    none_before (x ∷ box) a h c e o = by (on x) (x.sender == s) x.is_call refl refl refl (none_before box a)
      where
        by : (t u v : Bool) → has_name names x.method ≡ t → (x.sender == s) ≡ u → x.is_call ≡ v
            → (first_arrival names box ≡ Some a → a.is_call ≡ true → a.sender ≡ s → CallsLast (all_of box) → has_message names (notes (all_of box)) ≡ false)
            → has_message names (notes (all_of (x ∷ box))) ≡ false
        by true u v i j m k =
            let is : x ≡ a = same_some (rw i at h) in
            let y : (x.sender == s) ≡ true = subst (λ n. (n == s) ≡ true) (ap (λ (z : Arrival). z.sender) (sym is)) (rw e (equals s)) in
            let z : x.is_call ≡ true = ap (λ (z : Arrival). z.is_call) is ∙ c in
            let p : CallsLast (as_letter x ∷ all_of box) = rw y at o in
            let none = p.0 z in
            rw (y, z, none) refl
        by false false v i j m k = rw j (k (rw i at h) c e (rw j at o))
        by false true true i j m k = let p : CallsLast (as_letter x ∷ all_of box) = rw j at o in rw (j, m) (k (rw i at h) c e p.1)
        by false true false i j m k = let p : CallsLast (as_letter x ∷ all_of box) = rw j at o in rw (j, m, i) (k (rw i at h) c e p.1)

    -- where there are no asynchronous messages, there are none after one was taken
    no_notes : (box : List Arrival) → notes (all_of box) ≡ [] → notes (all_of (rest_of box)) ≡ []
    no_notes [] h = h
    no_notes (x ∷ box) h = by (on x) (x.sender == s) x.is_call refl refl refl (no_notes box)
      where
        by : (t u v : Bool) → has_name names x.method ≡ t → (x.sender == s) ≡ u → x.is_call ≡ v → (notes (all_of box) ≡ [] → notes (all_of (rest_of box)) ≡ [])
            → notes (all_of (rest_of (x ∷ box))) ≡ []
        by t true false i j m k = absurd (let q : record { method = x.method; args = x.args } ∷ notes (all_of box) ≡ [] = rw (j, m) at h in cc)
        by true false v i j m k = rw i (rw j at h)
        by true true true i j m k = rw i (rw (j, m) at h)
        by false false v i j m k = rw (i, j) (k (rw j at h))
        by false true true i j m k = rw (i, j, m) (k (rw (j, m) at h))

    -- and no asynchronous message stands behind a call
    pub still_last : (box : List Arrival) → CallsLast (all_of box) → CallsLast (all_of (rest_of box))
    still_last [] o = o
    still_last (x ∷ box) o = by (on x) (x.sender == s) refl refl (still_last box)
      where
        by : (t u : Bool) → has_name names x.method ≡ t → (x.sender == s) ≡ u → (CallsLast (all_of box) → CallsLast (all_of (rest_of box))) → CallsLast (all_of (rest_of (x ∷ box)))
        by true true i j k = let p : CallsLast (as_letter x ∷ all_of box) = rw j at o in rw i p.1
        by true false i j k = rw i (rw j at o)
        by false true i j k = let p : CallsLast (as_letter x ∷ all_of box) = rw j at o in rw (i, j) (λ c. no_notes box (p.0 c), k p.1)
        by false false i j k = rw (i, j) (k (rw j at o))
