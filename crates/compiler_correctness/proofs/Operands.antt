-- Operands of the sorts of a stack, and both without the operands that an instruction takes.
use Rattle.std.proofs.Common.{◌≡◌, ◌⊎◌, inl, inr, refl, sym, ap, subst, ℕ, zero, suc, List, [], ◌∷◌, length, Option, Some, None, Bool, true, false}
use Rattle.std.specs.Prelude.{slice_get, slice_set, take, if◌then◌else◌}
use Rattle.run_types.specs.declared.types.Value.{Value}
use Rattle.run_types.specs.declared.types.Value.TheVariants as V
use Rattle.run_types.specs.declared.types.Kind.{Kind}
use Rattle.run_types.specs.Sorts.{Sort, IntSort, BoolSort, ClassSort, NilSort, NoSort, BrokenSort, is_same_sort}
use Rattle.run_types.proofs.Laws.{equal, same_some, given_by}
use Rattle.run_types.specs.Operands.{top, below, taken, dropped, nth, padded}
use Rattle.code_typing.specs.Sorts.{Stack, kind_sort, result_sort, value_sort, has_value, fits_sort, is_alike, pop_fitting, pop_value, pop_any, pop_alike, pop_arguments, push_sort}
use Rattle.compiler_correctness.specs.TypedCode.{Classes, IsOfSort, AreOfSorts, AreOfKinds}

pub if_some : {A : Type 0} (t : Bool) (x : A) (a : A) → (if t then Some x else None) ≡ Some a → (t ≡ true) × (x ≡ a)
if_some true x a e = (refl, same_some e)
if_some false x a e = absurd (let z : None ≡ Some a = e in cc)

pub push_some : (s : Sort) (x : Option Stack) (r : Stack) → push_sort s x ≡ Some r → (rest : Stack) × (x ≡ Some rest) × (s ∷ rest ≡ r)
push_some s None r e = absurd (let z : None ≡ Some r = e in cc)
push_some s (Some rest) r e = (rest, refl, same_some e)

-- sorts that are the same
pub same_sort : (s t : Sort) → is_same_sort s t ≡ true → s ≡ t
same_sort IntSort IntSort e = refl
same_sort BoolSort BoolSort e = refl
same_sort (ClassSort c) (ClassSort d) e = ap ClassSort (equal c d e)
same_sort NilSort NilSort e = refl
same_sort _ _ e = absurd (let z : false ≡ true = e in cc)

pub fits_is : (s t : Sort) → fits_sort s t ≡ true → (s ≡ NilSort) ⊎ (s ≡ t)
fits_is NilSort t e = inl refl
fits_is IntSort t e = inr (same_sort IntSort t e)
fits_is BoolSort t e = inr (same_sort BoolSort t e)
fits_is (ClassSort c) t e = inr (same_sort (ClassSort c) t e)
fits_is NoSort t e = inr (same_sort NoSort t e)
fits_is BrokenSort t e = inr (same_sort BrokenSort t e)

module _ (at : Classes) where
  -- a value of the sort of nil is nil, and so of every sort
  pub of_nil : (v : Value) (t : Sort) → IsOfSort at v NilSort → IsOfSort at v t
  of_nil V.Nil t h = tt
  of_nil (V.Int z) t h = absurd (let z : NilSort ≡ IntSort = h in cc)
  of_nil (V.Bool b) t h = absurd (let z : NilSort ≡ BoolSort = h in cc)
  of_nil (V.Ref n) t h = absurd (let z : NilSort ≡ ClassSort h.0 = h.2 in cc)

  pub of_fitting : (v : Value) (s t : Sort) → IsOfSort at v s → fits_sort s t ≡ true → IsOfSort at v t
  of_fitting v s t h e = by (fits_is s t e)
    where
      by : (s ≡ NilSort) ⊎ (s ≡ t) → IsOfSort at v t
      by (inl i) = of_nil v t (subst (IsOfSort at v) i h)
      by (inr i) = subst (IsOfSort at v) i h

  -- the value of a method is that of its call
  pub of_result : (v : Value) (r : Option Kind) → IsOfSort at v (value_sort r) → IsOfSort at v (result_sort r)
  of_result v None h = of_nil v NoSort h
  of_result v (Some k) h = h

  pub popped : (need : Sort) (vs : List Value) (ss r : Stack) → AreOfSorts at vs ss → pop_fitting need ss ≡ Some r
      → IsOfSort at (top vs) need × AreOfSorts at (below vs) r
  popped need [] [] r h e = absurd (let z : None ≡ Some r = e in cc)
  popped need (v ∷ vs) (s ∷ ss) r h e =
      let t = if_some (fits_sort s need) ss r e in (of_fitting v s need h.0 t.0, subst (AreOfSorts at vs) t.1 h.1)
  popped need [] (s ∷ ss) r h e = absurd h
  popped need (v ∷ vs) [] r h e = absurd h

  pub popped_any : (vs : List Value) (ss r : Stack) → AreOfSorts at vs ss → pop_any ss ≡ Some r → AreOfSorts at (below vs) r
  popped_any [] [] r h e = absurd (let z : None ≡ Some r = e in cc)
  popped_any (v ∷ vs) (s ∷ ss) r h e = subst (AreOfSorts at vs) (same_some e) h.1
  popped_any [] (s ∷ ss) r h e = absurd h
  popped_any (v ∷ vs) [] r h e = absurd h

  pub popped_value : (vs : List Value) (ss r : Stack) → AreOfSorts at vs ss → pop_value ss ≡ Some r → AreOfSorts at (below vs) r
  popped_value [] [] r h e = absurd (let z : None ≡ Some r = e in cc)
  popped_value (v ∷ vs) (s ∷ ss) r h e = subst (AreOfSorts at vs) (if_some (has_value s) ss r e).1 h.1
  popped_value [] (s ∷ ss) r h e = absurd h
  popped_value (v ∷ vs) [] r h e = absurd h

  pub popped_alike : (vs : List Value) (ss r : Stack) → AreOfSorts at vs ss → pop_alike ss ≡ Some r → AreOfSorts at (below (below vs)) r
  popped_alike (v ∷ w ∷ vs) (t ∷ s ∷ ss) r h e = subst (AreOfSorts at vs) (if_some (is_alike s t) ss r e).1 h.1.1
  popped_alike vs [] r h e = absurd (let z : None ≡ Some r = e in cc)
  popped_alike vs (s ∷ []) r h e = absurd (let z : None ≡ Some r = e in cc)
  popped_alike [] (t ∷ s ∷ ss) r h e = absurd h
  popped_alike (v ∷ []) (t ∷ s ∷ ss) r h e = absurd h.1

-- the operands, one more of which is taken or dropped
pub taken_suc : (n : ℕ) (vs args : List Value) → taken (suc n) vs args ≡ top (dropped n vs) ∷ taken n vs args
taken_suc zero vs args = refl
taken_suc (suc n) vs args = taken_suc n (below vs) (top vs ∷ args)

pub dropped_suc : (n : ℕ) (vs : List Value) → dropped (suc n) vs ≡ below (dropped n vs)
dropped_suc zero vs = refl
dropped_suc (suc n) vs = dropped_suc n (below vs)

module _ (at : Classes) where
  -- the arguments fit the parameters, and the rest fits what is left
  pub popped_arguments : (ks : List Kind) (vs : List Value) (ss r : Stack) → AreOfSorts at vs ss → pop_arguments ks ss ≡ Some r
      → AreOfKinds at (taken (length ks) vs []) ks × AreOfSorts at (dropped (length ks) vs) r
  popped_arguments [] vs ss r h e = (tt, subst (AreOfSorts at vs) (same_some e) h)
  popped_arguments (k ∷ ks) vs ss r h e =
      let t = given_by (pop_arguments ks ss) (λ rest. pop_fitting (kind_sort k) rest) r e in
      let more = popped_arguments ks vs ss t.0 h t.1 in
      let one = popped at (kind_sort k) (dropped (length ks) vs) t.0 r more.1 t.2 in (
        subst (λ ws. AreOfKinds at ws (k ∷ ks)) (sym (taken_suc (length ks) vs [])) (one.0, more.0),
        subst (λ ws. AreOfSorts at ws r) (sym (dropped_suc (length ks) vs)) one.1,
      )

  -- values of kinds, by their places
  pub nth_of_kinds : (vs : List Value) (ks : List Kind) (n : ℕ) (k : Kind) → AreOfKinds at vs ks → slice_get ks n ≡ Some k → IsOfSort at (nth vs n) (kind_sort k)
  nth_of_kinds vs [] n k h e = absurd (let z : None ≡ Some k = e in cc)
  nth_of_kinds [] (j ∷ ks) n k h e = absurd h
  nth_of_kinds (v ∷ vs) (j ∷ ks) zero k h e = subst (λ i. IsOfSort at v (kind_sort i)) (same_some e) h.0
  nth_of_kinds (v ∷ vs) (j ∷ ks) (suc n) k h e = nth_of_kinds vs ks n k h.1 e

  pub set_of_kinds : (vs : List Value) (ks : List Kind) (n : ℕ) (k : Kind) (v : Value) → AreOfKinds at vs ks → slice_get ks n ≡ Some k → IsOfSort at v (kind_sort k)
      → AreOfKinds at (slice_set vs n v) ks
  set_of_kinds vs [] n k v h e p = absurd (let z : None ≡ Some k = e in cc)
  set_of_kinds [] (j ∷ ks) n k v h e p = absurd h
  set_of_kinds (w ∷ vs) (j ∷ ks) zero k v h e p = (subst (λ i. IsOfSort at v (kind_sort i)) (sym (same_some e)) p, h.1)
  set_of_kinds (w ∷ vs) (j ∷ ks) (suc n) k v h e p = (h.0, set_of_kinds vs ks n k v h.1 e p)

  -- nils are of any kinds
  pub nils_of_kinds : (ks : List Kind) → AreOfKinds at (padded (length ks) []) ks
  nils_of_kinds [] = tt
  nils_of_kinds (k ∷ ks) = (tt, nils_of_kinds ks)

  -- arguments for the first p of these kinds, and nil for the others
  pub padded_of_kinds : (ks : List Kind) (p : ℕ) (args : List Value) → AreOfKinds at args (take p ks) → AreOfKinds at (padded (length ks) (take p args)) ks
  padded_of_kinds [] p args h = tt
  padded_of_kinds (k ∷ ks) zero args h = (tt, nils_of_kinds ks)
  padded_of_kinds (k ∷ ks) (suc p) [] h = absurd h
  padded_of_kinds (k ∷ ks) (suc p) (v ∷ args) h = (h.0, padded_of_kinds ks p args h.1)

module _ (at more : Classes) (grows : (n c : ℕ) → at n ≡ Some c → more n ≡ Some c) where
  pub sort_grows : (v : Value) (s : Sort) → IsOfSort at v s → IsOfSort more v s
  sort_grows V.Nil s h = tt
  sort_grows (V.Int z) s h = h
  sort_grows (V.Bool b) s h = h
  sort_grows (V.Ref n) s h = (h.0, grows n h.0 h.1, h.2)

  pub sorts_grow : (vs : List Value) (ss : List Sort) → AreOfSorts at vs ss → AreOfSorts more vs ss
  sorts_grow [] [] h = tt
  sorts_grow (v ∷ vs) (s ∷ ss) h = (sort_grows v s h.0, sorts_grow vs ss h.1)
  sorts_grow [] (s ∷ ss) h = absurd h
  sorts_grow (v ∷ vs) [] h = absurd h
