-- Waiters in lists, and the waiters of one more object.
use Rattle.std.proofs.Common.{◌≡◌, ◌⊎◌, inl, inr, refl, sym, ap, ◌∙◌, subst, ℕ, zero, suc, List, [], ◌∷◌, ◌++◌, Some, None, Bool, true, false, ◌||◌, ◌==◌, ◌<◌, ◌≤◌, ◌+◌, arith}
use Rattle.std.specs.List.{list_any, slice_get}
use Rattle.run_types.proofs.Laws.{equal, same_some}
use Rattle.pool_syntax.specs.Terms.{ProgramTree}
use Rattle.pool_relation.specs.Action.{Object, action}
use Rattle.pool_relation.specs.Configuration.{Configuration, object_of}
use Rattle.reachability.specs.Search.{WaitsAt, is_in_call}
use Rattle.known_names.specs.Awaited.{is_calling}
use Rattle.visited_set.specs.WaiterLists.{HasWaiter, IsOne}
use Rattle.visited_set.specs.declared.waiters.Waiter.{Waiter}

pub has_more : (g : Bool) (at o : ℕ) (ws vs : List Waiter) → HasWaiter g at o ws → HasWaiter g at o (ws ++ vs)
has_more g at o [] vs h = absurd h
has_more g at o (w ∷ ws) vs (inl h) = inl h
has_more g at o (w ∷ ws) vs (inr h) = inr (has_more g at o ws vs h)

pub has_last : (ws : List Waiter) (w : Waiter) → HasWaiter w.goes_on w.entry w.object (ws ++ w ∷ [])
has_last [] w = inl (refl, refl, refl)
has_last (v ∷ ws) w = inr (has_last ws w)

pub has_at : (ws : List Waiter) (i : ℕ) (w : Waiter) → slice_get ws i ≡ Some w → HasWaiter w.goes_on w.entry w.object ws
has_at [] i w h = absurd (let z : None ≡ Some w = h in cc)
has_at (v ∷ ws) zero w h =
    let is : v ≡ w = cc in
    inl (ap (λ (x : Waiter). x.goes_on) is, ap (λ (x : Waiter). x.entry) is, ap (λ (x : Waiter). x.object) is)
has_at (v ∷ ws) (suc i) w h = inr (has_at ws i w h)

pub has_found : (ws : List Waiter) (i : ℕ) (w : Waiter) (g : Bool) (at o : ℕ) → slice_get ws i ≡ Some w → w.goes_on ≡ g → w.entry ≡ at → w.object ≡ o → HasWaiter g at o ws
has_found ws i w g at o h j k l =
    subst (λ (b : Bool). HasWaiter b at o ws) j (subst (λ (n : ℕ). HasWaiter w.goes_on n o ws) k (subst (λ (n : ℕ). HasWaiter w.goes_on w.entry n ws) l (has_at ws i w h)))

-- a number that is found in a list
pub one_found : (o : ℕ) (os : List ℕ) → list_any (λ q. q == o) os ≡ true → IsOne o os
one_found o [] h = absurd (let z : false ≡ true = h in cc)
one_found o (q ∷ qs) h = by (q == o) refl (one_found o qs) h
  where
    by : (b : Bool) → (q == o) ≡ b → (list_any (λ r. r == o) qs ≡ true → IsOne o qs) → (b || list_any (λ r. r == o) qs) ≡ true → IsOne o (q ∷ qs)
    by true is rest i = inl (equal q o is)
    by false is rest i = inr (rest i)

-- a number is below another, or not
pub below_or_from : (a b : ℕ) → (a < b) ⊎ (b ≤ a)
below_or_from zero zero = inr (omega arith)
below_or_from zero (suc b) = inl (omega arith)
below_or_from (suc a) zero = inr (omega arith)
below_or_from (suc a) (suc b) = by (below_or_from a b)
  where
    by : (a < b) ⊎ (b ≤ a) → (suc a < suc b) ⊎ (suc b ≤ suc a)
    by (inl h) = inl (omega arith)
    by (inr h) = inr (omega arith)

-- an object that waits is in a call
calls_where : (p : ProgramTree) (c : Configuration) (o : ℕ) (x : Object) → object_of c o ≡ Some x → WaitsAt p c o → is_calling p o (Some x) ≡ true
calls_where p c o x there w =
    let is : w.object ≡ x = same_some (sym w.there ∙ there) in
    subst (λ (y : Object). is_calling p o (Some y) ≡ true) is (calls w.sound w.waits)
  where
    calls : w.object.fault ≡ None → is_in_call (action p o w.object) ≡ true → is_calling p o (Some w.object) ≡ true
    calls h k = rw h k

-- one more object of an entry
pub added_more : (p : ProgramTree) (c : Configuration) (ws vs : List Waiter) (at i : ℕ) (x : Object) → object_of c i ≡ Some x → ((q : ℕ) → q < i → WaitsAt p c q → HasWaiter false at q ws)
    → ((q : ℕ) → HasWaiter false at q ws → HasWaiter false at q vs) → (is_calling p i (Some x) ≡ true → HasWaiter false at i vs) → (q : ℕ) → q < i + 1 → WaitsAt p c q → HasWaiter false at q vs
added_more p c ws vs at i x there before more here q below waits = by (below_or_from q i)
  where
    by : (q < i) ⊎ (i ≤ q) → HasWaiter false at q vs
    by (inl h) = more q (before q h waits)
    by (inr h) =
        let is : i ≡ q = omega arith in
        let w : WaitsAt p c i = subst (WaitsAt p c) (sym is) waits in
        subst (λ (n : ℕ). HasWaiter false at n vs) is (here (calls_where p c i x there w))
