-- Lists of waiters: objects that wait in calls in the entries of a search, and whether it is noted that they can go on.
use Rattle.std.specs.Prelude.{◌≡◌, ◌⊎◌, ℕ, List, [], ◌∷◌, Some, Bool, true, false, slice_get}
use Rattle.visited_set.specs.declared.waiters.Waiter.{Waiter}

-- some waiter is this object in this entry, and this is noted of it
abbrev pub HasWaiter : Bool → ℕ → ℕ → List Waiter → Type 0
HasWaiter on at o [] = ⊥
HasWaiter on at o (w ∷ ws) = ((w.goes_on ≡ on) × (w.entry ≡ at) × (w.object ≡ o)) ⊎ HasWaiter on at o ws

-- it is not noted that it can go on
abbrev pub IsOpen : Waiter → Type 0
IsOpen w = w.goes_on ≡ false

-- the waiter, where it is noted that it can go on
abbrev pub noted : Waiter → Waiter
noted w = record { entry = w.entry; object = w.object; goes_on = true }

-- the number is in the list
abbrev pub IsOne : ℕ → List ℕ → Type 0
IsOne o [] = ⊥
IsOne o (q ∷ qs) = (q ≡ o) ⊎ IsOne o qs

-- the waiter at this index is one of the entry `at`, and is one of the objects, or can go on in the entry `to`
pub record GoesOnBy (index at to : ℕ) (moved : List ℕ) (ws : List Waiter) : Type 0 where
  pub waiter : Waiter
  pub there : slice_get ws index ≡ Some waiter
  pub entry : waiter.entry ≡ at
  pub by : IsOne waiter.object moved ⊎ HasWaiter true to waiter.object ws
