-- Worked patterns, which compute: a lock, a barrier, orders, and what is after_items after some items.
use Rattle.std.proofs.Common.{◌≡◌, refl, true, false, ℕ, pos, [], ◌∷◌}
use Rattle.run_types.specs.declared.types.Value.TheVariants as V
use Rattle.run_types.specs.declared.types.Item.{Item}
use Rattle.run_types.specs.declared.types.Item.TheVariants as I
use Rattle.patterns.specs.Patterns.{Pattern, Never, Nothing, One, Any, Either, Then, Both, Repeated, is_nullable, is_void, after_items}

abbrev number : ℕ → Item
number n = I.Value (V.Int (pos n))

abbrev one : ℕ → Pattern
one n = One (number n)

-- ( 1 1 | 2 2 )*
abbrev lock : Pattern
lock = Repeated (Either (Then (one 1) (one 1)) (Then (one 2) (one 2)))

lock_at_first : is_nullable (after_items lock []) ≡ true
lock_at_first = refl

lock_once : after_items lock (number 1 ∷ []) ≡ Then (one 1) lock
lock_once = refl

lock_is_held : is_nullable (after_items lock (number 1 ∷ [])) ≡ false
lock_is_held = refl

lock_again : after_items lock (number 1 ∷ number 1 ∷ []) ≡ lock
lock_again = refl

lock_round : after_items lock (number 2 ∷ number 2 ∷ number 1 ∷ number 1 ∷ []) ≡ lock
lock_round = refl

lock_broken : is_void (after_items lock (number 1 ∷ number 2 ∷ [])) ≡ true
lock_broken = refl

-- 1 & 2 & 3
abbrev orders : Pattern
orders = Both (one 1) (Both (one 2) (one 3))

orders_begun : after_items orders (number 2 ∷ []) ≡ Both (one 1) (one 3)
orders_begun = refl

orders_done : is_nullable (after_items orders (number 2 ∷ number 3 ∷ number 1 ∷ [])) ≡ true
orders_done = refl

orders_twice : is_void (after_items orders (number 2 ∷ number 2 ∷ [])) ≡ true
orders_twice = refl

-- ( 1 & 1 ) ( 2 & 2 )
abbrev barrier : Pattern
barrier = Then (Both (one 1) (one 1)) (Both (one 2) (one 2))

barrier_waits : after_items barrier (number 1 ∷ []) ≡ Then (one 1) (Both (one 2) (one 2))
barrier_waits = refl

barrier_broken : is_void (after_items barrier (number 1 ∷ number 2 ∷ [])) ≡ true
barrier_broken = refl

barrier_done : is_nullable (after_items barrier (number 1 ∷ number 1 ∷ number 2 ∷ number 2 ∷ [])) ≡ true
barrier_done = refl

-- . * 1: 1 can be written again
abbrev again : Pattern
again = Then (Repeated Any) (one 1)

again_not_yet : after_items again (number 2 ∷ []) ≡ again
again_not_yet = refl

again_now : is_nullable (after_items again (number 2 ∷ number 1 ∷ [])) ≡ true
again_now = refl

again_and_on : after_items again (number 1 ∷ number 2 ∷ []) ≡ again
again_and_on = refl

-- any object stands for any other
objects_alike : is_nullable (after_items (One (I.Value (V.Ref 0))) (I.Value (V.Ref 7) ∷ [])) ≡ true
objects_alike = refl

-- nothing but the empty list, and no list at all
empty_alone : after_items (Then Nothing (one 1)) (number 1 ∷ []) ≡ Nothing
empty_alone = refl

none : is_void (Then (one 1) Never) ≡ true
none = refl
