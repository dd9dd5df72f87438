-- Chains of optional steps.
use Rattle.std.proofs.Common.{◌≡◌, refl, Option, Some, None, Bool, true, false, arith}
use Rattle.run_types.specs.Partial.{◌>>=◌, ◌>>◌, require}

pub assoc : {A B C : Type 0} (m : Option A) (f : A → Option B) (g : B → Option C) → ((m >>= f) >>= g) ≡ (m >>= λ a. f a >>= g)
assoc None f g = refl
assoc (Some a) f g = refl

pub after_test : {B C : Type 0} (t : Bool) (m : Option B) (g : B → Option C) → ((require t >> m) >>= g) ≡ (require t >> (m >>= g))
after_test true m g = refl
after_test false m g = refl

pub alike : {A B : Type 0} (m : Option A) (f g : A → Option B) → ((a : A) → f a ≡ g a) → (m >>= f) ≡ (m >>= g)
alike None f g e = refl
alike (Some a) f g e = e a

-- the same, where the step may use what the value is
pub alike_for : {A B : Type 0} (m : Option A) (f g : A → Option B) → ((a : A) → m ≡ Some a → f a ≡ g a) → (m >>= f) ≡ (m >>= g)
alike_for None f g e = refl
alike_for (Some a) f g e = e a refl

-- a chain that gives nothing, since another one gives nothing
pub none_then : {A B C : Type 0} (m : Option A) (f : A → Option B) (g : A → Option C) → ((a : A) → f a ≡ None → g a ≡ None) → (m >>= f) ≡ None → (m >>= g) ≡ None
none_then None f g e h = refl
none_then (Some a) f g e h = e a h

pub none_after : {A B : Type 0} (m : Option A) (g : A → Option B) → ((a : A) → g a ≡ None) → (m >>= g) ≡ None
none_after None g e = refl
none_after (Some a) g e = e a

-- the same, where the step may use what the value is
pub none_after_for : {A B : Type 0} (m : Option A) (g : A → Option B) → ((a : A) → m ≡ Some a → g a ≡ None) → (m >>= g) ≡ None
none_after_for None g e = refl
none_after_for (Some a) g e = e a refl

pub none_tested : {B : Type 0} (t : Bool) (m : Option B) → m ≡ None → (require t >> m) ≡ None
none_tested true m e = e
none_tested false m e = refl

-- a chain that ends with a value gives nothing only before it
pub none_before : {A B : Type 0} (m : Option A) (f : A → B) → (m >>= λ a. Some (f a)) ≡ None → m ≡ None
none_before None f e = refl
none_before (Some a) f e = absurd (grind (arith, e))
