-- Properties and relations as images of functions, so that a contract can quantify over them. Every property is such
-- an image: its function maps a value that has the property, with the evidence, to the value.
use Rattle.std.specs.Prelude.{◌≡◌, ℕ}

-- the value is in the image of the function
abbrev pub IsGiven : {K X : Type 0} → (K → X) → X → Type 0
IsGiven {K} f x = (k : K) × (f k ≡ x)

-- the function gives the two values together under the name o
abbrev pub AreGiven : {K S T : Type 0} → (K → ℕ × S × T) → ℕ → S → T → Type 0
AreGiven {K} f o x y = (k : K) × (f k ≡ (o, x, y))
