-- The steps of a run: each label is a step, but local transitions of one object in a row are one step.
use Rattle.std.specs.Prelude.{ℕ, suc, ◌==◌, List, [], ◌∷◌, Option, Some, None, is_some, Bool, false, if◌then◌else◌}
use Rattle.run_types.specs.declared.types.Label.{Label}
use Rattle.run_types.specs.declared.types.Label.TheVariants as L

-- the object of a local transition
abbrev pub local_of : Label → Option ℕ
local_of (L.Local o) = Some o
local_of (L.New o p c) = None
local_of (L.Answer p o m args) = None
local_of (L.Return p o v) = None
local_of (L.Send o p m args) = None
local_of (L.Take p o m args) = None
local_of (L.Write o item) = None
local_of (L.Pick o i) = None
local_of (L.Fault o e) = None

abbrev pub is_same_object : Option ℕ → Option ℕ → Bool
is_same_object (Some o) (Some q) = o == q
is_same_object _ _ = false

-- both are local transitions of one object
abbrev pub are_one : Label → Label → Bool
are_one l m = is_same_object (local_of l) (local_of m)

-- the label before the steps, each with the number of times it is made
abbrev pub with_step : Label → List (Label × ℕ) → List (Label × ℕ)
with_step l [] = (l, 1) ∷ []
with_step l (s ∷ rest) = if are_one l s.0 then (l, suc s.1) ∷ rest else (l, 1) ∷ s ∷ rest

abbrev pub steps : List Label → List (Label × ℕ)
steps [] = []
steps (l ∷ ls) = with_step l (steps ls)

-- the number of labels that are not local transitions
abbrev pub other_than_local : List Label → ℕ
other_than_local [] = 0
other_than_local (l ∷ ls) = if is_some (local_of l) then other_than_local ls else suc (other_than_local ls)
