-- The bytes of a buffered sink, as contracts see them: those of the inner sink, followed by the buffered ones.
use Rattle.std.specs.Prelude.{ℕ, Bool, true, List, ◌++◌, length, Option, Some, option_map, nat_le, IsTrue}

-- the bytes of a sink, followed by those that are buffered for it
abbrev pub gathered : Option (List ℕ) → List ℕ → Option (List ℕ)
gathered written bytes = option_map (λ w. w ++ bytes) written

-- whether there are no fewer bytes now than at the start, if both are known
abbrev pub has_grown : Option (List ℕ) → Option (List ℕ) → Bool
has_grown (Some s) (Some w) = nat_le (length s) (length w)
has_grown _ _ = true

-- there are no fewer bytes now than at the start, if both are known
abbrev pub HasGrown : Option (List ℕ) → Option (List ℕ) → Type 0
HasGrown start written = IsTrue (has_grown start written)
