-- How a count of faults rises, and which prefix of a text a sink has after a failed write.
use Rattle.std.specs.Prelude.{◌≡◌, ℕ, ◌-◌, ◌^◌, ◌<◌, ◌≤◌, ◌⊎◌, List, ◌++◌, length, take, Option, Some, None}

-- the count rose, or it is at the last value of its type, a u64
abbrev pub Rose : ℕ → ℕ → Type 0
Rose old new = (old < new) ⊎ (2 ^ 64 - 1 ≤ new)

-- if its bytes are known, the sink has those from the start, followed by a prefix of the text that is not all of it
abbrev pub IsProperFront : Option (List ℕ) → List ℕ → Option (List ℕ) → Type 0
IsProperFront (Some start) text written = (n : ℕ) × (n < length text) × (written ≡ Some (start ++ take n text))
IsProperFront None text written = written ≡ None
