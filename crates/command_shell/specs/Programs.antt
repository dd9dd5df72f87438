-- A program as its calls show it, and the inputs of a request: their order, and when they are accepted.
use Rattle.std.specs.Prelude.{◌≡◌, ℕ, ◌+◌, ◌≤◌, List, [], ◌∷◌, ◌++◌, length, slice_get, Some, Bool, IsTrue}
use Rattle.text_scan.specs.Text.{Text}
use Rattle.pool_outside.specs.Reading.{Told}
use Rattle.command_inputs.specs.declared.fault.Input.{Input}
use Rattle.command_inputs.specs.declared.fault.Fault.{Fault}
use Rattle.command_inputs.specs.Inputs.{limit_of, IsReadAs}
use Rattle.command_shell.specs.declared.status.Status.{Status}

-- A program: its requests, the inputs of each with the names of their files, in the order of reading, and its usage
-- line. A text is accepted as an input given the texts of the inputs before it, or it has a fault.
-- A request may be refused before a file is opened, for a text that the program made itself.
-- The output of a request, given the texts of its inputs, is a text and a status.
pub record Program : Type 1 where
  pub Request : Type 0
  pub inputs : Request → List (Input × Text)
  pub IsAccepted : List Text → Input → Text → Type 0
  pub HasFault : List Text → Input → Text → Fault → Type 0
  pub IsUnfit : Request → Input → Fault → Type 0
  pub IsOutput : Request → List Text → Text → Status → Type 0
  pub usage : Text

-- the next opens may be of these inputs, in their order
abbrev pub MayOpen : (ℕ → Text → Bool) → ℕ → List (Input × Text) → Type 0
MayOpen may opens inputs = (place : ℕ) (input : Input) (name : Text) → slice_get inputs place ≡ Some (input, name) → IsTrue (may (opens + place) name)

-- these texts were read as these inputs, and each is accepted, given the texts before it
abbrev pub WereAccepted : (List Text → Input → Text → Type 0) → Told → List Text → List (Input × Text) → List Text → Type 0
WereAccepted Accepted told earlier [] [] = Unit {0}
WereAccepted Accepted told earlier (i ∷ is) (s ∷ ss) = IsReadAs told i.0 i.1 s × Accepted earlier i.0 s × WereAccepted Accepted told (earlier ++ s ∷ []) is ss
WereAccepted Accepted told earlier _ _ = ⊥

-- each input has a file with a text within the limit, which is accepted, given the texts before it
abbrev pub AreServed : (List Text → Input → Text → Type 0) → Told → List Text → List (Input × Text) → Type 0
AreServed Accepted told earlier [] = Unit {0}
AreServed Accepted told earlier (i ∷ is) =
    (s : Text) × (told i.1 ≡ Some s) × (length s ≤ limit_of i.0) × Accepted earlier i.0 s × AreServed Accepted told (earlier ++ s ∷ []) is
