-- The first text among the inputs of a command that stops it, and its fault, in terms of the texts alone.
use Rattle.std.specs.Prelude.{◌≡◌, ◌<◌, ◌≤◌, List, [], ◌∷◌, ◌++◌, length, ◌⊎◌}
use Rattle.text_scan.specs.Text.{Text}
use Rattle.command_inputs.specs.declared.fault.Input.{Input}
use Rattle.command_inputs.specs.declared.fault.Fault.{Fault}
use Rattle.command_inputs.specs.declared.fault.Fault.TheVariants as F
use Rattle.command_inputs.specs.Inputs.{limit_of}
use Rattle.pool_driver.specs.Inputs.{IsAccepted, HasFault}

-- the text is within the limit of the input, and it is accepted, given the texts of the inputs before it
abbrev pub Passes : List Text → Input → Text → Type 0
Passes earlier input s = (length s ≤ limit_of input) × IsAccepted earlier input s

-- The text stops a command as this input for this fault, given the texts of the inputs before it. Either it is longer
-- than the limit of the input. Or it is within the limit, has the fault, and is not accepted.
abbrev pub StopsFor : List Text → Input → Text → Fault → Type 0
StopsFor earlier input s f =
    ((limit_of input < length s) × (f ≡ F.TooLong)) ⊎ ((length s ≤ limit_of input) × HasFault earlier input s f × ¬ (IsAccepted earlier input s))

-- The first of these inputs whose text stops a command, and its fault. The texts are those of the inputs, in order;
-- the texts of the inputs before them are given.
abbrev pub StopsFirst : List Text → List Input → List Text → Input → Fault → Type 0
StopsFirst earlier (i ∷ is) (s ∷ ss) input f =
    ((input ≡ i) × StopsFor earlier i s f) ⊎ (Passes earlier i s × StopsFirst (earlier ++ s ∷ []) is ss input f)
StopsFirst earlier _ _ input f = ⊥
