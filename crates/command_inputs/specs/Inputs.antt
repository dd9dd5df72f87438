-- The size limits of inputs, the text that was read of an input, and the faults for which an input stops a command.
use Rattle.std.specs.Prelude.{◌≡◌, ℕ, ◌≤◌, length, IfSome, ◌<◌, true, false}
use Rattle.text_scan.specs.Text.{Text}
use Rattle.command_inputs.specs.declared.fault.Input.{Input}
use Rattle.command_inputs.specs.declared.fault.Input.TheVariants as I
use Rattle.pool_outside.specs.Reading.{Told, Reading}
use Rattle.command_inputs.specs.declared.fault.Fault.{Fault}
use Rattle.command_inputs.specs.declared.fault.Fault.TheVariants as F

-- the largest numbers of bytes: of most inputs, of a record, and of an object code file
abbrev pub most_bytes : ℕ
most_bytes = 1048576

abbrev pub most_of_record : ℕ
most_of_record = 67108864

abbrev pub most_of_unit : ℕ
most_of_unit = 16777216

abbrev pub limit_of : Input → ℕ
limit_of I.Program = most_bytes
limit_of I.Placement = most_bytes
limit_of I.Schedule = most_bytes
limit_of I.Record = most_of_record
limit_of I.Unit = most_of_unit

-- the largest number of bytes of one read
abbrev pub one_read : ℕ
one_read = 65536

-- The text was read under the name of this input. It is the known text of the name, if one is known, and it is within
-- the limit.
abbrev pub IsReadAs : Told → Input → Text → Text → Type 0
IsReadAs told input name s = IfSome (told name) (λ t. s ≡ t) × (length s ≤ limit_of input)

-- this text was the last one that was read, up to its end
abbrev pub WasRead : Reading → Input → Text → Text → Type 0
WasRead k input name s = IsReadAs k.told input name s × (length s ≡ k.given) × (k.live ≡ false)

-- The input stops the command for this fault. Either more bytes than its limit were read, and the text continues. Or it
-- was read whole, and its text has the fault and is not accepted.
pub data Stops (k : Reading) (input : Input) (name : Text) (Accepted : Text → Type 0) (Faulty : Text → Fault → Type 0) (fault : Fault) : Type 0 where
  too_long : fault ≡ F.TooLong → limit_of input < k.given → k.live ≡ true → IfSome (k.told name) (λ s. k.given ≤ length s) → Stops k input name Accepted Faulty fault
  faulty : (s : Text) → WasRead k input name s → Faulty s fault → (Accepted s → ⊥) → Stops k input name Accepted Faulty fault
