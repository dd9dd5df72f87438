-- Operations on optional values: chains of steps that may each give nothing, tests, and faults in order.
use Rattle.std.specs.Prelude.{Option, Some, None, Bool, true, false}

infixl 1 ◌>>=◌
-- continues with the value, if there is one
abbrev pub ◌>>=◌ : {A B : Type 0} → Option A → (A → Option B) → Option B
None >>= next = None
Some a >>= next = next a

infixl 1 ◌>>◌
-- continues without the value, if there is one
abbrev pub ◌>>◌ : {A B : Type 0} → Option A → Option B → Option B
None >> next = None
Some a >> next = next

-- continues only if the test holds
abbrev pub require : Bool → Option (Unit {0})
require true = Some tt
require false = None

-- the optional value if the test holds, and nothing otherwise
abbrev pub only_if : {A : Type 0} → Bool → Option A → Option A
only_if true a = a
only_if false a = None

-- the fault if the test fails, and otherwise the next result
abbrev pub unless : {F : Type 0} → Bool → F → Option F → Option F
unless true fault next = next
unless false fault next = Some fault
