-- The kind of an object's next action, in any language of objects.
use Rattle.std.specs.Prelude.{ℕ, ◌==◌, List, [], Option, Some, None, is_none, Bool, true, false, ◌&&◌}
use Rattle.std.specs.List.{list_any}
use Rattle.run_types.specs.declared.types.Value.{Value}
use Rattle.run_types.specs.declared.types.Item.{Item}
use Rattle.run_types.specs.declared.types.Error.{Error}
use Rattle.run_types.specs.Values.{is_same}
use Rattle.run_types.specs.Same.{are_same, is_same_item, error_number}

-- an alternative of a select whose guards are evaluated; names are the methods that it answers, or None if it is plain
pub record Alternative : Type 0 where
  pub is_open : Bool
  pub names : Option (List ℕ)

pub data Kind : Type 0 where
  Finished : Kind
  -- a transition of this object alone
  Local : Kind
  Fault : (error : Error) → Kind
  New : (class : ℕ) → Kind
  Send : (receiver method : ℕ) (args : List Value) → Kind
  Async : (receiver method : ℕ) (args : List Value) → Kind
  Write : (item : Item) → Kind
  -- an answer is a select with one open alternative
  Select : (alternatives : List Alternative) → Kind
  Return : (caller : ℕ) (value : Value) → Kind
  Waits : (receiver method : ℕ) → Kind
  -- a value of a wrong sort, or a name that is not declared
  Stuck : Kind

-- the action is local
abbrev pub is_local : Kind → Bool
is_local Local = true
is_local _ = false

-- the action makes an object of this class
abbrev pub makes : Kind → ℕ → Bool
makes (New c) k = c == k
makes _ k = false

-- the action calls this method of r with these arguments
abbrev pub calls : Kind → ℕ → ℕ → List Value → Bool
calls (Send b m args) r n values = b == r && m == n && are_same args values
calls _ r n values = false

-- the action sends this message to r
abbrev pub posts : Kind → ℕ → ℕ → List Value → Bool
posts (Async b m args) r n values = b == r && m == n && are_same args values
posts _ r n values = false

-- the action returns this value to o
abbrev pub returns : Kind → ℕ → Value → Bool
returns (Return k v) o w = k == o && is_same v w
returns _ o w = false

-- the action waits for r
abbrev pub waits_on : Kind → ℕ → Bool
waits_on (Waits b m) r = b == r
waits_on _ r = false

-- the action writes this item
abbrev pub writes : Kind → Item → Bool
writes (Write i) j = is_same_item i j
writes _ j = false

-- the action is this error
abbrev pub fails : Kind → Error → Bool
fails (Fault e) f = error_number e == error_number f
fails _ f = false

-- whether the list has the method
abbrev pub has_name : List ℕ → ℕ → Bool
has_name names m = list_any (λ n. n == m) names

-- the methods that an alternative answers; a plain one answers none
abbrev pub answered : Option (List ℕ) → List ℕ
answered None = []
answered (Some names) = names

-- the alternative is open and answers the method
abbrev pub answers : Alternative → ℕ → Bool
answers a m = a.is_open && has_name (answered a.names) m

-- the alternative is open and plain
abbrev pub is_plain : Alternative → Bool
is_plain a = a.is_open && is_none a.names

-- the alternatives of a select; another action has none
abbrev pub alternatives : Kind → List Alternative
alternatives (Select alts) = alts
alternatives _ = []
