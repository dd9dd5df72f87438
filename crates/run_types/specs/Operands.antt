-- Lists of values as an operand stack with its top first, and as parameters and locals.
use Rattle.std.specs.Prelude.{ℕ, zero, suc, List, [], ◌∷◌}
use Rattle.run_types.specs.declared.types.Value.{Value}
use Rattle.run_types.specs.declared.types.Value.TheVariants as V

-- the top of the stack; nil if the stack is empty
abbrev pub top : List Value → Value
top [] = V.Nil
top (v ∷ vs) = v

-- the stack without its top
abbrev pub below : List Value → List Value
below [] = []
below (v ∷ vs) = vs

-- the stack without its top n operands
abbrev pub dropped : ℕ → List Value → List Value
dropped zero vs = vs
dropped (suc n) vs = dropped n (below vs)

-- the top n operands, in the order in which they were pushed, followed by args
abbrev pub taken : ℕ → List Value → List Value → List Value
taken zero vs args = args
taken (suc n) vs args = taken n (below vs) (top vs ∷ args)

-- the value at this index, or nil
abbrev pub nth : List Value → ℕ → Value
nth [] n = V.Nil
nth (v ∷ vs) zero = v
nth (v ∷ vs) (suc n) = nth vs n

-- the first n values of vs, with nil for each that is missing
abbrev pub padded : ℕ → List Value → List Value
padded zero vs = []
padded (suc n) vs = top vs ∷ padded n (below vs)
