-- The patterns that the rows of a table stand for: each is made of patterns of earlier rows.
use Rattle.std.specs.Prelude.{◌≡◌, ◌<◌, ℕ, List, [], ◌∷◌, ◌++◌, length, get_or, nat_lt, Bool, true, false, not, ◌&&◌}
use Rattle.patterns.specs.Patterns.{Pattern, Never, Nothing, One, Any, Either, Then, Both, Repeated, is_nullable, is_void}
use Rattle.patterns.specs.declared.node.Node.{Node}
use Rattle.patterns.specs.declared.node.Node.TheVariants as N
use Rattle.patterns.specs.declared.node.Row.{Row}

-- the pattern with this number among these
abbrev pub numbered : List Pattern → ℕ → Pattern
numbered ps n = get_or ps n Never

-- the pattern of a node, whose parts have these numbers
abbrev pub node_pattern : List Pattern → Node → Pattern
node_pattern ps N.Never = Never
node_pattern ps N.Nothing = Nothing
node_pattern ps (N.One i) = One i
node_pattern ps N.Any = Any
node_pattern ps (N.Either a b) = Either (numbered ps a) (numbered ps b)
node_pattern ps (N.Then a b) = Then (numbered ps a) (numbered ps b)
node_pattern ps (N.Both a b) = Both (numbered ps a) (numbered ps b)
node_pattern ps (N.Repeated a) = Repeated (numbered ps a)

-- the patterns, and after them that of each row
abbrev pub with_rows : List Pattern → List Row → List Pattern
with_rows ps [] = ps
with_rows ps (r ∷ rs) = with_rows (ps ++ node_pattern ps r.node ∷ []) rs

-- the parts of the node have numbers below n
abbrev pub is_within : ℕ → Node → Bool
is_within n (N.Either a b) = nat_lt a n && nat_lt b n
is_within n (N.Then a b) = nat_lt a n && nat_lt b n
is_within n (N.Both a b) = nat_lt a n && nat_lt b n
is_within n (N.Repeated a) = nat_lt a n
is_within n _ = true

abbrev pub is_equal : Bool → Bool → Bool
is_equal true b = b
is_equal false b = not b

-- the row has parts with smaller numbers, and tells truly whether its pattern is nullable, and whether it is void
abbrev pub is_right : List Pattern → Row → Bool
is_right ps r = is_within (length ps) r.node && (is_equal r.nullable (is_nullable (node_pattern ps r.node)) && is_equal r.void (is_void (node_pattern ps r.node)))

-- so does each of these rows
abbrev pub are_right : List Pattern → List Row → Bool
are_right ps [] = true
are_right ps (r ∷ rs) = is_right ps r && are_right (ps ++ node_pattern ps r.node ∷ []) rs

-- patterns were added at the end
abbrev pub IsGrown : List Pattern → List Pattern → Type 0
IsGrown old new = (added : List Pattern) × (new ≡ old ++ added)

-- the pattern with this number is this one
pub record HasPattern (ps : List Pattern) (n : ℕ) (r : Pattern) : Type 0 where
  pub within : n < length ps
  pub is : numbered ps n ≡ r
