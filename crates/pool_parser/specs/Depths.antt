-- The state of the pass that computes depths: the numbers of brackets and operators that hold the next token.
use Rattle.std.specs.Prelude.{◌≡◌, ℕ, zero, suc, ◌+◌, Bool, true, false, List, [], ◌∷◌}
use Rattle.pool_syntax.specs.declared.token.Tok.{Tok}
use Rattle.pool_grammar.specs.Nesting as n
use Rattle.pool_grammar.specs.Nesting.{open_before}
use Rattle.pool_parser.specs.declared.nesting.TokenRole.{TokenRole}
use Rattle.pool_parser.specs.declared.nesting.TokenRole.TheVariants.{Opening, Beginning, Closing, Operating, Parting, Plain}
use Rattle.pool_parser.specs.declared.nesting.Level.{Level}

-- the role that a role of the code represents
abbrev pub role_of : TokenRole → n.Role
role_of Opening = n.opening
role_of Beginning = n.beginning
role_of Closing = n.closing
role_of Operating = n.operating
role_of Parting = n.parting
role_of Plain = n.plain

-- the depth of a token of this role, after tokens of this level
abbrev pub depth_at : TokenRole → Level → ℕ
depth_at Opening l = 1 + l.held
depth_at Operating l = 1 + l.held
depth_at Plain l = l.held
depth_at _ l = l.parted

-- the number for the next token, which is held or parted
abbrev pub level_at : Bool → Level → ℕ
level_at true l = l.held
level_at false l = l.parted

-- the number at the level that is left after `closed` brackets are closed; the levels go from the inside to the
-- outside
abbrev pub stack_level : Bool → ℕ → List Level → ℕ
stack_level held closed [] = 0
stack_level held zero (l ∷ ls) = level_at held l
stack_level held (suc closed) (l ∷ ls) = stack_level held closed ls

-- the levels are those of the tokens, of which the last one comes first
abbrev pub Counts : List Tok → List Level → Type 0
Counts before levels = (held : Bool) (closed : ℕ) → open_before held closed before ≡ stack_level held closed levels
