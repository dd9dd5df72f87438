-- Rules that a token cannot continue.
use Rattle.std.specs.Prelude.{ℕ, ◌+◌, List}
use Rattle.pool_syntax.specs.declared.token.Tok.{Tok}
use Rattle.pool_grammar.specs.Rules.{Phrase, Tree, Rule}
use Rattle.pool_grammar.specs.Derives.{Derives, Begins}
use Rattle.expression_parser.specs.Reads.{GoesOn, Stops}

-- What may stand behind the phrase q: no token that begins the rest r goes on with q, and where r may be empty, nor does what ends p.
pub record Clear (ts : List Tok) (p : Phrase) (r : Rule (Tree p)) (q : Phrase) : Type 0 where
  pub begun : (k : ℕ) → Begins ts p r k (k + 1) → Stops ts q k
  pub empty : (k : ℕ) (x : Tree p) → Derives ts p r k k x → Stops ts p k → Stops ts q k

-- The alternative r of the phrase p is not the one at token number i.
pub record Off (ts : List Tok) (p : Phrase) (r : Rule (Tree p)) (i : ℕ) : Type 0 where
  pub begun : Begins ts p r i (i + 1) → ⊥
  pub empty : (x : Tree p) → Derives ts p r i i x → Stops ts p i → ⊥

-- The rule r, which is not empty, is not the one at token number i.
pub record Misses (ts : List Tok) (p : Phrase) (r : Rule (Tree p)) (i : ℕ) : Type 0 where
  pub begun : Begins ts p r i (i + 1) → ⊥
  pub empty : (x : Tree p) → Derives ts p r i i x → ⊥

-- what ends p ends q
abbrev pub Within : Phrase → Phrase → Type 0
Within q p = (t : Tok) → GoesOn q t → GoesOn p t
