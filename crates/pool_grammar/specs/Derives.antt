-- The derivation relation of the grammar: which tokens a rule derives, with which tree, and which tokens begin it.
-- Tokens are numbered from 0, and a position in a tree is the number of a token.
use Rattle.std.specs.Prelude.{◌≡◌, ℕ, ◌+◌, List, Some, length, slice_get}
use Rattle.pool_syntax.specs.declared.token.Tok.{Tok}
use Rattle.pool_syntax.specs.declared.token.Tok.TheVariants as tok
use Rattle.pool_syntax.specs.Terms.{ClassTree}
use Rattle.pool_grammar.specs.Rules.{Phrase, program, Tree, Part, word, sign, name, integer, string, end, operator, phrase, SemanticValue, Rule, tree, then, either}
use Rattle.pool_grammar.specs.Grammar.{rule, operator_of}

-- the token with the number i is this part of a rule, which is no phrase, and its semantic value is y
abbrev pub IsToken : List Tok → (part : Part) → ℕ → SemanticValue part → Type 0
IsToken ts (word k) i y = (slice_get ts i ≡ Some (tok.Word k)) × (y ≡ i)
IsToken ts (sign s) i y = (slice_get ts i ≡ Some (tok.Sign s)) × (y ≡ i)
IsToken ts name i y = (slice_get ts i ≡ Some (tok.Name y.name)) × (y.pos ≡ i)
IsToken ts integer i y = (slice_get ts i ≡ Some (tok.Int y.0)) × (y.1 ≡ i)
IsToken ts string i y = slice_get ts i ≡ Some (tok.Str y)
IsToken ts end i y = (slice_get ts i ≡ Some tok.End) × (y ≡ i)
IsToken ts (operator level) i y = (t : Tok) × (slice_get ts i ≡ Some t) × (operator_of level t ≡ Some y.0) × (y.1 ≡ i)
IsToken ts (phrase p) i y = ⊥

-- the rule derives the tokens from the number i up to the number j, without j, as this tree
pub data Derives (ts : List Tok) : (p : Phrase) → Rule (Tree p) → ℕ → ℕ → Tree p → Type 0 where
  nothing : {p : Phrase} {x : Tree p} {i : ℕ} → Derives ts p (tree x) i i x
  token : {p : Phrase} {part : Part} {rest : SemanticValue part → Rule (Tree p)} {i j : ℕ} {x : Tree p} (y : SemanticValue part) →
      IsToken ts part i y → Derives ts p (rest y) (i + 1) j x → Derives ts p (then part rest) i j x
  inner : {p q : Phrase} {rest : Tree q → Rule (Tree p)} {i m j : ℕ} {x : Tree p} (y : Tree q) →
      Derives ts q (rule q) i m y → Derives ts p (rest y) m j x → Derives ts p (then (phrase q) rest) i j x
  first : {p : Phrase} {r s : Rule (Tree p)} {i j : ℕ} {x : Tree p} → Derives ts p r i j x → Derives ts p (either r s) i j x
  second : {p : Phrase} {r s : Rule (Tree p)} {i j : ℕ} {x : Tree p} → Derives ts p s i j x → Derives ts p (either r s) i j x

-- the tokens from the number i up to the number j, without j, are a prefix of tokens that the rule may derive: there
-- are none, or some parts of the rule derive them up to a place, and the rest begins the next part
pub data Begins (ts : List Tok) : (p : Phrase) → Rule (Tree p) → ℕ → ℕ → Type 0 where
  none : {p : Phrase} {r : Rule (Tree p)} {i : ℕ} → Begins ts p r i i
  past_token : {p : Phrase} {part : Part} {rest : SemanticValue part → Rule (Tree p)} {i j : ℕ} (y : SemanticValue part) →
      IsToken ts part i y → Begins ts p (rest y) (i + 1) j → Begins ts p (then part rest) i j
  within : {p q : Phrase} {rest : Tree q → Rule (Tree p)} {i j : ℕ} →
      Begins ts q (rule q) i j → Begins ts p (then (phrase q) rest) i j
  past : {p q : Phrase} {rest : Tree q → Rule (Tree p)} {i m j : ℕ} (y : Tree q) →
      Derives ts q (rule q) i m y → Begins ts p (rest y) m j → Begins ts p (then (phrase q) rest) i j
  of_first : {p : Phrase} {r s : Rule (Tree p)} {i j : ℕ} → Begins ts p r i j → Begins ts p (either r s) i j
  of_second : {p : Phrase} {r s : Rule (Tree p)} {i j : ℕ} → Begins ts p s i j → Begins ts p (either r s) i j

-- the tokens are this program
abbrev pub IsProgram : List Tok → List ClassTree → Type 0
IsProgram ts p = Derives ts program (rule program) 0 (length ts) p

-- the token with the number i is the first one with which the tokens up to it begin no program
abbrev pub IsFirstUnexpected : List Tok → ℕ → Type 0
IsFirstUnexpected ts i = Begins ts program (rule program) 0 i × (Begins ts program (rule program) 0 (i + 1) → ⊥)
