-- Tokens in a part of a list, and the trees that a phrase derives from them.
use Rattle.std.proofs.Common.{◌≡◌, refl, ℕ, ◌+◌, List, [], ◌∷◌, ◌++◌, slice_get, Some, subst}
use Rattle.pool_syntax.specs.declared.token.Tok.{Tok}
use Rattle.pool_syntax.specs.declared.tree.Named.{Named}
use Rattle.pool_grammar.specs.Rules.{Phrase, Tree, Rule, tree}
use Rattle.pool_grammar.specs.Grammar.{rule}
use Rattle.pool_grammar.specs.Derives.{Derives, nothing}
use Rattle.pool_printer.specs.Renumbered.{token_by}

-- the tokens, with other numbers, stand in the list from number i up to number j
abbrev pub Stands : (ℕ → ℕ) → List Tok → List Tok → ℕ → ℕ → Type 0
Stands f ts [] i j = i ≡ j
Stands f ts (t ∷ us) i j = (slice_get ts i ≡ Some (token_by f t)) × Stands f ts us (i + 1) j

-- tokens and then more: where the first end
pub record Cut (f : ℕ → ℕ) (ts us vs : List Tok) (i j : ℕ) : Type 0 where
  pub middle : ℕ
  pub front : Stands f ts us i middle
  pub back : Stands f ts vs middle j

pub split : {f : ℕ → ℕ} {ts : List Tok} (us vs : List Tok) {i j : ℕ} → Stands f ts (us ++ vs) i j → Cut f ts us vs i j
split [] vs s = record { middle = _; front = refl; back = s }
split (u ∷ us) vs s = let c = split us vs s.1 in record { middle = c.middle; front = (s.0, c.front); back = c.back }

-- a tree that the phrase derives from number i up to number j, of which a statement holds
pub record Parsed (ts : List Tok) (p : Phrase) (i j : ℕ) (Same : Tree p → Type 0) : Type 0 where
  pub found : Tree p
  pub derives : Derives ts p (rule p) i j found
  pub same : Same found

-- a tree, of which a statement holds, and how a phrase goes on with it
pub record Ongoing {A : Type 0} (Same Goes : A → Type 0) : Type 0 where
  pub found : A
  pub same : Same found
  pub goes_on : Goes found

-- the end of a rule
pub ended : {ts : List Tok} {p : Phrase} {x : Tree p} {i j : ℕ} → i ≡ j → Derives ts p (tree x) i j x
ended {ts = ts} {p = p} {x = x} {i = i} e = subst (λ (n : ℕ). Derives ts p (tree x) i n x) e nothing

-- the same tree
pub derives_as : {ts : List Tok} {p : Phrase} {r : Rule (Tree p)} {i j : ℕ} {x y : Tree p} → x ≡ y → Derives ts p r i j x → Derives ts p r i j y
derives_as {ts = ts} {p = p} {r = r} {i = i} {j = j} e d = subst (λ (z : Tree p). Derives ts p r i j z) e d

-- from the same number
pub derives_from : {ts : List Tok} {p : Phrase} {r : Rule (Tree p)} {i m j : ℕ} {x : Tree p} → i ≡ m → Derives ts p r i j x → Derives ts p r m j x
derives_from {ts = ts} {p = p} {r = r} {j = j} {x = x} e d = subst (λ (n : ℕ). Derives ts p r n j x) e d

-- a name at its place
abbrev pub named : ℕ → ℕ → Named
named n i = record { name = record { 0 = n }; pos = i }
