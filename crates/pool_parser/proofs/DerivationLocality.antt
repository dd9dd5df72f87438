-- A derivation depends only on the tokens that it derives.
use Rattle.std.proofs.Common.{◌≡◌, ℕ, ◌<◌, ◌≤◌, List, slice_get, ◌∙◌, arith}
use Rattle.pool_syntax.specs.declared.token.Tok.{Tok}
use Rattle.pool_grammar.specs.Rules.{Phrase, Tree, Part, word, sign, name, integer, string, end, operator, phrase, SemanticValue, Rule}
use Rattle.pool_grammar.specs.Derives.{IsToken, Derives, nothing, token, inner, first, second, Begins, none, past_token, within, past, of_first, of_second}
use Rattle.expression_parser.proofs.Laws.{at_least, begins_at_least}

-- two lists have the same tokens below number n
abbrev pub AgreeBelow : List Tok → List Tok → ℕ → Type 0
AgreeBelow ts us n = (i : ℕ) → i < n → slice_get us i ≡ slice_get ts i

token_agrees : (ts us : List Tok) (n i : ℕ) (part : Part) (y : SemanticValue part) → AgreeBelow ts us n → i < n → IsToken ts part i y → IsToken us part i y
token_agrees ts us n i (word k) y a l h = (a i l ∙ h.0, h.1)
token_agrees ts us n i (sign s) y a l h = (a i l ∙ h.0, h.1)
token_agrees ts us n i name y a l h = (a i l ∙ h.0, h.1)
token_agrees ts us n i integer y a l h = (a i l ∙ h.0, h.1)
token_agrees ts us n i string y a l h = a i l ∙ h
token_agrees ts us n i end y a l h = (a i l ∙ h.0, h.1)
token_agrees ts us n i (operator level) y a l h = (h.0, a i l ∙ h.1, h.2, h.3)
token_agrees ts us n i (phrase p) y a l h = absurd h

pub Derives-agrees : {ts : List Tok} (us : List Tok) (n : ℕ) {p : Phrase} {r : Rule (Tree p)} {i j : ℕ} {x : Tree p} → AgreeBelow ts us n → j ≤ n → Derives ts p r i j x → Derives us p r i j x
Derives-agrees us n a l nothing = nothing
Derives-agrees us n a l (token y h d) = let b : _ ≤ _ = at_least d in token y (token_agrees _ us n _ _ y a (omega arith) h) (Derives-agrees us n a l d)
Derives-agrees us n a l (inner y c d) = let b : _ ≤ _ = at_least d in inner y (Derives-agrees us n a (omega arith) c) (Derives-agrees us n a l d)
Derives-agrees us n a l (first d) = first (Derives-agrees us n a l d)
Derives-agrees us n a l (second d) = second (Derives-agrees us n a l d)

pub Begins-agrees : {ts : List Tok} (us : List Tok) (n : ℕ) {p : Phrase} {r : Rule (Tree p)} {i j : ℕ} → AgreeBelow ts us n → j ≤ n → Begins ts p r i j → Begins us p r i j
Begins-agrees us n a l none = none
Begins-agrees us n a l (past_token y h b) = let c : _ ≤ _ = begins_at_least b in past_token y (token_agrees _ us n _ _ y a (omega arith) h) (Begins-agrees us n a l b)
Begins-agrees us n a l (within b) = within (Begins-agrees us n a l b)
Begins-agrees us n a l (past y d b) = let c : _ ≤ _ = begins_at_least b in past y (Derives-agrees us n a (omega arith) d) (Begins-agrees us n a l b)
Begins-agrees us n a l (of_first b) = of_first (Begins-agrees us n a l b)
Begins-agrees us n a l (of_second b) = of_second (Begins-agrees us n a l b)
