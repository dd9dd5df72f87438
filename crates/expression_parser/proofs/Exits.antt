-- The returns of a fault from the functions of the parser.
use Rattle.std.proofs.Common.{◌≡◌, ℕ, List, Result, Ok, Err}
use Rattle.pool_syntax.specs.declared.token.Token.{Token}
use Rattle.pool_syntax.specs.declared.token.Tok.{Tok}
use Rattle.pool_grammar.specs.Rules.{Phrase, Tree, Rule}
use Rattle.expression_parser.specs.declared.fault.SyntaxFault.{SyntaxFault}
use Rattle.expression_parser.specs.declared.fault.SyntaxFault.TheVariants.{Unexpected, TooDeep, Memory}
use Rattle.expression_parser.specs.Reads.{Reads, read, refused}
use Rattle.expression_parser.specs.Parses.{seen, ParsesRule, Refuses}

-- where the rule r at i is refused, the rule s at j is refused at the same token
pub passed_on : {ts : List Tok} {p q : Phrase} {r : Rule (Tree q)} {s : Rule (Tree p)} {i j : ℕ} → ((u : ℕ) → Reads ts q r i (refused u) → Reads ts p s j (refused u)) →
    (e : SyntaxFault) → Refuses ts q r i e → Refuses ts p s j e
passed_on f (Unexpected u) R = f u R
passed_on f (TooDeep u) R = R
passed_on f Memory R = tt

-- what `expect` refuses
pub unexpected : (ts : List Tok) (p : Phrase) (s : Rule (Tree p)) (i u : ℕ) (e : SyntaxFault) → e ≡ Unexpected u → Reads ts p s i (refused u) → Refuses ts p s i e
unexpected ts p s i u e h R = rw h R

-- a result that is returned as it is
pub relay : {A : Type 0} (ts : List Token) (p q : Phrase) (s : Rule (Tree p)) (r : Rule (Tree q)) (i j : ℕ) (v : A → Tree p) (w : A → Tree q) →
    ((x : A) (k : ℕ) → Reads (seen ts) q r i (read (w x) k) → Reads (seen ts) p s j (read (v x) k)) → ((u : ℕ) → Reads (seen ts) q r i (refused u) → Reads (seen ts) p s j (refused u)) →
    (o : Result (A × ℕ) SyntaxFault) → ParsesRule ts q r i w o → ParsesRule ts p s j v o
relay ts p q s r i j v w f g (Ok x) R = f x.0 x.1 R
relay ts p q s r i j v w f g (Err (Unexpected u)) R = g u R
relay ts p q s r i j v w f g (Err (TooDeep u)) R = R
relay ts p q s r i j v w f g (Err Memory) R = tt
