-- The returns of a fault where names, a colon and a kind are read in the middle of a rule.
use Rattle.std.proofs.Common.{◌≡◌, ℕ, List}
use Rattle.pool_syntax.specs.declared.token.Tok.{Tok}
use Rattle.pool_syntax.specs.declared.tree.Var.{Var}
use Rattle.pool_grammar.specs.Rules.{Phrase, Tree, Rule}
use Rattle.expression_parser.specs.declared.fault.SyntaxFault.{SyntaxFault}
use Rattle.expression_parser.specs.declared.fault.SyntaxFault.TheVariants.{Unexpected, TooDeep, Memory}
use Rattle.expression_parser.specs.Reads.{Reads, refused}
use Rattle.expression_parser.specs.Parses.{Refuses}
use Rattle.pool_parser.specs.Tails.{declared_part}
use Rattle.pool_parser.specs.Declarations.{RefusesDeclared}

pub declared_on : {ts : List Tok} {q : Phrase} {r : Rule (Tree q)} {i j : ℕ} (vs : List Var) →
    ((u : ℕ) → Reads ts q r i (refused u) → (p : Phrase) (f : List Var → Rule (Tree p)) → Reads ts p (declared_part p vs f) j (refused u)) →
    (e : SyntaxFault) → Refuses ts q r i e → RefusesDeclared ts vs j e
declared_on vs f (Unexpected u) R = f u R
declared_on vs f (TooDeep u) R = R
declared_on vs f Memory R = tt

pub declared_unexpected : (ts : List Tok) (vs : List Var) (i u : ℕ) (e : SyntaxFault) → e ≡ Unexpected u → ((p : Phrase) (f : List Var → Rule (Tree p)) → Reads ts p (declared_part p vs f) i (refused u)) → RefusesDeclared ts vs i e
declared_unexpected ts vs i u e h R = rw h R

-- where a declaration is refused, so is a phrase around it
pub declared_off : {ts : List Tok} {p : Phrase} {s : Rule (Tree p)} {i j : ℕ} (vs : List Var) →
    ((u : ℕ) → ((q : Phrase) (f : List Var → Rule (Tree q)) → Reads ts q (declared_part q vs f) i (refused u)) → Reads ts p s j (refused u)) →
    (e : SyntaxFault) → RefusesDeclared ts vs i e → Refuses ts p s j e
declared_off vs f (Unexpected u) R = f u R
declared_off vs f (TooDeep u) R = R
declared_off vs f Memory R = tt
