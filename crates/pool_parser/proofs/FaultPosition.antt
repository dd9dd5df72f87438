-- The parser reports the first fault at its token.
use Rattle.std.proofs.Common.{◌≡◌, ℕ, ◌+◌, ◌<◌, ◌≤◌, ◌⊎◌, inl, inr, ⊎_elim, List, Result, Ok, Err, IfOk, length, refl, ap, arith}
use Rattle.std.proofs.lemmas.Bool.{cases_lt}
use Rattle.pool_syntax.specs.declared.token.Tok.{Tok}
use Rattle.pool_syntax.specs.declared.tree.Program.{Program}
use Rattle.pool_grammar.specs.Rules.{program}
use Rattle.pool_grammar.specs.Grammar.{rule}
use Rattle.pool_grammar.specs.Derives.{Begins, IsFirstUnexpected}
use Rattle.pool_grammar.specs.Nesting.{nesting, IsFirstTooDeep}
use Rattle.pool_grammar.specs.Programs.{HasProgram, IsShallowBelow}
use Rattle.pool_syntax.specs.TreeOf.{program_of}
use Rattle.expression_parser.specs.declared.fault.SyntaxFault.{SyntaxFault}
use Rattle.expression_parser.specs.declared.fault.SyntaxFault.TheVariants.{Unexpected, TooDeep, Memory}
use Rattle.expression_parser.proofs.Laws.{begun_of, begins_within, shorter}

-- no more tokens begin a program than stand before the first unexpected one
at_most : (ts : List Tok) (t n : ℕ) → IsFirstUnexpected ts t → Begins ts program (rule program) 0 n → n ≤ t
at_most ts t n f b = ⊎_elim (λ (l : t < n). absurd (f.1 (shorter (t + 1) b (omega arith) (omega (arith, l))))) (λ (l : n ≤ t). l) (cases_lt t n)

pub unexpected_there : (ts : List Tok) (r : Result Program SyntaxFault) → IfOk r (λ p. HasProgram ts (program_of p))
    → ((u : ℕ) → r ≡ Err (Unexpected u) → IsFirstUnexpected ts u × IsShallowBelow ts u)
    → ((u : ℕ) → r ≡ Err (TooDeep u) → IsFirstTooDeep ts u × Begins ts program (rule program) 0 (u + 1))
    → (t : ℕ) → t < length ts → IsFirstUnexpected ts t → IsShallowBelow ts t → (r ≡ Err (Unexpected t)) ⊎ (r ≡ Err Memory)
unexpected_there ts (Ok p) ok unexpected deep t l f s =
    let k : length ts ≤ t = at_most ts t (length ts) f (begun_of ok.0) in
    let z : ⊥ = omega (arith, k, l) in absurd z
unexpected_there ts (Err (Unexpected u)) ok unexpected deep t l f s =
    let g = unexpected u refl in
    let a : u ≤ t = at_most ts t u f g.0.0 in
    let b : t ≤ u = at_most ts u t g.0 f.0 in
    let e : u ≡ t = omega (arith, a, b) in inl (ap (λ (n : ℕ). Err (Unexpected n)) e)
unexpected_there ts (Err (TooDeep u)) ok unexpected deep t l f s =
    let g = deep u refl in
    let a : u + 1 ≤ t = at_most ts t (u + 1) f g.1 in
    let b : nesting ts u ≤ 200 = s u (omega (arith, a)) in
    let z : ⊥ = omega (arith, b, g.0.0) in absurd z
unexpected_there ts (Err Memory) ok unexpected deep t l f s = inr refl

pub too_deep_there : (ts : List Tok) (r : Result Program SyntaxFault) → IfOk r (λ p. HasProgram ts (program_of p))
    → ((u : ℕ) → r ≡ Err (Unexpected u) → IsFirstUnexpected ts u × IsShallowBelow ts u)
    → ((u : ℕ) → r ≡ Err (TooDeep u) → IsFirstTooDeep ts u × Begins ts program (rule program) 0 (u + 1))
    → (t : ℕ) → IsFirstTooDeep ts t → Begins ts program (rule program) 0 (t + 1) → (r ≡ Err (TooDeep t)) ⊎ (r ≡ Err Memory)
too_deep_there ts (Ok p) ok unexpected deep t f b =
    let k : t + 1 ≤ length ts = begins_within b (omega arith) in
    let a : nesting ts t ≤ 200 = ok.1 t (omega (arith, k)) in
    let z : ⊥ = omega (arith, a, f.0) in absurd z
too_deep_there ts (Err (Unexpected u)) ok unexpected deep t f b =
    let g = unexpected u refl in
    let k : t + 1 ≤ u = at_most ts u (t + 1) g.0 b in
    let a : nesting ts t ≤ 200 = g.1 t (omega (arith, k)) in
    let z : ⊥ = omega (arith, a, f.0) in absurd z
too_deep_there ts (Err (TooDeep u)) ok unexpected deep t f b =
    let g = deep u refl in
    let e : u ≡ t = ⊎_elim
    (λ (l : u < t). let a : nesting ts u ≤ 200 = f.1 u l in omega (arith, a, g.0.0))
    (λ (l : t ≤ u). ⊎_elim
    (λ (m : t < u). let a : nesting ts t ≤ 200 = g.0.1 t m in omega (arith, a, f.0))
    (λ (m : u ≤ t). omega (arith, l, m))
    (cases_lt t u))
    (cases_lt u t) in
    inl (ap (λ (n : ℕ). Err (TooDeep n)) e)
too_deep_there ts (Err Memory) ok unexpected deep t f b = inr refl
