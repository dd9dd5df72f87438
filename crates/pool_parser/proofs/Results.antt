-- The answer on the whole list, or on a prefix of it, determines the program or the fault.
use Rattle.std.proofs.Common.{◌≡◌, ℕ, ◌+◌, ◌-◌, ◌<◌, ◌≤◌, List, Result, Ok, Err, IfOk, MatchResult, length, take, min, refl, sym, subst₂, arith}
use Rattle.pool_lexer.specs.TokenLists.{EndsInEnd}
use Rattle.pool_syntax.specs.Tokens.{toks}
use Rattle.pool_grammar.specs.Programs.{HasProgram, IsShallowBelow}
use Rattle.pool_syntax.specs.declared.token.Token.{Token}
use Rattle.pool_syntax.specs.declared.token.Tok.{Tok}
use Rattle.pool_syntax.specs.declared.tree.Program.{Program}
use Rattle.pool_syntax.specs.Terms.{ProgramTree}
use Rattle.pool_grammar.specs.Rules.{program}
use Rattle.pool_grammar.specs.Grammar.{rule}
use Rattle.pool_grammar.specs.Derives.{Begins, IsFirstUnexpected}
use Rattle.pool_grammar.specs.Nesting.{nesting, IsFirstTooDeep}
use Rattle.pool_syntax.specs.TreeOf.{program_of}
use Rattle.expression_parser.specs.declared.fault.SyntaxFault.{SyntaxFault}
use Rattle.expression_parser.specs.declared.fault.SyntaxFault.TheVariants.{Unexpected, TooDeep, Memory}
use Rattle.expression_parser.specs.Reads.{ReadsPhrase, read, refused}
use Rattle.expression_parser.specs.Parses.{seen}
use Rattle.pool_parser.specs.Declarations.{AnswersProgram, ParsesProgram}
use Rattle.expression_parser.proofs.Laws.{front_of, shorter, begins_within}
use Rattle.pool_parser.proofs.DerivationLocality.{AgreeBelow, Begins-agrees}
use Rattle.pool_parser.proofs.TokenPrefix.{toks_length, whole_front, whole_length, front_agrees, front_reaches}

-- all tokens but the last End were looked at
pub whole_answer : (list : List Token) (n : ℕ) (r : Result Program SyntaxFault) → EndsInEnd (toks list) → n + 1 ≡ length list → ParsesProgram (take n list) r → AnswersProgram (toks list) (length (toks list)) r
whole_answer list n r e l A = subst₂ (λ (ts : List Tok) (m : ℕ). AnswersProgram ts m r) (whole_front list n e l) (whole_length list n l) A

pub shallow_all : (list : List Token) → IsShallowBelow (toks list) (length list) → IsShallowBelow (toks list) (length (toks list))
shallow_all list s k l = s k (omega (arith, toks_length list))

module _ (ts : List Tok) where
  pub answer_ok : (r : Result Program SyntaxFault) → AnswersProgram ts (length ts) r → IsShallowBelow ts (length ts) → IfOk r (λ p. HasProgram ts (program_of p))
  answer_ok (Ok p) A s = (A.sound _ _ refl, s)
  answer_ok (Err e) A s = tt

  pub answer_unexpected : (r : Result Program SyntaxFault) → AnswersProgram ts (length ts) r → IsShallowBelow ts (length ts) → (t : ℕ) → r ≡ Err (Unexpected t) → IsFirstUnexpected ts t × IsShallowBelow ts t
  answer_unexpected (Ok p) A s t h = cc
  answer_unexpected (Err (Unexpected u)) A s t h = let e : u ≡ t = cc in let l : u ≤ length ts = begins_within A.begun (omega arith) in rw (← e) ((A.begun, A.ends), λ k m. s k (omega arith))
  answer_unexpected (Err (TooDeep u)) A s t h = absurd A
  answer_unexpected (Err Memory) A s t h = cc

  pub answer_deep : (r : Result Program SyntaxFault) → AnswersProgram ts (length ts) r → (t : ℕ) → r ≡ Err (TooDeep t) → IsFirstTooDeep ts t × Begins ts program (rule program) 0 (t + 1)
  answer_deep (Ok p) A t h = cc
  answer_deep (Err (Unexpected u)) A t h = cc
  answer_deep (Err (TooDeep u)) A t h = absurd A
  answer_deep (Err Memory) A t h = cc

  pub answer_only : (r : Result Program SyntaxFault) → AnswersProgram ts (length ts) r → (p : ProgramTree) → HasProgram ts p → MatchResult r (λ q. program_of q ≡ p) (λ f. f ≡ Memory)
  answer_only (Ok q) A p d = let e : read (program_of q) (length ts) ≡ read p (length ts) = A.only p (length ts) d.0 (λ t h g. g) in cc
  answer_only (Err (Unexpected u)) A p d = let e : refused u ≡ read p (length ts) = A.only p (length ts) d.0 (λ t h g. g) in cc
  answer_only (Err (TooDeep u)) A p d = absurd A
  answer_only (Err Memory) A p d = refl

  -- a token that stands too deep leaves no program
  pub deep_only : (d : ℕ) (p : ProgramTree) → d < length ts → IsFirstTooDeep ts d → HasProgram ts p → ⊥
  deep_only d p l h q = let a : nesting ts d ≤ 200 = q.1 d l in omega (arith, h.0)

  -- what was read of the tokens up to number d

  pub deep_read : (us : List Tok) (d m : ℕ) (p : ProgramTree) → AgreeBelow ts us (d + 1) → d + 1 ≤ m → ReadsPhrase us program 0 (read p m) → Begins ts program (rule program) 0 (d + 1)
  deep_read us d m p a l R = Begins-agrees ts (d + 1) (λ i k. sym (a i k)) (omega arith) (front_of (d + 1) (R.sound p m refl) (omega arith) l)

  pub deep_later : (us : List Tok) (d u : ℕ) → AgreeBelow ts us (d + 1) → d < u → ReadsPhrase us program 0 (refused u) → Begins ts program (rule program) 0 (d + 1)
  deep_later us d u a l R = Begins-agrees ts (d + 1) (λ i k. sym (a i k)) (omega arith) (shorter (d + 1) R.begun (omega arith) (omega arith))

  pub deep_before : (us : List Tok) (d u : ℕ) → AgreeBelow ts us (d + 1) → u ≤ d → ReadsPhrase us program 0 (refused u) → IsFirstUnexpected ts u
  deep_before us d u a l R = (Begins-agrees ts (d + 1) (λ i k. sym (a i k)) (omega arith) R.begun, λ b. R.ends (Begins-agrees us (d + 1) a (omega arith) b))

-- the same of the front of the list that ends with token number d, or before the last one

module _ (list : List Token) (d n : ℕ) (e : EndsInEnd (toks list)) (l : d < length list) (m : n ≡ min (d + 1) (length list - 1)) where
  pub front_read : (p : Program) → ParsesProgram (take n list) (Ok p) → Begins (toks list) program (rule program) 0 (d + 1)
  front_read p A = deep_read (toks list) (seen (take n list)) d (length (take n list) + 1) (program_of p) (front_agrees list d n e l m) (front_reaches list d n l m) A

  pub front_unexpected : (f : SyntaxFault) (t : ℕ) → ParsesProgram (take n list) (Err f) → f ≡ Unexpected t → t ≤ d → IsFirstUnexpected (toks list) t
  front_unexpected f t A h k = deep_before (toks list) (seen (take n list)) d t (front_agrees list d n e l m) k (rw h at A)

  pub front_later : (f : SyntaxFault) (u : ℕ) → ParsesProgram (take n list) (Err f) → f ≡ Unexpected u → d < u → Begins (toks list) program (rule program) 0 (d + 1)
  front_later f u A h k = deep_later (toks list) (seen (take n list)) d u (front_agrees list d n e l m) k (rw h at A)

  pub front_never : (f : SyntaxFault) (t : ℕ) → ParsesProgram (take n list) (Err f) → f ≡ TooDeep t → ⊥
  front_never f t A h = rw h at A
