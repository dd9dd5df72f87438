-- The parsing of single tokens in rules.
use Rattle.std.proofs.Common.{◌≡◌, ◌≢◌, ℕ, ◌+◌, Bool, true, false, List, Option, Some, None, slice_get, refl}
use Rattle.text_scan.specs.declared.keywords.Keyword.{Keyword}
use Rattle.pool_syntax.specs.declared.token.Sign.{Sign}
use Rattle.pool_syntax.specs.declared.token.Tok.{Tok}
use Rattle.pool_syntax.specs.declared.token.Tok.TheVariants as tok
use Rattle.pool_syntax.specs.declared.tree.Named.{Named}
use Rattle.run_types.specs.declared.types.NameId.{NameId}
use Rattle.pool_grammar.specs.Rules.{Level, Phrase, Tree, word, sign, name, operator, SemanticValue, Rule, tree, then}
use Rattle.pool_grammar.specs.Grammar.{operator_of}
use Rattle.expression_parser.specs.Reads.{GoesOn, Outcome, read, refused, Reads}
use Rattle.expression_parser.proofs.ClearRules.{Clear, Misses, Off}
use Rattle.expression_parser.proofs.RuleComposition.{reads_tree, reads_token, reads_missing, misses_token, off}

-- one token is not two
pub clash : (f : Tok → Bool) {o : Option Tok} {t u : Tok} → o ≡ Some t → o ≡ Some u → f t ≡ false → f u ≡ true → ⊥
clash f {t = t} {u = u} h a k l = let e : t ≡ u = cc in let n : f u ≡ false = rw e at k in cc

-- behind a phrase that nothing goes on with, every rule may stand
pub clear_any : {ts : List Tok} {p q : Phrase} {r : Rule (Tree p)} → ((t : Tok) → GoesOn q t → ⊥) → Clear ts p r q
clear_any n = record { begun = λ k b t h g. n t g; empty = λ k x d s t h g. n t g }

module _ {ts : List Tok} {p : Phrase} where
  -- one token at the end of a rule
  pub sign_there : {x : Tree p} {s : Sign} {i : ℕ} → slice_get ts i ≡ Some (tok.Sign s) → Reads ts p (then (sign s) (λ y. tree x)) i (read x (i + 1))
  sign_there h = reads_token tt _ (h, refl) reads_tree

  pub word_there : {x : Tree p} {w : Keyword} {i : ℕ} → slice_get ts i ≡ Some (tok.Word w) → Reads ts p (then (word w) (λ y. tree x)) i (read x (i + 1))
  word_there h = reads_token tt _ (h, refl) reads_tree

  -- one token, and the rest
  pub sign_read : {f : ℕ → Rule (Tree p)} {s : Sign} {i : ℕ} {o : Outcome (Tree p)} → slice_get ts i ≡ Some (tok.Sign s) → Reads ts p (f i) (i + 1) o → Reads ts p (then (sign s) f) i o
  sign_read {i = i} h R = reads_token tt i (h, refl) R

  pub word_read : {f : ℕ → Rule (Tree p)} {w : Keyword} {i : ℕ} {o : Outcome (Tree p)} → slice_get ts i ≡ Some (tok.Word w) → Reads ts p (f i) (i + 1) o → Reads ts p (then (word w) f) i o
  word_read {i = i} h R = reads_token tt i (h, refl) R

  -- a token that is not there
  pub sign_missing : {f : ℕ → Rule (Tree p)} {s : Sign} {i : ℕ} → slice_get ts i ≢ Some (tok.Sign s) → Reads ts p (then (sign s) f) i (refused i)
  sign_missing h = reads_missing tt (λ y a. h a.0)

  pub word_missing : {f : ℕ → Rule (Tree p)} {w : Keyword} {i : ℕ} → slice_get ts i ≢ Some (tok.Word w) → Reads ts p (then (word w) f) i (refused i)
  word_missing h = reads_missing tt (λ y a. h a.0)

  pub name_missing : {f : Named → Rule (Tree p)} {i : ℕ} → ((n : NameId) → slice_get ts i ≢ Some (tok.Name n)) → Reads ts p (then name f) i (refused i)
  name_missing h = reads_missing tt (λ y a. h _ a.0)

  -- an alternative that another token begins
  pub off_sign : {f : ℕ → Rule (Tree p)} {s : Sign} {i : ℕ} → slice_get ts i ≢ Some (tok.Sign s) → Off ts p (then (sign s) f) i
  off_sign h = off (misses_token tt (λ y a. h a.0))

  pub off_word : {f : ℕ → Rule (Tree p)} {w : Keyword} {i : ℕ} → slice_get ts i ≢ Some (tok.Word w) → Off ts p (then (word w) f) i
  off_word h = off (misses_token tt (λ y a. h a.0))

  pub no_operator : {l : Level} {i : ℕ} {t : Tok} → slice_get ts i ≡ Some t → operator_of l t ≡ None → {f : SemanticValue (operator l) → Rule (Tree p)} → Misses ts p (then (operator l) f) i
  no_operator {l = l} h k = misses_token tt (λ y a. let e : a.0 ≡ _ = cc (a.1, h) in let n : operator_of l a.0 ≡ None = rw e k in cc (n, a.2))
