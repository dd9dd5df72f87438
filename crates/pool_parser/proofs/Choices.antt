-- Rules that begin with a phrase that may be empty.
use Rattle.std.proofs.Common.{◌≡◌, ℕ, ◌+◌, ◌≤◌, ⊎_elim, List, arith, subst, sym, eq-or-lt_of_le}
use Rattle.pool_syntax.specs.declared.token.Tok.{Tok}
use Rattle.pool_grammar.specs.Rules.{Phrase, Tree, phrase, Rule, then}
use Rattle.pool_grammar.specs.Grammar.{rule}
use Rattle.pool_grammar.specs.Derives.{Derives, Begins}
use Rattle.expression_parser.specs.Reads.{Stops}
use Rattle.expression_parser.proofs.Laws.{Clear, Misses, at_least, begins_at_least, front_of, Derives-inner, Begins-inner}

-- a phrase that may be empty, and a rest that may stand behind q
pub clear_through : {ts : List Tok} {p q c : Phrase} {f : Tree c → Rule (Tree p)} → ((k : ℕ) → Begins ts c (rule c) k (k + 1) → Stops ts q k) → ((y : Tree c) → Clear ts p (f y) q) → Clear ts p (then (phrase c) f) q
clear_through {ts = ts} {p = p} {f = f} a b = record {
  begun = λ k d. ⊎_elim (a k) (λ e.
      ⊎_elim (λ h. a k (front_of (k + 1) e.2 (omega arith) (omega arith)))
      (λ h. (b e.1).begun k (let same : e.0 ≡ k = let l : k ≤ e.0 = at_least e.2 in omega arith in subst (λ (n : ℕ). Begins ts p (f e.1) n (k + 1)) same e.3))
      (eq-or-lt_of_le (begins_at_least e.3))) (Begins-inner d);
  empty = λ k x d. let e = Derives-inner d in
      (b e.1).empty k x (let same : e.0 ≡ k = let l : k ≤ e.0 = at_least e.2 in let n : e.0 ≤ k = at_least e.3 in omega arith in subst (λ (n : ℕ). Derives ts p (f e.1) n k x) same e.3);
}

-- an alternative that begins with a phrase that may be empty, where neither it nor the rest begins
pub misses_through : {ts : List Tok} {p q : Phrase} {f : Tree q → Rule (Tree p)} {i : ℕ} → (Begins ts q (rule q) i (i + 1) → ⊥) → ((y : Tree q) → Misses ts p (f y) i) → Misses ts p (then (phrase q) f) i
misses_through {ts = ts} {p = p} {f = f} {i = i} a b = record {
  begun = λ d. ⊎_elim a (λ e.
      ⊎_elim (λ h. (b e.1).begun (subst (λ (n : ℕ). Begins ts p (f e.1) n (i + 1)) (sym h) e.3))
      (λ h. a (front_of (i + 1) e.2 (omega arith) (omega arith)))
      (eq-or-lt_of_le (at_least e.2))) (Begins-inner d);
  empty = λ x d. let e = Derives-inner d in
      (b e.1).empty x (let same : e.0 ≡ i = let l : i ≤ e.0 = at_least e.2 in let n : e.0 ≤ i = at_least e.3 in omega arith in subst (λ (n : ℕ). Derives ts p (f e.1) n i x) same e.3);
}
